use Rattle.std.proofs.Common.{◌≡◌, ◌<◌, ℕ}
use Rattle.std.specs.Prelude.{Some, slice_get}
use Rattle.board_core.specs.declared.moves.Move.{Move}
use Rattle.shogi_rules.specs.Rules.{after}
use Rattle.bound_check.specs.Valid.{Keeps}
use Rattle.bound_check.proofs.evading.is_kept.Given as goal

abbrev pub invariant-loop-evasion : goal.invariant-loop-evasion
invariant-loop-evasion l = (k : ℕ) (a : Move) → k < l.evasion-index → slice_get l.evasion-items k ≡ Some a
    → ¬ Keeps l.entries l.entry.bound.number (after l.checked a)
