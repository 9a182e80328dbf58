use Rattle.std.proofs.Common.{◌≡◌, ◌<◌, ℕ}
use Rattle.std.specs.Prelude.{Some, slice_get}
use Rattle.board_core.specs.declared.moves.Move.{Move}
use Rattle.shogi_rules.specs.Rules.{after}
use Rattle.shortest_lists.specs.Line.{Lasts}
use Rattle.shortest_lists.proofs.line.first_lasting.Given as goal

abbrev pub invariant-loop-evasion : goal.invariant-loop-evasion
invariant-loop-evasion l = (i : ℕ) (m : Move) → i < l.evasion-index → slice_get l.evasion-items i ≡ Some m
    → ¬ Lasts l.certificate l.bound.entries l.rank (after l.checked m)
