use Rattle.std.proofs.Common.{◌≡◌, ◌<◌, ℕ}
use Rattle.std.specs.Prelude.{Some, slice_get}
use Rattle.board_core.specs.declared.moves.Move.{Move}
use Rattle.mate_def.specs.Mate.{HasEvasionTo}
use Rattle.bound_check.specs.Valid.{Keeps}
use Rattle.bound_check.proofs.evading.first_unkept.Given as goal

abbrev pub invariant-loop-check : goal.invariant-loop-check
invariant-loop-check l = (k : ℕ) (m : Move) → k < l.check-index → slice_get l.check-items k ≡ Some m
    → HasEvasionTo l.problem.position.side (Keeps l.entries l.entry.bound.number) l.entry.at m
