use Rattle.std.proofs.Common.{◌≡◌, ◌<◌, ℕ}
use Rattle.std.specs.Prelude.{Some, slice_get}
use Rattle.bound_text.specs.declared.entry.BoundEntry.{BoundEntry}
use Rattle.bound_check.specs.Valid.{IsHeld}
use Rattle.bound_check.proofs.verdict.verdict_on.Given as goal

abbrev pub invariant-loop-place : goal.invariant-loop-place
invariant-loop-place l = (k : ℕ) (e : BoundEntry) → k < l.place → slice_get l.bound.entries k ≡ Some e → IsHeld l.bound.entries l.problem.position.side e
