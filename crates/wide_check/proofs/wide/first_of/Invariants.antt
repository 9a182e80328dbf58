use Rattle.std.proofs.Common.{◌≡◌, ◌<◌, ℕ}
use Rattle.std.specs.Prelude.{Some, None, slice_get}
use Rattle.wide_check.proofs.wide.first_of.Given as goal

abbrev pub invariant-loop-one : goal.invariant-loop-one
invariant-loop-one l = (k : ℕ) → k < l.one-index → slice_get l.found k ≡ Some None
