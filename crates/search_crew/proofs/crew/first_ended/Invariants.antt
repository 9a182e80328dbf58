use Rattle.std.proofs.Common.{◌≡◌, ◌<◌, ℕ}
use Rattle.std.specs.Prelude.{Some, slice_get}
use Rattle.visit_log.specs.Run.{WorkerView}
use Rattle.search_crew.specs.End.{EndedOtherwise}
use Rattle.search_crew.proofs.crew.first_ended.Given as goal

-- none of those so far ended so
abbrev pub invariant-loop-place : goal.invariant-loop-place
invariant-loop-place l =
    (earlier : ℕ) (other : WorkerView) → earlier < l.place → slice_get l.crew earlier ≡ Some other → EndedOtherwise l.end other
