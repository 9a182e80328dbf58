use Rattle.std.proofs.Common.{◌≡◌, ◌≤◌, ℕ, length, slice_index_or}
use Rattle.side_by_side.specs.Inside.{AreAnswersAt}
use Rattle.side_by_side.proofs.team.gather.Given as goal

-- the members that are still to come are as they were, and what stands at the places are answers of
-- their jobs
abbrev pub invariant-loop-at : goal.invariant-loop-at
invariant-loop-at g l = (length l.members ≡ length l.fn.members) × (length l.slots ≡ length l.fn.slots)
    × ((k : ℕ) (d : _) → l.at ≤ k → slice_index_or l.members k d ≡ slice_index_or l.fn.members k d)
    × AreAnswersAt (g.J.Jobs.is_answer l.fn.jobs) l.slots
