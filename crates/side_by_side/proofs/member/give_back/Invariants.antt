use Rattle.std.proofs.Common.{◌≡◌, length, vec_len}
use Rattle.side_by_side.specs.Inside.{AreMade, AreAnswersAt}
use Rattle.side_by_side.proofs.member.give_back.Given as goal

-- what stands at the places, and what the member has still, are answers of their jobs
abbrev pub invariant-loop-made : goal.invariant-loop-made
invariant-loop-made g l = (length l.slots ≡ length l.fn.slots) × AreAnswersAt (g.J.Jobs.is_answer l.fn.jobs) l.slots
    × AreMade (g.J.Jobs.is_answer l.fn.jobs) l.member.made.items

abbrev pub decreases-loop-made : goal.decreases-loop-made
decreases-loop-made g l = vec_len l.member.made
