use Rattle.std.proofs.Common.{◌≡◌, length}
use Rattle.side_by_side.specs.Answers.{AreAnswers}
use Rattle.side_by_side.specs.Inside.{AreAnswersAt}
use Rattle.side_by_side.proofs.team.in_order.Given as goal

-- the answers so far are in order
abbrev pub invariant-loop-number : goal.invariant-loop-number
invariant-loop-number g l = (length l.slots ≡ length l.fn.slots) × AreAnswersAt (g.J.Jobs.is_answer l.fn.jobs) l.slots
    × AreAnswers l.number (g.J.Jobs.is_answer l.fn.jobs) l.answers.items
