use Rattle.std.proofs.Common.{◌∙◌}
use Rattle.side_by_side.proofs.Places.{answered_on}
use Rattle.side_by_side.proofs.team.in_order.Goals as goal

pub loop-number-preserved : goal.loop-number-preserved
loop-number-preserved g c = (
  c.in_ok-answer.ensures.count ∙ c.loop-number.invariant.0,
  c.in_ok-answer.ensures.slots,
  answered_on (g.J.Jobs.is_answer c.args.jobs.now) c.loop-number.number c.loop-number.answers.items c.push.new.self.items c.in_ok-answer.answer
      c.loop-number.invariant.2 c.in_ok-answer.ensures.answer c.in_ok-push.ensures.items,
)
