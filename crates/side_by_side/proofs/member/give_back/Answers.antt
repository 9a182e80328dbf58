use Rattle.side_by_side.proofs.Places.{given_back}
use Rattle.side_by_side.proofs.member.give_back.Goals as goal

pub loop-made-preserved : goal.loop-made-preserved
loop-made-preserved g c =
    given_back (g.J.Jobs.is_answer c.args.jobs.now) c.loop-made.slots c.put.new.slots _ _ c.in-Some.made _ c.put.ensures c.in-Some.ensures.items
    c.loop-made.invariant
