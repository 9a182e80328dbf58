use Rattle.side_by_side.proofs.Places.{answer_there}
use Rattle.side_by_side.proofs.team.answer_at.Goals as goal

pub returns-in-Some-clause-answer : goal.returns-in-Some-clause-answer
returns-in-Some-clause-answer g c =
    answer_there (g.J.Jobs.is_answer c.args.jobs.now) c.args.slots.now c.args.number _ c.in-Some.ensures.answer c.requires.slots c.requires.number
