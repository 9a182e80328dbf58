use Rattle.shared_table.proofs.Notes.{enter_for}
use Rattle.shared_table.proofs.shard.JobShard.enter.Goals as goal

pub invariant_of-self : goal.invariant_of-self
invariant_of-self g c =
    enter_for g.J.Job.ATTACKER g.P.Pins.told c.self.inside.shard c.args.key.now c.args.numbers c.args.pins.now c.enter-kept.result c.enter-kept.new.self c.enter-kept.new.pins
    c.laws.ensures.some c.enter-kept.ensures.entered c.self.invariant
