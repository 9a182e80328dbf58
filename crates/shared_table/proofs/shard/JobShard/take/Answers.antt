use Rattle.lone_port.proofs.Offered.{takes_for}
use Rattle.shared_table.proofs.shard.JobShard.take.Goals as goal

pub invariant_of-self : goal.invariant_of-self
invariant_of-self g c =
    takes_for g.J.Job.ATTACKER c.self.inside.shard c.args.note c.take.new.self c.laws.ensures.some c.take.ensures c.requires c.self.invariant
