use Rattle.shared_table.proofs.Notes.{leave_for}
use Rattle.shared_table.proofs.shard.JobShard.leave.Goals as goal

pub invariant_of-self : goal.invariant_of-self
invariant_of-self g c =
    leave_for g.J.Job.ATTACKER c.self.inside.shard c.args.slot c.args.key.now c.args.update c.leave_held.new.self
    c.laws.ensures.some c.requires.sound c.leave_held.ensures.left c.self.invariant
