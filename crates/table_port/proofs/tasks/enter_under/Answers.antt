use Rattle.std.proofs.Common.{subst}
use Rattle.std.specs.Prelude.{Option, IsSomeAnd}
use Rattle.notes.specs.declared.words.Kept.{Kept}
use Rattle.shared_table.specs.Calls.{EntersAndAdds}
use Rattle.shared_table.specs.Seat.{at_row}
use Rattle.table_port.proofs.Asked.{ran_map}
use Rattle.table_port.proofs.tasks.enter_under.Goals as goal

pub returns-clause-enters : goal.returns-clause-enters
returns-clause-enters g c =
    let task = c.args.task.now in
    ran_map g.J.Job.ATTACKER (g.R.Rows.shards c.args.rows.now) (g.R.Rows.shards c.under.new.self) task.site.shard _ _
    (λ old new h. subst (λ (kept : Option Kept). IsSomeAnd kept (λ k. EntersAndAdds old (at_row task.seat.now task.site.word) task.key.now task.numbers k new c.under.new.task.seat.now)) c.in-Some.is h.1)
    c.under.ensures.ran
