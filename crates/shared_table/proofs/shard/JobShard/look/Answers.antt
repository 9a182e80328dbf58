use Rattle.std.proofs.Common.{◌≡◌, List, subst}
use Rattle.std.specs.Prelude.{MatchResult}
use Rattle.table_shard.specs.Entry.{EntryView}
use Rattle.table_shard.specs.Row.{LooksBy}
use Rattle.table_shard.specs.Shard.{row_of}
use Rattle.shared_table.proofs.Notes.{look_may}
use Rattle.shared_table.proofs.shard.JobShard.look.Goals as goal

pub returns-clause-may : goal.returns-clause-may
returns-clause-may g c =
    look_may g.J.Job.ATTACKER g.P.Pins.told c.args.to c.args.self.now c.args.key.now c.args.path.now c.args.pins.now c.look.new.pins c.look.result c.requires.to
    c.laws.ensures.some c.laws.ensures.rows c.laws.ensures.notes
    (subst (λ (rows : List (List EntryView)). MatchResult c.look.result
    (λ seen. LooksBy g.P.Pins.told c.args.to (row_of rows c.args.key.now) c.args.key.now c.args.path.now c.args.pins.now seen c.look.new.pins)
    (λ error. c.args.pins.now ≡ c.look.new.pins)) c.self.view_is c.look.ensures.looks)
