use Rattle.std.proofs.Common.{ap, arith, sym, ◌*◌, ◌∙◌, ◌≡◌}
use Rattle.table_port.specs.Port.{TablePortView}
use Rattle.word_desk.specs.WordDesk.{WordDeskView}
use Rattle.table_port.proofs.Asked.{AsksAt, site_is, for_side, look_turns}
use Rattle.table_port.proofs.port.TablePortPort.look.Goals as goal

pub look_on-requires-clause-at : goal.look_on-requires-clause-at
look_on-requires-clause-at g c =
    site_is c.site_of-site.result c.args.key.now (c.args.self.now.cut.shards * c.args.self.now.cut.own) c.args.self.now.seats.row.seat.counts.words
    c.site_of-site.ensures.hash c.args.self.now.eight c.site_of-site.ensures.inside c.site_of-site.ensures.words

pub returns-clause-turn : goal.returns-clause-turn
returns-clause-turn g c =
    let port : TablePortView = record {
      cut = c.args.self.now.cut;
      shards = g.R.Rows.shards c.args.self.now.rows;
      seat = c.args.self.now.seats.row;
      desk = c.args.self.now.seats.desk_seat;
    } in
    let side : g.J.Job.ATTACKER ≡ port.desk.desk.position.side =
    sym c.args.self.now.attacks ∙ ap (λ (d : WordDeskView). d.position.side) (sym c.args.self.now.seated) in
    let here = c.site_of-site.ensures.words 0 (omega arith) in
    let site : AsksAt port c.args.key.now c.site_of-site.result = record { shard = c.site_of-site.ensures.shard; word = omega (arith, here) } in
    look_turns port (g.R.Rows.shards c.look_on.new.rows) c.look_on.new.seat (g.T.Stop.signal c.args.self.now.watch.stop) c.args.path.now c.args.key.now c.site_of-site.result c.look_on.result
    site (for_side g.J.Job.ATTACKER port.desk.desk.position.side port.shards (g.R.Rows.shards c.look_on.new.rows) c.site_of-site.result.shard _ side c.look_on.ensures.looks)
