use Rattle.std.proofs.Common.{Some, ap, arith, subst, sym, ℕ, ◌*◌, ◌∙◌, ◌≤◌, ◌≡◌}
use Rattle.notes.specs.declared.words.Kept.{Kept}
use Rattle.notes.specs.declared.words.Kept.TheVariants.{Slot}
use Rattle.table_shard.specs.Spot.{word_of}
use Rattle.visit_log.specs.Counts.{slot_once}
use Rattle.visit_log.specs.declared.words.Request.TheVariants.{Leave}
use Rattle.visit_log.specs.declared.words.Reply.TheVariants.{Leave as LeftIt}
use Rattle.worker_core.specs.Port.{IsBooked}
use Rattle.worker_counts.specs.Counts.{times, AreBelow}
use Rattle.shared_table.specs.Calls.{LeavesAndSubtracts, MayLeave}
use Rattle.shared_table.specs.Rows.{RanOn}
use Rattle.shared_table.specs.Seat.{at_row}
use Rattle.table_port.specs.Port.{TablePortView, TableTurns, all_rows, book_of}
use Rattle.word_desk.specs.WordDesk.{WordDeskView}
use Rattle.table_port.proofs.Asked.{AsksAt, site_is, for_side, leave_turns, leave_books, may_leave}
use Rattle.table_port.proofs.port.TablePortPort.leave.Goals as goal

pub leave_on-requires-clause-may : goal.leave_on-requires-clause-may
leave_on-requires-clause-may g c =
    let port : TablePortView = record {
      cut = c.args.self.now.cut;
      shards = g.R.Rows.shards c.args.self.now.rows;
      seat = c.args.self.now.seats.row;
      desk = c.args.self.now.seats.desk_seat;
    } in
    let held : (w : ℕ) → slot_once (word_of (all_rows port.cut)) (Slot c.in-Slot.field-0) c.args.key.now w ≤ times w port.seat.seat.view.added =
    subst (λ (kept : Kept). (w : ℕ) → slot_once (word_of (all_rows port.cut)) kept c.args.key.now w ≤ times w port.seat.seat.view.added) c.in-Slot.is c.requires.held in
    let may : MayLeave (at_row port.seat c.site_of-site.result.word) (Slot c.in-Slot.field-0) =
    may_leave (all_rows port.cut) c.args.key.now c.in-Slot.field-0 c.site_of-site.result.word port.seat
    (subst (λ (size : ℕ). AreBelow size port.seat.seat.view.added) c.args.self.now.eight c.laws.ensures.below) held c.site_of-site.ensures.words in
    subst (MayLeave (at_row port.seat c.site_of-site.result.word)) (sym c.in-Slot.is) may

pub leave_on-requires-clause-at : goal.leave_on-requires-clause-at
leave_on-requires-clause-at g c =
    site_is c.site_of-site.result c.args.key.now (c.args.self.now.cut.shards * c.args.self.now.cut.own) c.args.self.now.seats.row.seat.counts.words
    c.site_of-site.ensures.hash c.args.self.now.eight c.site_of-site.ensures.inside c.site_of-site.ensures.words

pub returns-clause-turn : goal.returns-clause-turn
returns-clause-turn g c path =
    let port : TablePortView = record {
      cut = c.args.self.now.cut;
      shards = g.R.Rows.shards c.args.self.now.rows;
      seat = c.args.self.now.seats.row;
      desk = c.args.self.now.seats.desk_seat;
    } in
    let here = c.site_of-site.ensures.words 0 (omega arith) in
    let site : AsksAt port c.args.key.now c.site_of-site.result = record { shard = c.site_of-site.ensures.shard; word = omega (arith, here) } in
    let side : g.J.Job.ATTACKER ≡ port.desk.desk.position.side =
    sym c.args.self.now.attacks ∙ ap (λ (d : WordDeskView). d.position.side) (sym c.args.self.now.seated) in
    let ran : RanOn port.desk.desk.position.side port.shards (g.R.Rows.shards c.leave_on.new.rows) c.site_of-site.result.shard (λ old new. LeavesAndSubtracts old (at_row port.seat c.site_of-site.result.word) (Slot c.in-Slot.field-0) c.args.key.now
    c.args.update new c.leave_on.new.seat) =
    subst (λ (kept : Kept). RanOn port.desk.desk.position.side port.shards (g.R.Rows.shards c.leave_on.new.rows) c.site_of-site.result.shard (λ old new. LeavesAndSubtracts old (at_row port.seat c.site_of-site.result.word) kept c.args.key.now
    c.args.update new c.leave_on.new.seat)) c.in-Slot.is (for_side g.J.Job.ATTACKER port.desk.desk.position.side port.shards (g.R.Rows.shards c.leave_on.new.rows) c.site_of-site.result.shard _ side c.leave_on.ensures.leaves) in
    let after : TablePortView = record port { shards = g.R.Rows.shards c.leave_on.new.rows; seat = c.leave_on.new.seat } in
    subst (λ (kept : Kept). TableTurns port (g.T.Stop.signal c.args.self.now.watch.stop) path (Leave kept c.args.key.now c.args.update) (Some LeftIt) after (g.T.Stop.signal c.args.self.now.watch.stop)) (sym c.in-Slot.is)
    (leave_turns port (g.R.Rows.shards c.leave_on.new.rows) c.leave_on.new.seat (g.T.Stop.signal c.args.self.now.watch.stop) path c.args.key.now c.args.update c.site_of-site.result c.in-Slot.field-0 site ran)

pub returns-clause-book : goal.returns-clause-book
returns-clause-book g c =
    let port : TablePortView = record {
      cut = c.args.self.now.cut;
      shards = g.R.Rows.shards c.args.self.now.rows;
      seat = c.args.self.now.seats.row;
      desk = c.args.self.now.seats.desk_seat;
    } in
    let held : (w : ℕ) → slot_once (word_of (all_rows port.cut)) (Slot c.in-Slot.field-0) c.args.key.now w ≤ times w port.seat.seat.view.added =
    subst (λ (kept : Kept). (w : ℕ) → slot_once (word_of (all_rows port.cut)) kept c.args.key.now w ≤ times w port.seat.seat.view.added) c.in-Slot.is c.requires.held in
    let may : MayLeave (at_row port.seat c.site_of-site.result.word) (Slot c.in-Slot.field-0) =
    may_leave (all_rows port.cut) c.args.key.now c.in-Slot.field-0 c.site_of-site.result.word port.seat
    (subst (λ (size : ℕ). AreBelow size port.seat.seat.view.added) c.args.self.now.eight c.laws.ensures.below) held c.site_of-site.ensures.words in
    let side : g.J.Job.ATTACKER ≡ port.desk.desk.position.side =
    sym c.args.self.now.attacks ∙ ap (λ (d : WordDeskView). d.position.side) (sym c.args.self.now.seated) in
    let ran : RanOn port.desk.desk.position.side port.shards (g.R.Rows.shards c.leave_on.new.rows) c.site_of-site.result.shard (λ old new. LeavesAndSubtracts old (at_row port.seat c.site_of-site.result.word) (Slot c.in-Slot.field-0) c.args.key.now
    c.args.update new c.leave_on.new.seat) =
    subst (λ (kept : Kept). RanOn port.desk.desk.position.side port.shards (g.R.Rows.shards c.leave_on.new.rows) c.site_of-site.result.shard (λ old new. LeavesAndSubtracts old (at_row port.seat c.site_of-site.result.word) kept c.args.key.now
    c.args.update new c.leave_on.new.seat)) c.in-Slot.is (for_side g.J.Job.ATTACKER port.desk.desk.position.side port.shards (g.R.Rows.shards c.leave_on.new.rows) c.site_of-site.result.shard _ side c.leave_on.ensures.leaves) in
    let after : TablePortView = record port { shards = g.R.Rows.shards c.leave_on.new.rows; seat = c.leave_on.new.seat } in
    subst (λ (kept : Kept). IsBooked (Leave kept c.args.key.now c.args.update, Some LeftIt) (book_of port) (book_of after)) (sym c.in-Slot.is)
    (leave_books port (g.R.Rows.shards c.leave_on.new.rows) c.leave_on.new.seat c.args.key.now c.args.update c.site_of-site.result c.in-Slot.field-0 c.view_laws.ensures.less c.view_laws.ensures.shorter
    c.site_of-site.ensures.words may ran)
