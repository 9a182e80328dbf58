use Rattle.std.proofs.Common.{ℕ, ◌∙◌, ap, sym, arith}
use Rattle.word_desk.specs.WordDesk.{WordDeskView, DeskSeatView}
use Rattle.atomic_table.specs.Table.{Me}
use Rattle.word_desk.specs.declared.view.View.{View}
use Rattle.word_desk.proofs.Moves.{draws}
use Rattle.word_desk.proofs.Seats.{drew_seat}
use Rattle.word_desk.proofs.Fresh.{none_late}
use Rattle.word_desk.proofs.desk.WordDesk.draw.Goals as goal

pub fetch_add-found-requires : goal.fetch_add-found-requires
fetch_add-found-requires c =
    let shared = c.self.inside.table.shared in
    let seat = c.seat.inside.seat in
    let ends = ap (λ (s : DeskSeatView). s.draw_ends) c.seat.view_is ∙ c.requires.goes_on in (
      ap (λ (s : DeskSeatView). s.desk.words) c.seat.view_is ∙ (ap (λ (d : WordDeskView). d.words) c.requires.seat ∙ sym (ap (λ (d : WordDeskView). d.words) c.self.view_is)),
      omega (arith, c.self.invariant.0),
      draws shared.table_id.slots seat.id seat.me c.seat.invariant.0.part (none_late c.seat.inside.expansions seat.me.0 c.seat.invariant.0.expansions.1 ends),
    )

pub invariant_of-seat-2 : goal.invariant_of-seat-2
invariant_of-seat-2 c =
    let inside = c.seat.inside in
    let step = c.fetch_add-found.ensures.2 in
    let later = c.fetch_add-found.new.seat in
    let same = ap (λ (s : DeskSeatView). s.desk.expansions) c.seat.view_is ∙ (ap (λ (d : WordDeskView). d.expansions) c.requires.seat ∙ sym (ap (λ (d : WordDeskView). d.expansions) c.self.view_is)) in
    let kept = drew_seat
    (record { words = inside.seat.table_id; position = inside.position; expansions = inside.expansions; room = inside.room })
    later.table_id
    inside.seat.me.0
    later.me.0
    inside.note
    c.fetch_add-found.result
    inside.drawn
    c.seat.invariant.0
    (ap (λ (m : Me ℕ View). m.0) step.0)
    step.1
    c.if-found-ge-POSTED.false
    (rw same c.if-found-self.false)
    c.seat.invariant.2 in (
      kept.0,
      ap (λ (m : Me ℕ View). m.1) step.0 ∙ c.seat.invariant.1,
      kept.1,
      kept.2 ∙ c.seat.invariant.3,
    )
