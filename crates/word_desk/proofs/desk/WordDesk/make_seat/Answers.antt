use Rattle.std.proofs.Common.{◌<◌, ◌∙◌, ap, sym, arith}
use Rattle.word_desk.specs.WordDesk.{WordDeskView, DeskSeatView}
use Rattle.word_desk.proofs.Moves.{splits}
use Rattle.word_desk.proofs.Fresh.{none_late, none_later}
use Rattle.word_desk.proofs.desk.WordDesk.make_seat.Goals as goal

pub split_seat-requires : goal.split_seat-requires
split_seat-requires c =
    let shared = c.self.inside.table.shared in
    let seat = c.seat.inside.seat in
    let draw_ends = ap (λ (s : DeskSeatView). s.draw_ends) c.seat.view_is ∙ c.requires.goes_on.0 in
    let claim_ends = ap (λ (s : DeskSeatView). s.claim_ends) c.seat.view_is ∙ c.requires.goes_on.1 in
    let many : 1 < seat.me.0.parts = rw (ap (λ (s : DeskSeatView). s.parts) c.seat.view_is) c.requires.parts in (
      ap (λ (s : DeskSeatView). s.desk.words) c.seat.view_is ∙ (ap (λ (d : WordDeskView). d.words) c.requires.seat ∙ sym (ap (λ (d : WordDeskView). d.words) c.self.view_is)),
      omega (arith, c.self.invariant.0),
      splits seat.id seat.me.0 many (none_late c.seat.inside.expansions seat.me.0 c.seat.invariant.0.expansions.1 draw_ends) (none_later c.seat.inside.room seat.me.0 c.seat.invariant.0.room.1 claim_ends),
    )
