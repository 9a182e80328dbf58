use Rattle.std.proofs.Common.{◌∙◌, ap, sym, arith}
use Rattle.word_desk.specs.WordDesk.{WordDeskView, DeskSeatView}
use Rattle.word_desk.proofs.Moves.{posts}
use Rattle.word_desk.proofs.desk.WordDesk.post.Goals as goal

pub fetch_or-found-requires : goal.fetch_or-found-requires
fetch_or-found-requires c =
    let shared = c.self.inside.table.shared in
    let seat = c.seat.inside.seat in (
      ap (λ (s : DeskSeatView). s.desk.words) c.seat.view_is ∙ (ap (λ (d : WordDeskView). d.words) c.requires.seat ∙ sym (ap (λ (d : WordDeskView). d.words) c.self.view_is)),
      omega (arith, c.self.invariant.0),
      posts shared.table_id.slots seat.id seat.me c.seat.invariant.0.part,
    )
