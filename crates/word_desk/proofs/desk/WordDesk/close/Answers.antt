use Rattle.std.proofs.Common.{◌≡◌, ◌∙◌, ap, sym, subst, slice_index}
use Rattle.std.specs.Prelude.{min}
use Rattle.core.specs.Mem.Slots.{slots_items}
use Rattle.word_desk.specs.declared.view.TheConstants.{MOST_SEATS}
use Rattle.word_desk.specs.WordDesk.{WordDeskView, DeskSeatView, Ends}
use Rattle.word_desk.proofs.Views.{slice_index-at}
use Rattle.word_desk.proofs.Ending.{closes, ends}
use Rattle.word_desk.proofs.desk.WordDesk.close.Goals as goal

pub returns : goal.returns
returns c =
    let inside = c.seat.inside in
    let words = slots_items c.close_with-closed.result.words in
    let every : inside.seat.me.0.parts ≡ MOST_SEATS = ap (λ (s : DeskSeatView). s.parts) c.seat.view_is ∙ c.requires.every_part in
    let all = closes inside.seat.id inside.seat.me.0 words _ every c.close_with-closed.ensures.values.2 in
    let claims : slice_index words 1 ≡ c.word-claims.result = slice_index-at words 1 c.word-claims.result c.word-claims.ensures in
    let room = ap (λ (s : DeskSeatView). s.desk.room) c.seat.view_is ∙ (ap (λ (d : WordDeskView). d.room) c.requires.seat ∙ sym (ap (λ (d : WordDeskView). d.room) c.self.view_is)) in
    let claimed : c.min.result ≡ min (slice_index words 1) inside.room = c.min.ensures ∙ (λ k. min (sym claims k) ((c.from.ensures ∙ sym room) k)) in
    let T : DeskSeatView → Type 0 = λ s. Ends s inside.drawn c.min.result inside.note in
    subst T c.seat.view_is (ends (record { words = inside.seat.table_id; position = inside.position; expansions = inside.expansions; room = inside.room })
    words inside.seat.me.0 inside.drawn c.min.result inside.note all c.seat.invariant.0.note c.seat.invariant.2 claimed c.seat.invariant.3)
