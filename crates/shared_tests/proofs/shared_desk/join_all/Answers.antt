use Rattle.std.proofs.Common.{◌≡◌, ◌∷◌, ap, sym, ◌∙◌, arith, length}
use Rattle.std.proofs.lemmas.List.Elements.{All-head, All-rest, All-same}
use Rattle.word_desk.specs.WordDesk.{DeskSeatView}
use Rattle.shared_tests.proofs.shared_desk.join_all.Goals as goal

pub loop-seat-preserved : goal.loop-seat-preserved
loop-seat-preserved c =
    let seat = c.in-Some.seat in
    let left = c.pop_front.new.self.items in
    let old = c.loop-seat.seats.items in
    let kept = c.loop-seat.invariant in
    let P : DeskSeatView → Type 0 = λ s. (s.desk ≡ c.args.desk.now) × (s.parts ≡ 1) in
    let items = c.in-Some.ensures.items in
    let here = All-head P seat left (All-same P (seat ∷ left) old (sym items) kept.1) in
    let parts = ap (λ (s : DeskSeatView). s.parts) c.join_seat.ensures in
    let more = ap length items in
    let whole = kept.2 in
    let one = here.1 in (
      ap (λ (s : DeskSeatView). s.desk) c.join_seat.ensures ∙ kept.0,
      All-rest P seat left old items kept.1,
      omega (arith, parts, more, whole, one),
    )
