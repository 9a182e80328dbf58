use Rattle.std.proofs.Common.{◌≡◌, ◌∷◌, ◌++◌, [], ap, sym, ◌∙◌, arith, length, length-append}
use Rattle.std.proofs.lemmas.List.Elements.{All-head, All-rest, All-same, All-push}
use Rattle.word_desk.specs.WordDesk.{DeskSeatView}
use Rattle.shared_tests.proofs.shared_desk.draw_in_turn.Goals as goal

pub loop-preserved-in-Some-drawn_by : goal.loop-preserved-in-Some-drawn_by
loop-preserved-in-Some-drawn_by c =
    let left = c.pop_front.new.self.items in
    let old = c.loop.waiting.items in
    let kept = c.loop.invariant in
    let P : DeskSeatView → Type 0 = λ s. (s.desk ≡ c.args.desk.now) × (s.parts ≡ 1) × (s.draw_ends ≡ 0) in
    let items = c.in-Some.ensures.items in
    let here = All-head P c.in-Some.seat left (All-same P (c.in-Some.seat ∷ left) old (sym items) kept.0) in
    let same = c.in-Some-drawn_by.ensures.same in
    let now = c.drawn_by.new.seat in
    let pushed = c.in_ok-push_back.ensures.items in
    let P_now : P now = (same.0, same.1 ∙ here.1, c.in-Some-drawn_by.ensures.goes_on) in
    let more = ap length items in
    let whole = kept.2 in (
      All-same P c.push_back.new.self.items (left ++ now ∷ []) pushed (All-push P left now (All-rest P c.in-Some.seat left old items kept.0) P_now),
      kept.1,
      omega (arith, ap length pushed, length-append left (now ∷ []), more, whole),
    )

pub loop-preserved : goal.loop-preserved
loop-preserved c =
    let left = c.pop_front.new.self.items in
    let old = c.loop.waiting.items in
    let kept = c.loop.invariant in
    let P : DeskSeatView → Type 0 = λ s. (s.desk ≡ c.args.desk.now) × (s.parts ≡ 1) × (s.draw_ends ≡ 0) in
    let Q : DeskSeatView → Type 0 = λ s. (s.desk ≡ c.args.desk.now) × (s.parts ≡ 1) in
    let items = c.in-Some.ensures.items in
    let here = All-head P c.in-Some.seat left (All-same P (c.in-Some.seat ∷ left) old (sym items) kept.0) in
    let same = c.drawn_by.ensures.same in
    let now = c.drawn_by.new.seat in
    let pushed = c.in_ok-push_back-2.ensures.items in
    let Q_now : Q now = (same.0, same.1 ∙ here.1) in
    let more = ap length items in
    let whole = kept.2 in (
      All-rest P c.in-Some.seat left old items kept.0,
      All-same Q c.push_back-in-loop.new.self.items (c.loop.ended.items ++ now ∷ []) pushed (All-push Q c.loop.ended.items now kept.1 Q_now),
      omega (arith, ap length pushed, length-append c.loop.ended.items (now ∷ []), more, whole),
    )
