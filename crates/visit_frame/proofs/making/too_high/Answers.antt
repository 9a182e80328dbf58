use Rattle.std.proofs.Common.{◌≡◌, ◌+◌, ◌++◌, List, [], ◌∷◌, take, max, sym, ap, ◌∙◌, arith}
use Rattle.std.proofs.lemmas.List.{take_more}
use Rattle.std.specs.Prelude.{Option}
use Rattle.notes.specs.Derivation.{Derivation, height_of, highest}
use Rattle.visit_log.specs.declared.parts.Child.{Child}
use Rattle.visit_log.specs.Children.{note_list, notes_in}
use Rattle.visit_frame.proofs.Gathering.{notes_more, highest_both}
use Rattle.visit_frame.proofs.making.too_high.Goals as goal
use Rattle.visit_frame.proofs.making.too_high.Goals.{in-Some, in-None}

pub loop-child-preserved : goal.loop-child-preserved
loop-child-preserved c =
    let xs = c.args.children.now in
    let i = c.loop-child.child-index in
    let one = c.child-item.result in
    let more : take (i + 1) xs ≡ take i xs ++ one ∷ [] =
    take_more xs i one c.loop-child-test.true ∙ ap (λ (z : Child). take i xs ++ z ∷ []) (sym c.child-item.is) in
    let all : highest (notes_in (take (i + 1) xs)) ≡ max (highest (notes_in (take i xs))) (highest (note_list one.note)) =
    ap (λ (children : List Child). highest (notes_in children)) more
    ∙ (ap highest (notes_more (take i xs) one) ∙ highest_both (notes_in (take i xs)) (note_list one.note)) in
    elim c.match-child.branch [
      | in-Some w ↦ (
          let list : highest (note_list one.note) ≡ max (height_of w.in-Some.note) 0 = ap (λ (o : Option Derivation). highest (note_list o)) w.in-Some.is in
          let before = c.loop-child.invariant in
          omega (arith, all, list, before, w.greatest-is, w.greater-greatest.ensures, w.height.ensures))
      | in-None w ↦ (
          let list : highest (note_list one.note) ≡ 0 = ap (λ (o : Option Derivation). highest (note_list o)) w.in-None.is in
          let before = c.loop-child.invariant in
          omega (arith, all, list, before, w.greatest-is))
    ]
