use Rattle.std.proofs.Common.{◌≡◌, ◌+◌, ◌++◌, [], ◌∷◌, take, sym, ap, ◌∙◌}
use Rattle.visit_log.specs.declared.parts.Child.{Child}
use Rattle.std.proofs.lemmas.List.{take_more, append-nil}
use Rattle.visit_log.specs.Children.{note_list, notes_in}
use Rattle.visit_frame.proofs.Gathering.{notes_more}
use Rattle.visit_frame.proofs.making.notes_of.Goals as goal
use Rattle.visit_frame.proofs.making.notes_of.Goals.{in-Some+in_ok-share-in-Some+in_ok-push-in-Some, in-None}

pub loop-child-preserved : goal.loop-child-preserved
loop-child-preserved c =
    let xs = c.args.children.now in
    let i = c.loop-child.child-index in
    let one = c.child-item.result in
    let more : take (i + 1) xs ≡ take i xs ++ one ∷ [] =
    take_more xs i one c.loop-child-test.true ∙ ap (λ (z : Child). take i xs ++ z ∷ []) (sym c.child-item.is) in
    let notes : notes_in (take (i + 1) xs) ≡ notes_in (take i xs) ++ note_list one.note = ap notes_in more ∙ notes_more (take i xs) one in
    elim c.match-child.branch [
      | in-Some+in_ok-share-in-Some+in_ok-push-in-Some w ↦ let list = ap note_list w.in-Some.is in cc (w.in_ok-push-in-Some.ensures.items, w.in_ok-share-in-Some.ensures)
      | in-None w ↦ let list = ap note_list w.in-None.is in let none = append-nil (notes_in (take i xs)) in cc
    ]
