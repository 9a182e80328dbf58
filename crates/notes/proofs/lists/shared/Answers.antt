use Rattle.std.proofs.Common.{◌∷◌, [], ◌++◌, ◌∙◌, List, length, refl, sym, ap, subst}
use Rattle.std.proofs.lemmas.List.{take_all}
use Rattle.std.proofs.lemmas.Option.{slice_get_read}
use Rattle.notes.specs.Derivation.{Derivation, derivations}
use Rattle.notes.specs.Valid.{AreValid}
use Rattle.notes.proofs.Gathered.{first_more, valid_more}
use Rattle.notes.proofs.lists.shared.Goals as goal

pub loop-note-init : goal.loop-note-init
loop-note-init c = (c.new-all.ensures.items, subst (λ (notes : List Derivation). AreValid (derivations notes)) (sym c.new-all.ensures.items) tt)

pub loop-note-preserved : goal.loop-note-preserved
loop-note-preserved c =
    let notes = c.args.notes.now in
    let k = c.loop-note.note-index in
    let one = c.in_ok-share.ensures in
    let items = c.in_ok-push.ensures.items ∙ ap (λ (n : Derivation). c.loop-note.all.items ++ n ∷ []) one in
    let there = slice_get_read notes (length notes) k c.note-item.result refl c.loop-note-test.true c.note-item.is in (
      items ∙ (ap (λ (before : List Derivation). before ++ c.note-item.result ∷ []) c.loop-note.invariant.0 ∙ sym (first_more notes k c.note-item.result there)),
      subst (λ (all : List Derivation). AreValid (derivations all)) (sym items) (valid_more c.loop-note.all.items c.note-item.result c.loop-note.invariant.1 c.laws.ensures.valid),
    )

pub returns-clause-notes : goal.returns-clause-notes
returns-clause-notes c = c.loop-note.invariant.0 ∙ take_all c.loop-note.note-index c.args.notes.now c.loop-note-test.false

pub returns-clause-valid : goal.returns-clause-valid
returns-clause-valid c = c.loop-note.invariant.1
