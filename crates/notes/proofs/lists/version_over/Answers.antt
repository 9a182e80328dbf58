use Rattle.std.proofs.Common.{◌∙◌, List, length, ap, refl, sym, take}
use Rattle.std.proofs.lemmas.Option.{slice_get_read}
use Rattle.hand_dominance.specs.declared.version.Version.{Version}
use Rattle.notes.specs.Derivation.{Derivation, derivations, later, version_in, version_under}
use Rattle.notes.proofs.Gathered.{first_more, version_more}
use Rattle.notes.proofs.lists.version_over.Goals as goal

pub loop-note-preserved : goal.loop-note-preserved
loop-note-preserved c =
    let notes = c.args.notes.now in
    let k = c.loop-note.note-index in
    let note = c.note-item.result in
    let there = slice_get_read notes (length notes) k note refl c.loop-note-test.true c.note-item.is in
    c.later_of-version.ensures
    ∙ (ap (later c.loop-note.version) c.version.ensures
    ∙ (ap (λ (version : Version). later version (version_in note)) c.loop-note.invariant
    ∙ (sym (version_more (take k notes) note) ∙ ap (λ (ns : List Derivation). version_under (derivations ns)) (sym (first_more notes k note there)))))
