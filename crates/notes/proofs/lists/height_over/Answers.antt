use Rattle.std.proofs.Common.{◌∙◌, length, arith, refl, ap, take}
use Rattle.std.proofs.lemmas.Option.{slice_get_read}
use Rattle.notes.specs.Derivation.{highest}
use Rattle.notes.proofs.Gathered.{first_more, highest_more}
use Rattle.notes.proofs.lists.height_over.Goals as goal

pub loop-note-preserved : goal.loop-note-preserved
loop-note-preserved c =
    let notes = c.args.notes.now in
    let k = c.loop-note.note-index in
    let there = slice_get_read notes (length notes) k c.note-item.result refl c.loop-note-test.true c.note-item.is in
    let all = ap highest (first_more notes k c.note-item.result there) ∙ highest_more (take k notes) c.note-item.result in
    let own = c.height.ensures in let before = c.loop-note.invariant in let greater = c.greater-greatest.ensures in
    omega (arith, all, own, before, greater)
