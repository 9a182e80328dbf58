use Rattle.std.proofs.Common.{◌≡◌, take}
use Rattle.notes.specs.Derivation.{derivations}
use Rattle.notes.specs.Valid.{AreValid}
use Rattle.notes.proofs.lists.shared.Given as goal

abbrev pub invariant-loop-note : goal.invariant-loop-note
invariant-loop-note l = (l.all.items ≡ take l.note-index l.notes) × AreValid (derivations l.all.items)
