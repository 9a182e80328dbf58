use Rattle.std.proofs.Common.{◌≡◌, take}
use Rattle.notes.specs.Derivation.{highest}
use Rattle.notes.proofs.lists.height_over.Given as goal

abbrev pub invariant-loop-note : goal.invariant-loop-note
invariant-loop-note l = l.greatest ≡ highest (take l.note-index l.notes)
