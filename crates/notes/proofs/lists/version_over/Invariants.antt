use Rattle.std.proofs.Common.{◌≡◌, take}
use Rattle.notes.specs.Derivation.{derivations, version_under}
use Rattle.notes.proofs.lists.version_over.Given as goal

abbrev pub invariant-loop-note : goal.invariant-loop-note
invariant-loop-note l = l.version ≡ version_under (derivations (take l.note-index l.notes))
