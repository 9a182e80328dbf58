use Rattle.std.proofs.Common.{◌≡◌}
use Rattle.notes.specs.Derivation.{source_of, steps_of}
use Rattle.notes.specs.Valid.{IsValid}
use Rattle.notes.proofs.note.Note.source.Given as goal

abbrev pub invariant-loop-note : goal.invariant-loop-note
invariant-loop-note l = IsValid l.note × (source_of l.note ≡ source_of l.self)

abbrev pub decreases-loop-note : goal.decreases-loop-note
decreases-loop-note l = steps_of l.note
