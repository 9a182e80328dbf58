use Rattle.std.proofs.Common.{take}
use Rattle.notes.specs.Valid.{JoinsTags}
use Rattle.notes.proofs.lists.joined_tags.Given as goal

abbrev pub invariant-loop-note : goal.invariant-loop-note
invariant-loop-note l = JoinsTags l.tag l.position (take l.note-index l.notes)
