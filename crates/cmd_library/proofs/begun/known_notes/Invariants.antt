use Rattle.std.proofs.Common.{◌≡◌, take}
use Rattle.cmd_library.specs.Notes.{notes_of}
use Rattle.cmd_library.proofs.begun.known_notes.Given as goal

-- the notes of the certificates so far
abbrev pub invariant-loop-certificate : goal.invariant-loop-certificate
invariant-loop-certificate l = l.notes.items ≡ notes_of l.side (take l.certificate-index l.certificates)
