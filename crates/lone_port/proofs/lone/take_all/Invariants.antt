use Rattle.std.proofs.Common.{take}
use Rattle.table_shard.specs.Known.{TakesNotes}
use Rattle.lone_port.proofs.lone.take_all.Given as goal

-- the notes so far are taken in
abbrev pub invariant-loop-note : goal.invariant-loop-note
invariant-loop-note l = TakesNotes l.initial.shard (take l.note-index l.notes) l.shard
