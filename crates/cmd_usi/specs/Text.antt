-- The exit status of a session, and what the user is told of it.
use Rattle.std.specs.Prelude.{ℕ, codes}
use Rattle.run_telling.specs.Telling.{Telling, alone, nothing, plainly}
use Rattle.cmd_usi.specs.declared.talked.TalkEnd.{TalkEnd}
use Rattle.cmd_usi.specs.declared.talked.TalkEnd.TheVariants.{Over, TooLong, Read, Write, NoMemory}

-- The status: 0 where the session was over, 3 where a line or the input was too long, 4 where the
-- source failed, 5 where the sink did, 6 for want of memory.
abbrev pub talk_status : TalkEnd → ℕ
talk_status Over = 0
talk_status TooLong = 3
talk_status Read = 4
talk_status Write = 5
talk_status NoMemory = 6

-- What the user is told: nothing where the session was over, else a line, and behind it perhaps
-- what to do.
abbrev pub talk_telling : TalkEnd → Telling
talk_telling Over = nothing
talk_telling TooLong = alone (codes "too long")
talk_telling Read = alone (codes "read fault")
talk_telling Write = plainly (codes "write fault")
talk_telling NoMemory = plainly (codes "out of memory")
