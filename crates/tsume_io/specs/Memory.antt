-- What a source and a sink in memory are: bytes, and a script that says how their calls go.
use Rattle.std.specs.Prelude.{◌≡◌, ℕ, ◌+◌, ◌<◌, min, List, length, drop, Contains}
use Rattle.tsume_io.specs.Faults.{one_more}
use Rattle.tsume_io.specs.declared.script.Script.{Script}
use Rattle.tsume_io.specs.declared.memory.MemSource.{MemSource}
use Rattle.tsume_io.specs.declared.memory.MemSink.{MemSink}
use Rattle.tsume_io.specs.declared.never_fails.NeverFails.{NeverFails}

-- The next call is one of those that fail: its number, from 1 on, is listed.
abbrev pub IsFailingNext : Script → Type 0
IsFailingNext script = Contains script.failing.items (one_more script.calls)

-- One call more was made, the faults are these now, and what the script says is the same.
pub record Counts (old new : Script) (faults : ℕ) : Type 0 where
  pub calls : new.calls ≡ one_more old.calls
  pub raised : new.faults ≡ faults
  pub piece : new.piece ≡ old.piece
  pub failing : new.failing.items ≡ old.failing.items

-- One call more was made, and it didn't fail.
abbrev pub Passes : Script → Script → Type 0
Passes old new = Counts old new old.faults

-- One call more was made, and it failed.
abbrev pub Fails : Script → Script → Type 0
Fails old new = Counts old new (one_more old.faults)

-- A script before its first call.
pub record IsFresh (script : Script) (piece : ℕ) (failing : List ℕ) : Type 0 where
  pub calls : script.calls ≡ 0
  pub faults : script.faults ≡ 0
  pub size : script.piece ≡ piece
  pub listed : script.failing.items ≡ failing

-- how a source's calls go
abbrev pub source_script : MemSource → Script
source_script source = source.script

-- the bytes that a source still has to give
abbrev pub bytes_left : MemSource → List ℕ
bytes_left source = drop source.at source.bytes.items

-- how many bytes a call that doesn't fail gives: as many as the piece, the place for them and the
-- rest allow
abbrev pub bytes_given : MemSource → ℕ → ℕ
bytes_given source place = min (min source.script.piece place) (length (bytes_left source))

-- how a sink's calls go
abbrev pub sink_script : MemSink → Script
sink_script sink = sink.script

-- the bytes that a sink has kept
abbrev pub bytes_kept : MemSink → List ℕ
bytes_kept sink = sink.kept.items

-- how many bytes a sink keeps at most
abbrev pub room_of : MemSink → ℕ
room_of sink = sink.room

-- how many bytes a call that doesn't fail keeps, of so many
abbrev pub bytes_taken : MemSink → ℕ → ℕ
bytes_taken sink size = min sink.script.piece size

-- A write of so many bytes would pass the room.
abbrev pub IsFull : MemSink → ℕ → Type 0
IsFull sink size = room_of sink < length (bytes_kept sink) + bytes_taken sink size

-- the bytes that a source without faults still has to give
abbrev pub bytes_ahead : NeverFails → List ℕ
bytes_ahead source = drop source.at source.bytes.items
