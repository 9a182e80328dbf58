-- What is inside an adapter of std's readers, writers or clocks.
use Rattle.std.specs.Prelude.{ℕ, List, Option, None}
use Rattle.tsume_io.specs.declared.standard.StdSource.{StdSource}
use Rattle.tsume_io.specs.declared.standard.StdSink.{StdSink}
use Rattle.tsume_io.specs.declared.clock.StdClock.{StdClock}
use Rattle.tsume_io.specs.declared.opened.Remembering.{Remembering}
use Rattle.tsume_io.specs.declared.opened.Opened.{Opened}
use Rattle.tsume_io.specs.declared.opened.Opened.TheVariants.{File, Standard, Refused}

-- the reader that a source adapts
abbrev pub reader_of : {R : Type 0} → StdSource R → R
reader_of source = source.reader

-- how many reads of this source failed, up to 2 ^ 64 - 1
abbrev pub source_faults : {R : Type 0} → StdSource R → ℕ
source_faults source = source.faults

-- the writer that a sink adapts
abbrev pub writer_of : {W : Type 0} → StdSink W → W
writer_of sink = sink.writer

-- how many writes of this sink failed, up to 2 ^ 64 - 1
abbrev pub sink_faults : {W : Type 0} → StdSink W → ℕ
sink_faults sink = sink.faults

-- what this clock last answered
abbrev pub last_shown : {R : Type 0} → StdClock R → ℕ
last_shown clock = clock.shown

-- how often this clock was asked, up to 2 ^ 64 - 1
abbrev pub times_asked : {R : Type 0} → StdClock R → ℕ
times_asked clock = clock.asks

-- the reader of which failed reads are remembered
abbrev pub remembering_reader : {R : Type 0} → Remembering R → R
remembering_reader noted = noted.reader

-- the bytes that reads of what was opened will give, where a file and the standard input tell
-- theirs; nothing is told where opening was refused
abbrev pub bytes_left : {F R : Type 0} → (F → Option (List ℕ)) → (R → Option (List ℕ)) → Opened F R → Option (List ℕ)
bytes_left of_file of_reader (File file) = of_file file
bytes_left of_file of_reader (Standard reader) = of_reader reader
bytes_left of_file of_reader (Refused reason) = None
