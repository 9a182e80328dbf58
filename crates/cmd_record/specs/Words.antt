-- What the words of `record` ask for.
use Rattle.std.specs.Prelude.{⊤}
use Rattle.tsume_words.specs.Given.{file_of}
use Rattle.tsume_words.specs.Meaning.{CommandMeaning, no_tests}
use Rattle.cmd_record.specs.Line.{record_line}

-- What the words of `record` mean: they name the file, if any, and ask for nothing else. There are
-- no tests but clap's.
abbrev pub record_words : CommandMeaning (Unit {0})
record_words = record {
  line = record_line;
  IsGiven = λ found. ⊤;
  given = λ found. tt;
  tests = no_tests;
  file = file_of;
}
