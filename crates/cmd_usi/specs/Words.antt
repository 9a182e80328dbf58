-- What the words of `usi` ask for.
use Rattle.std.specs.Prelude.{None, ⊤}
use Rattle.tsume_words.specs.Meaning.{CommandMeaning, no_tests}
use Rattle.cmd_usi.specs.Line.{usi_line}

-- What the words of `usi` mean: they ask for a session, and for nothing else. There are no tests
-- but clap's, and no file is named: the lines come from the standard input.
abbrev pub usi_words : CommandMeaning (Unit {0})
usi_words = record {
  line = usi_line;
  IsGiven = λ found. ⊤;
  given = λ found. tt;
  tests = no_tests;
  file = λ found. None;
}
