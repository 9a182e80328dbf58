-- What the words of `upgrade` ask for.
use Rattle.std.specs.Prelude.{⊤}
use Rattle.tsume_words.specs.Given.{file_of}
use Rattle.tsume_words.specs.Meaning.{CommandMeaning, no_tests}
use Rattle.cmd_upgrade.specs.Line.{upgrade_line}

-- What the words of `upgrade` mean: they name the file, if any, and ask for nothing else. There are
-- no tests but clap's.
abbrev pub upgrade_words : CommandMeaning (Unit {0})
upgrade_words = record {
  line = upgrade_line;
  IsGiven = λ found. ⊤;
  given = λ found. tt;
  tests = no_tests;
  file = file_of;
}
