-- What the words of `solution` ask for.
use Rattle.tsume_words.specs.Given.{file_of}
use Rattle.tsume_words.specs.Meaning.{CommandMeaning, no_tests}
use Rattle.cmd_solution.specs.Line.{solution_line}

-- What the words of `solution` mean: they ask for nothing but the file. There are no tests but
-- clap's.
abbrev pub solution_words : CommandMeaning (Unit {0})
solution_words = record {
  line = solution_line;
  IsGiven = λ found. Unit {0};
  given = λ found. tt;
  tests = no_tests;
  file = file_of;
}
