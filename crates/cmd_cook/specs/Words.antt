-- What the words of `cook` ask for.
use Rattle.std.specs.Prelude.{List, codes}
use Rattle.clap.specs.Words.{Row}
use Rattle.tsume_words.specs.Given.{file_of, text_of}
use Rattle.tsume_words.specs.Meaning.{CommandMeaning, search_tests}
use Rattle.cmd_solve.specs.Words.{IsForSearch, search_of}
use Rattle.cmd_cook.specs.Asked.{CookView}
use Rattle.cmd_cook.specs.Line.{cook_line}

-- What is asked for, by what clap found for `cook`.
abbrev pub cook_of : List Row → CookView
cook_of found = record { solve = search_of found; line = text_of (codes "line") found }

-- What the words of `cook` mean. The numbers of its searches are tested.
abbrev pub cook_words : CommandMeaning CookView
cook_words = record {
  line = cook_line;
  IsGiven = IsForSearch;
  given = cook_of;
  tests = search_tests (λ asked. asked.solve.settings);
  file = file_of;
}
