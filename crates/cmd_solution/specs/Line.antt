-- The line of `solution`, in clap's own terms.
use Rattle.std.specs.Prelude.{codes}
use Rattle.clap.specs.Words.{App, new_app, with_rule}
use Rattle.tsume_words.specs.Options.{file_word}

-- `solution` has the file alone.
unfoldable pub solution_line : App
solution_line = with_rule (new_app (codes "solution")) file_word
