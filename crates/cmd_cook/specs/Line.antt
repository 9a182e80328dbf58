-- The line of `cook`, in clap's own terms.
use Rattle.std.specs.Prelude.{codes}
use Rattle.clap.specs.Words.{App, Rule, new_app, with_rule}
use Rattle.tsume_words.specs.Options.{text_option}
use Rattle.cmd_solve.specs.Line.{with_search}

-- The option `--line MOVES` takes any text, and has no default.
abbrev pub line_option : Rule
line_option = text_option (codes "line")

-- `cook` has the line of moves, and what `solve` is asked.
unfoldable pub cook_line : App
cook_line = with_search (with_rule (new_app (codes "cook")) line_option)
