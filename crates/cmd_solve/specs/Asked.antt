-- What `solve` is asked.
use Rattle.search_limits.specs.Settings.{settings_in}
use Rattle.tsume_words.specs.Given.{watch_in}
use Rattle.cmd_solve.specs.declared.asked.Solve.{Solve}
use Rattle.cmd_solve.specs.Meaning.{SolveView}

-- What `solve` is asked, by its parts.
abbrev pub solve_in : Solve → SolveView
solve_in asked = record { settings = settings_in asked.settings; form = asked.form; watch = watch_in asked.watch }
