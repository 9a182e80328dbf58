-- How the process ends.
use Rattle.std.specs.Prelude.{ℕ}
use Rattle.tsume_app.specs.declared.exit.Exit.{Exit}

-- the status that the process ends with
abbrev pub status_at_exit : Exit → ℕ
status_at_exit exit = exit.status
