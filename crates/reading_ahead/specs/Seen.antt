-- How far a line came that is being read.
use Rattle.std.specs.Prelude.{ℕ, List, Option, Some, None, if◌then◌else◌}
use Rattle.reading_ahead.specs.declared.line.Line.{Line}

-- Its bytes so far; none where it is longer than those that are heard.
abbrev pub so_far : Line → Option (List ℕ)
so_far line = if line.is_long then None else Some line.start.items
