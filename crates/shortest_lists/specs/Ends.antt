-- Why nothing is listed.
use Rattle.std.specs.Prelude.{ℕ}
use Rattle.board_core.specs.Board.{Board}
use Rattle.shortest_lists.specs.Reached.{HasMoreThan}
use Rattle.shortest_lists.specs.declared.ends.ListEnd.{ListEnd}
use Rattle.shortest_lists.specs.declared.ends.ListEnd.TheVariants.{TooMany, NoMemory}

-- Why no more than so many positions are listed: steps lead to more, or memory was wanted.
abbrev pub IsEndFor : (Board → Board → Type 0) → Board → ℕ → ListEnd → Type 0
IsEndFor Step p most TooMany = HasMoreThan Step p most
IsEndFor Step p most NoMemory = Unit {0}
