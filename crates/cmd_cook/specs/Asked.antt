-- What `cook` is asked.
use Rattle.std.specs.Prelude.{ℕ, List, Option, option_map, string_bytes}
use Rattle.cmd_solve.specs.Asked.{solve_in}
use Rattle.cmd_solve.specs.Meaning.{SolveView}
use Rattle.cmd_cook.specs.declared.asked.Cook.{Cook}

-- What `cook` is asked: what `solve` is, of each of its searches; and the text of a line of moves,
-- where the words give one.
pub record CookView : Type 0 where
  pub solve : SolveView
  pub line : Option (List ℕ)

-- What `cook` is asked, by its parts.
abbrev pub cook_in : Cook → CookView
cook_in asked = record { solve = solve_in asked.solve; line = option_map string_bytes asked.line }
