-- How the defender's answers are counted: drops on one square are one answer.
use Rattle.std.specs.Prelude.{◌+◌, ◌==◌, ℕ, List, Bool, true, false, count_by}
use Rattle.std.specs.List.{list_any, range_with_len}
use Rattle.board_core.specs.declared.moves.Move.{Move}
use Rattle.board_core.specs.declared.moves.Move.TheVariants as moves

-- Whether it moves a piece that stands on the board.
abbrev pub is_on_board : Move → Bool
is_on_board (moves.Board from to promote) = true
is_on_board (moves.Drop dropped to) = false

-- Whether the move is a drop on the square.
abbrev pub is_drop_on : ℕ → Move → Bool
is_drop_on square (moves.Board from to promote) = false
is_drop_on square (moves.Drop dropped to) = to.number == square

-- How many answers a list has: its moves of pieces on the board, plus the number of different
-- squares on which its drops fall.
abbrev pub answers_of : List Move → ℕ
answers_of list = count_by is_on_board list + count_by (λ square. list_any (is_drop_on square) list) (range_with_len 0 81)
