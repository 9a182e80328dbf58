-- What the list of checks is made of, a stretch of the order of moves at a time: it serves private
-- functions alone.
use Rattle.std.specs.Prelude.{◌≡◌, ◌<◌, ℕ, List, length}
use Rattle.bit_boards.specs.declared.piece.Side.{Side}
use Rattle.board_core.specs.declared.moves.Move.{Move}
use Rattle.board_core.specs.Board.{Board}
use Rattle.board_core.specs.Order.{order_of, Lists}
use Rattle.shogi_rules.specs.Tsume.{IsCheck}

-- The move is a check, and comes before a place in the order.
abbrev pub IsCheckBefore : Side → Board → ℕ → Move → Type 0
IsCheckBefore attacker b place move = IsCheck attacker b move × (order_of move < place)

-- So many checks of the side to move come before a place in the order.
pub record AreChecksBefore (b : Board) (place many : ℕ) : Type 0 where
  pub moves : List Move
  pub lists : Lists (IsCheckBefore b.side b place) moves
  pub long : length moves ≡ many
