-- The KIF record of a problem and of moves from it.
use Rattle.std.specs.Prelude.{◌≡◌, ◌↔◌, ◌+◌, ℕ, List, ◌++◌, Bool, true, false, IsTrue, None, length}
use Rattle.board_core.specs.declared.moves.Move.{Move}
use Rattle.board_core.specs.Board.{Board}
use Rattle.kif_text.specs.Lines.{utf8}
use Rattle.kif_record.specs.Diagram.{diagram_text, line}
use Rattle.kif_record.specs.Mated.{IsMated}
use Rattle.kif_moves.specs.Playing.{after_all}
use Rattle.kif_record.specs.Moves.{moves_text, numbered}

-- The word behind the last move: that the defender is mated, or that the play is broken off.
abbrev pub ending_text : Bool → List ℕ
ending_text true = utf8 "詰み"
ending_text false = utf8 "中断"

-- The record, by whether the defender is mated behind the moves: the diagram, the line over the
-- moves, the moves, and a line of the next number with the word behind them.
unfoldable pub record_with : Board → List Move → Bool → List ℕ
record_with b moves mated =
    diagram_text b ++ line (utf8 "手数----指手---------消費時間--") ++ moves_text 1 None b moves
    ++ line (numbered (length moves + 1) ++ ending_text mated)

-- The KIF record of a problem and of moves from it.
pub record IsRecord (b : Board) (moves : List Move) (text : List ℕ) : Type 0 where
  pub mated : Bool
  pub ending : IsTrue mated ↔ IsMated b.side (after_all b moves)
  pub is_text : text ≡ record_with b moves mated
