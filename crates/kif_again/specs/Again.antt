-- What is written is read again.
use Rattle.std.specs.Prelude.{◌<◌, ◌^◌, ℕ, List, length}
use Rattle.board_core.specs.declared.moves.Move.{Move}
use Rattle.board_core.specs.Board.{Board}
use Rattle.board_core.specs.Kept.{IsKept}
use Rattle.shogi_rules.specs.Tsume.{IsProblem}
use Rattle.kif_moves.specs.Playing.{AreInTurn}
use Rattle.kif_moves.specs.Reading.{StandsFor}
use Rattle.kif_record.specs.Record.{IsRecord}

-- A law: the record of a problem and of moves from it, checks and evasions in turn, stands for that
-- problem and those moves. (No list in memory is so long.)
abbrev pub RecordsAreReadAgain : Type 0
RecordsAreReadAgain = (problem : Board) (moves : List Move) (text : List ℕ) → IsKept problem → IsProblem problem → length moves < 2 ^ 63
    → AreInTurn problem.side problem moves → IsRecord problem moves text → StandsFor text problem moves
