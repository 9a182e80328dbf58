-- What reading, text and work come to.
use Rattle.std.proofs.Common.{Bool, true, false}
use Rattle.board_core.specs.Board.{Board, HasDefender}
use Rattle.problem_answers.specs.Reading.{searched_board}

-- the side not to move has a king still with the rest in hand
pub searched_has_king : (rest : Bool) (p : Board) → HasDefender p → HasDefender (searched_board rest p)
searched_has_king true p h = h
searched_has_king false p h = h
