use Rattle.bit_boards.specs.Mask.{count}
use Rattle.board_tests.proofs.squares.pieces_step_forward_for_their_side.Given as goal

abbrev pub decreases-squares : goal.decreases-squares
decreases-squares g l = count l.to
