use Rattle.bit_boards.proofs.Sets.{on_board, apart}
use Rattle.bit_boards.proofs.Stepping.{steps_near, slides_lined}
use Rattle.bit_boards.proofs.laws.mask_laws.Goals as goal

pub returns : goal.returns
returns c = record { on_board = on_board; apart = apart; steps = steps_near; slides = slides_lined }
