use Rattle.board_core.proofs.MoveOrder.{move_exact, order_from, order_within}
use Rattle.board_core.proofs.MoveLists.{before_in}
use Rattle.board_core.proofs.laws.order_laws.Goals as goal

pub returns : goal.returns
returns c = record { apart = move_exact; origins = order_from; within = order_within; places = before_in }
