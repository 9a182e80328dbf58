use Rattle.board_core.proofs.MoveOrder.{square_exact}
use Rattle.board_core.proofs.EachKind.{same_place, place_below}
use Rattle.board_core.proofs.Letters.{letter_exact}
use Rattle.board_core.proofs.laws.value_laws.Goals as goal

pub returns : goal.returns
returns c = record { squares = square_exact; places = same_place; in_hand = place_below; letters = letter_exact }
