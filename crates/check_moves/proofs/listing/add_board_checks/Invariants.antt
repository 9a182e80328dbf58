use Rattle.bit_boards.specs.Mask.{holds, count}
use Rattle.list_laws.proofs.Filling.{Fills}
use Rattle.shogi_rules.specs.Tsume.{IsCheck}
use Rattle.check_moves.proofs.listing.add_board_checks.Given as goal

-- the checks by the pieces on the squares that were taken out
abbrev pub invariant-loop-from : goal.invariant-loop-from
invariant-loop-from l = Fills (IsCheck l.position.side l.position) (holds l.initial.left) (holds l.left) l.moves

abbrev pub decreases-loop-from : goal.decreases-loop-from
decreases-loop-from l = count l.left
