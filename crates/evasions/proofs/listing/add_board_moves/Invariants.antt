use Rattle.bit_boards.specs.Mask.{holds, count}
use Rattle.list_laws.proofs.Filling.{Fills}
use Rattle.evasions.proofs.Evading.{Evasion}
use Rattle.evasions.proofs.listing.add_board_moves.Given as goal

-- the moves of the pieces on the squares that were taken out
abbrev pub invariant-loop-from : goal.invariant-loop-from
invariant-loop-from l = Fills (Evasion l.position) (holds l.initial.left) (holds l.left) l.moves

abbrev pub decreases-loop-from : goal.decreases-loop-from
decreases-loop-from l = count l.left
