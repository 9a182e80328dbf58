use Rattle.bit_boards.specs.Mask.{holds, count}
use Rattle.list_laws.proofs.Totals.{IsFilled}
use Rattle.evasions.proofs.Evading.{Evasion}
use Rattle.evasions.proofs.counting.count_board_moves.Given as goal

-- the moves of the pieces on the squares that were taken out are counted
abbrev pub invariant-loop-from : goal.invariant-loop-from
invariant-loop-from l = IsFilled (Evasion l.position) (holds l.initial.left) (holds l.left) l.count

abbrev pub decreases-loop-from : goal.decreases-loop-from
decreases-loop-from l = count l.left
