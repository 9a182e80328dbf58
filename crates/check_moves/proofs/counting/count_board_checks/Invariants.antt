use Rattle.bit_boards.specs.Mask.{holds, count}
use Rattle.shogi_rules.specs.Tsume.{IsCheck}
use Rattle.list_laws.proofs.Totals.{IsFilled}
use Rattle.check_moves.proofs.counting.count_board_checks.Given as goal

-- the checks by the pieces on the squares that were taken out are counted
abbrev pub invariant-loop-from : goal.invariant-loop-from
invariant-loop-from l = IsFilled (IsCheck l.position.side l.position) (holds l.initial.left) (holds l.left) l.count

abbrev pub decreases-loop-from : goal.decreases-loop-from
decreases-loop-from l = count l.left
