use Rattle.shortest_lists.proofs.Lines.{IsOnLine}
use Rattle.shortest_lists.proofs.line.line_of.Given as goal

abbrev pub invariant-loop-moves : goal.invariant-loop-moves
invariant-loop-moves l = IsOnLine l.certificate l.bound.entries l.problem.position l.fn.rank l.moves.items l.left l.position

abbrev pub decreases-loop-moves : goal.decreases-loop-moves
decreases-loop-moves l = l.left
