use Rattle.play_line.proofs.Following.{IsOnLine, AreTheirs, rank_at}
use Rattle.play_line.proofs.line.main_line.Given as goal

abbrev pub invariant-loop-moves : goal.invariant-loop-moves
invariant-loop-moves l = IsOnLine l.certificate l.problem.position l.position l.place l.moves.items × AreTheirs l.certificate l.places

abbrev pub decreases-loop-moves : goal.decreases-loop-moves
decreases-loop-moves l = rank_at l.entries l.place
