use Rattle.std.proofs.Common.{◌≡◌, drop}
use Rattle.shogi_rules.specs.Rules.{IsQuiet}
use Rattle.kif_moves.specs.Playing.{AreInTurn, after_all}
use Rattle.cmd_solution.proofs.judging.last_position.Given as goal

abbrev pub invariant-loop-at : goal.invariant-loop-at
invariant-loop-at l =
    IsQuiet l.position
    × AreInTurn l.fn.problem.position.side l.position (drop l.at l.fn.moves)
    × (after_all l.fn.problem.position l.fn.moves ≡ after_all l.position (drop l.at l.fn.moves))
