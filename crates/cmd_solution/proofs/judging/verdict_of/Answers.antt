use Rattle.std.proofs.Common.{◌≡◌, ◌%◌, length, rules}
use Rattle.cmd_solution.proofs.Replaying.{judged_odd}
use Rattle.cmd_solution.proofs.judging.verdict_of.Goals as goal

pub returns-then-moves-eq1 : goal.returns-then-moves-eq1
returns-then-moves-eq1 c =
    let odd : length c.args.moves.now % 2 ≡ 1 = search rules in
    judged_odd c.args.problem.now.position c.args.moves.now c.last_position-last.result c.in_ok-stuck.stuck c.last_position-last.ensures.position odd c.in_ok-stuck.ensures
