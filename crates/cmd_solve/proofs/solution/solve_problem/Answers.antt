use Rattle.std.proofs.Common.{List, map, subst}
use Rattle.std.specs.Prelude.{IfOk}
use Rattle.search_crew.specs.End.{IsSearchEnd}
use Rattle.search_gate.specs.Polls.{ArePolled}
use Rattle.search_gate.specs.Stop.{Signal}
use Rattle.search_limits.specs.Settings.{settings_in}
use Rattle.one_run.specs.Stops.{once_armed, signals}
use Rattle.cmd_solve.proofs.solution.solve_problem.Goals as goal

pub returns-clause-true_of : goal.returns-clause-true_of
returns-clause-true_of g c =
    let asked = c.args.question.now in
    let tell = g.T.Stop.signal in
    let after = map tell c.search.new.stops.items in
    c.solution_of.ensures.true_of (settings_in asked.settings.now) (once_armed asked.after_ms (signals tell c.args.stops.now.items c.search.new.stops.items))
    (subst (λ (l : List Signal). IsSearchEnd asked.problem.now.position (settings_in asked.settings.now) l after c.in_ok-end.end) c.arm_all.ensures c.in_ok-end.ensures.end)
