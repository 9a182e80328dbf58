use Rattle.std.proofs.Common.{◌≡◌, ◌∙◌, ℕ, List, map, sym, subst}
use Rattle.std.specs.Prelude.{IfOk}
use Rattle.search_crew.specs.End.{IsSearchEnd}
use Rattle.search_gate.specs.Polls.{ArePolled}
use Rattle.search_gate.specs.Stop.{Signal, armed_with}
use Rattle.one_run.specs.Stops.{signals}
use Rattle.cmd_solve.specs.Asked.{solve_in}
use Rattle.cmd_solve.proofs.Armed.{told_armed}
use Rattle.cmd_solve.proofs.Verdict.{answered}
use Rattle.cmd_solve.proofs.solution.answer_alone.Goals as goal

pub returns-clause-answer : goal.returns-clause-answer
returns-clause-answer g c =
    let asked = solve_in c.args.asked.now in
    let tell = g.T.Stop.signal in
    let p = c.in_ok-problem.problem.position in
    let after = map tell c.search_by_one-end.new.stops in
    let armed : map tell c.arm_each.new.stops ≡ map (λ (s : Signal). armed_with s asked.watch.deadline) (map tell c.args.stops.now) =
    c.arm_each.ensures ∙ told_armed asked.watch.deadline tell c.args.stops.now in
    answered asked p c.args.input.now (signals tell c.args.stops.now c.search_by_one-end.new.stops) c.search_by_one-end.result c.told.result
    c.in_ok-problem.ensures.problem
    (subst (λ (l : List Signal). ArePolled asked.settings.workers l after) armed (subst (λ (workers : ℕ). ArePolled workers (map tell c.arm_each.new.stops) after) (sym c.requires.alone) c.search_by_one-end.ensures.polled))
    (subst (λ (l : List Signal). IfOk c.search_by_one-end.result (IsSearchEnd p asked.settings l after)) armed c.search_by_one-end.ensures.end)
    c.told.ensures.true_of c.told.ensures.memory
