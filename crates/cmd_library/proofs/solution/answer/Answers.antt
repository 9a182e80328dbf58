use Rattle.std.proofs.Common.{List, map, subst}
use Rattle.std.specs.Prelude.{IfOk}
use Rattle.notes.specs.Derivation.{Derivation}
use Rattle.search_crew.specs.End.{IsSearchEndWith}
use Rattle.search_gate.specs.Polls.{ArePolled}
use Rattle.search_gate.specs.Stop.{Signal}
use Rattle.one_run.specs.Stops.{signals}
use Rattle.cmd_solve.specs.Asked.{solve_in}
use Rattle.cmd_library.specs.Inside.{IsBegun}
use Rattle.cmd_library.specs.declared.begun.Begun.{Begun}
use Rattle.cmd_library.proofs.Verdict.{answered}
use Rattle.cmd_library.proofs.solution.answer.Goals as goal

pub returns-in-Ready-clause-answer : goal.returns-in-Ready-clause-answer
returns-in-Ready-clause-answer g c =
    let asked = solve_in c.args.asked.now in
    let tell = g.T.Stop.signal in
    let p = c.in-Ready.problem.position in
    let its = c.in-Ready.notes.items in
    let after = map tell c.search_with-end.new.stops.items in
    let end = subst (λ (notes : List Derivation). IfOk c.search_with-end.result (IsSearchEndWith notes p asked.settings (map tell c.arm_all.new.stops.items) after))
    c.deref.ensures.value c.search_with-end.ensures.end in
    answered asked p its c.args.input.now (signals tell c.args.stops.now.items c.search_with-end.new.stops.items) c.search_with-end.result c.told.result
    (subst (λ (begun : Begun). IsBegun c.args.asked.now.form c.args.input.now begun) c.in-Ready.is c.in_ok-refused.ensures.begun)
    (subst (λ (l : List Signal). ArePolled asked.settings.workers l after) c.arm_all.ensures c.search_with-end.ensures.polled)
    (subst (λ (l : List Signal). IfOk c.search_with-end.result (IsSearchEndWith its p asked.settings l after)) c.arm_all.ensures end)
    c.told.ensures.true_of c.told.ensures.memory
