use Rattle.std.proofs.Common.{subst, inl}
use Rattle.search_crew.specs.End.{IsSearchEndWith}
use Rattle.search_pool.specs.declared.end.SearchEnd.{SearchEnd}
use Rattle.cmd_library.proofs.Verdict.{found_of}
use Rattle.cmd_library.proofs.solution.solution_of.Goals as goal

pub returns-in-Solved-clause-true_of : goal.returns-in-Solved-clause-true_of
returns-in-Solved-clause-true_of c = λ notes s stops ends.
    let p = c.args.problem.now.position in
    found_of c.verdict.result notes p s stops c.in-Solved.note (subst (λ (e : SearchEnd). IsSearchEndWith notes p s stops.before stops.after e) c.in-Solved.is ends) c.verdict.ensures.verdict

pub returns-in-Unknown-clause-true_of : goal.returns-in-Unknown-clause-true_of
returns-in-Unknown-clause-true_of c = λ notes s stops ends.
    inl (subst (λ (e : SearchEnd). IsSearchEndWith notes c.args.problem.now.position s stops.before stops.after e) c.in-Unknown.is ends)
