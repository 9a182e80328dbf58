use Rattle.std.proofs.Common.{Some, subst, inl}
use Rattle.search_limits.specs.Settings.{settings_in}
use Rattle.search_pool.specs.declared.end.SearchEnd.{SearchEnd}
use Rattle.cmd_collection.specs.Reports.{IsEndIn}
use Rattle.cmd_collection.proofs.Finding.{found_of, until_end}
use Rattle.cmd_collection.proofs.deciding.found_until.Goals as goal

pub returns-in-Solved-clause-found : goal.returns-in-Solved-clause-found
returns-in-Solved-clause-found g c =
    let p = c.args.problem.now.position in
    let s = settings_in c.args.settings.now in
    let ends = c.in_ok-note.ensures in
    found_of c.verdict.result p s (Some c.args.deadline) c.in-Solved.note
    (subst (λ (e : SearchEnd). IsEndIn p s (Some c.args.deadline) e) c.in-Solved.is
    (until_end p s c.args.deadline _ _ _ c.requires ends.alone ends.heeds c.search_until.ensures.armed c.search_until.ensures.arms c.search_until.ensures.early))
    c.verdict.ensures.verdict

pub returns-in-Unknown-clause-found : goal.returns-in-Unknown-clause-found
returns-in-Unknown-clause-found g c =
    let p = c.args.problem.now.position in
    let s = settings_in c.args.settings.now in
    let ends = c.in_ok-note.ensures in
    inl (subst (λ (e : SearchEnd). IsEndIn p s (Some c.args.deadline) e) c.in-Unknown.is
    (until_end p s c.args.deadline _ _ _ c.requires ends.alone ends.heeds c.search_until.ensures.armed c.search_until.ensures.arms c.search_until.ensures.early))
