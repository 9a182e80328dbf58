use Rattle.std.proofs.Common.{None, refl, subst, inl}
use Rattle.search_gate.specs.Stop.{Signal}
use Rattle.search_gate.specs.declared.stop.QuietStop.{QuietStop}
use Rattle.search_limits.specs.Settings.{settings_in}
use Rattle.search_pool.specs.declared.end.SearchEnd.{SearchEnd}
use Rattle.cmd_collection.specs.Reports.{IsEndIn}
use Rattle.cmd_collection.proofs.Finding.{found_of, quiet_end}
use Rattle.cmd_collection.proofs.deciding.found_alone.Goals as goal

-- what a stop tells that never signals
abbrev quiet : QuietStop → Signal
quiet stop = record { polls = stop.polls; raised = 0; last = 0; armed = stop.armed; arms = stop.arms; early = stop.early }

pub returns-in-Solved-clause-found : goal.returns-in-Solved-clause-found
returns-in-Solved-clause-found c =
    let p = c.args.problem.now.position in
    let s = settings_in c.args.settings.now in
    found_of c.verdict.result p s None c.in-Solved.note
    (subst (λ (e : SearchEnd). IsEndIn p s None e) c.in-Solved.is
    (quiet_end p s (quiet c.new-stop.result) (quiet c.search_until.new.stop) _ refl refl c.in_ok-note.ensures.alone c.in_ok-note.ensures.heeds))
    c.verdict.ensures.verdict

pub returns-in-Unknown-clause-found : goal.returns-in-Unknown-clause-found
returns-in-Unknown-clause-found c =
    let p = c.args.problem.now.position in
    let s = settings_in c.args.settings.now in
    inl (subst (λ (e : SearchEnd). IsEndIn p s None e) c.in-Unknown.is
    (quiet_end p s (quiet c.new-stop.result) (quiet c.search_until.new.stop) _ refl refl c.in_ok-note.ensures.alone c.in_ok-note.ensures.heeds))
