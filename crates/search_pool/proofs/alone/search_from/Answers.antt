use Rattle.std.proofs.Common.{Some, sym, subst, ap, ◌∙◌, arith}
use Rattle.search_limits.specs.Settings.{settings_in}
use Rattle.visit_log.specs.Run.{WorkerView}
use Rattle.worker_core.specs.Port.{Suits}
use Rattle.lone_port.specs.Lone.{book_of}
use Rattle.search_pool.specs.declared.end.SearchEnd.TheVariants.{Solved, Unknown}
use Rattle.search_pool.proofs.Polled.{polled_each}
use Rattle.search_pool.proofs.Ends.{draws_solved, heeds_solved, draws_unknown, heeds_unknown, still_posted}
use Rattle.search_pool.proofs.alone.search_from.Goals as goal

pub work_alone-end-requires-clause-suits : goal.work_alone-end-requires-clause-suits
work_alone-end-requires-clause-suits g c κs within =
    subst (λ (w : WorkerView). Suits w (book_of c.args.port.now)) (sym c.make-worker.ensures) (c.requires.suits 1)

pub returns-in-Some-clause-drawing : goal.returns-in-Some-clause-drawing
returns-in-Some-clause-drawing g c =
    draws_solved c.args.port.now c.args.problem.now.position (settings_in c.args.settings.now) (g.T.Stop.signal c.args.stop.now) (g.T.Stop.signal c.work_alone-end.new.stop)
    c.work_alone-end.new.port c.work_alone-end.new.worker c.work_alone-end.result c.in_ok-note.note c.work_alone-end.ensures.way c.work_alone-end.ensures.ended
    (ap Some c.in_ok-note.ensures ∙ c.in-Some.ensures)

pub returns-in-Some-clause-heeds : goal.returns-in-Some-clause-heeds
returns-in-Some-clause-heeds g c none =
    heeds_solved c.args.port.now c.args.problem.now.position (settings_in c.args.settings.now) (g.T.Stop.signal c.args.stop.now) (g.T.Stop.signal c.work_alone-end.new.stop)
    c.work_alone-end.new.port c.work_alone-end.new.worker c.in_ok-note.note c.work_alone-end.ensures.way
    (ap Some c.in_ok-note.ensures ∙ c.in-Some.ensures) none

pub returns-clause-drawing : goal.returns-clause-drawing
returns-clause-drawing g c =
    draws_unknown c.args.port.now c.args.problem.now.position (settings_in c.args.settings.now) (g.T.Stop.signal c.args.stop.now) (g.T.Stop.signal c.work_alone-end.new.stop)
    c.work_alone-end.new.port c.work_alone-end.new.worker c.work_alone-end.result c.in-Some-cause_of.cause c.new.result c.work_alone-end.ensures.way
    c.work_alone-end.ensures.had c.work_alone-end.ensures.ended
    c.visit_laws.ensures.causes c.laws-2.ensures.whole c.in-Some-cause_of.ensures.cause
    (sym c.in_default.ensures) (c.new.ensures ∙ c.in_ok-vec.ensures.items)

pub returns-clause-heeds : goal.returns-clause-heeds
returns-clause-heeds g c none =
    heeds_unknown c.args.port.now c.args.problem.now.position (settings_in c.args.settings.now) (g.T.Stop.signal c.args.stop.now) (g.T.Stop.signal c.work_alone-end.new.stop)
    c.work_alone-end.new.port c.work_alone-end.new.worker c.work_alone-end.result c.in-Some-cause_of.cause c.new.result c.work_alone-end.ensures.way c.work_alone-end.ensures.ended
    c.visit_laws.ensures.causes c.laws-2.ensures.whole c.in-Some-cause_of.ensures.cause

pub returns-in-Some-clause-few : goal.returns-in-Some-clause-few
returns-in-Some-clause-few g c = let same = c.work_alone-end.ensures.way.2.expansions in let few = c.laws.ensures.desk.drawn in omega (arith, same, few)

pub returns-in-Some-clause-polled : goal.returns-in-Some-clause-polled
returns-in-Some-clause-polled g c =
    polled_each c.count_laws.ensures.visits c.count_laws.ensures.starving c.args.port.now c.args.problem.now.position (settings_in c.args.settings.now)
    (g.T.Stop.signal c.args.stop.now) (g.T.Stop.signal c.work_alone-end.new.stop) c.work_alone-end.new.port c.work_alone-end.new.worker
    c.work_alone-end.ensures.way c.work_alone-end.ensures.had

pub returns-clause-few : goal.returns-clause-few
returns-clause-few g c = let same = c.work_alone-end.ensures.way.2.expansions in let few = c.laws.ensures.desk.drawn in omega (arith, same, few)

pub returns-clause-polled : goal.returns-clause-polled
returns-clause-polled g c =
    polled_each c.count_laws.ensures.visits c.count_laws.ensures.starving c.args.port.now c.args.problem.now.position (settings_in c.args.settings.now)
    (g.T.Stop.signal c.args.stop.now) (g.T.Stop.signal c.work_alone-end.new.stop) c.work_alone-end.new.port c.work_alone-end.new.worker
    c.work_alone-end.ensures.way c.work_alone-end.ensures.had

pub returns-clause-known : goal.returns-clause-known
returns-clause-known g c some =
    still_posted c.args.port.now c.args.problem.now.position (settings_in c.args.settings.now) (g.T.Stop.signal c.args.stop.now) (g.T.Stop.signal c.work_alone-end.new.stop)
    c.work_alone-end.new.port c.work_alone-end.new.worker c.work_alone-end.ensures.way some (sym c.in_default.ensures)
