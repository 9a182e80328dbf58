use Rattle.std.proofs.Common.{ap, sym, ◌∙◌}
use Rattle.visit_log.specs.Frame.{Task}
use Rattle.search_limits.specs.Settings.{settings_in}
use Rattle.visit_log.specs.Run.{WorkerView}
use Rattle.search_pool.proofs.Ends.{begun, had_nothing}
use Rattle.search_pool.proofs.Watching.{Turning, watched_from, stays_by, had_all}
use Rattle.search_pool.proofs.alone.work_watched.Goals as goal

pub returns-clause-port : goal.returns-clause-port
returns-clause-port g c =
    let went = c.work.ensures.went in
    stays_by (Turning {G = g.row.G.Denot} {T = g.row.T.Denot} g.T.Stop.signal) (λ w. w.port.ghost_name) (λ p path q a r turn. turn.0) c.args.worker.now.task c.args.watched.now c.work.new.port c.args.worker.now.state c.work.new.worker.state went.0 went.1.port

pub returns-clause-stop : goal.returns-clause-stop
returns-clause-stop g c =
    let went = c.work.ensures.went in
    stays_by (Turning {G = g.row.G.Denot} {T = g.row.T.Denot} g.T.Stop.signal) (λ w. w.stop.ghost_name) (λ p path q a r turn. turn.1) c.args.worker.now.task c.args.watched.now c.work.new.port c.args.worker.now.state c.work.new.worker.state went.0 went.1.port

pub returns-clause-way : goal.returns-clause-way
returns-clause-way g c =
    let went = c.work.ensures.went in
    let s = settings_in c.args.settings.now in
    let idle = ap (λ (w : WorkerView). w.waiting) c.requires.worker in
    let signal = g.T.Stop.signal c.args.watched.now.stop.now in
    watched_from (Turning {G = g.row.G.Denot} {T = g.row.T.Denot} g.T.Stop.signal) (λ w. w.port.now) (λ w. g.T.Stop.signal w.stop.now) (λ p path q a r turn. turn.2)
    c.args.watched.now.port.now c.args.problem.now.position s signal c.args.watched.now c.work.new.port c.args.worker.now c.work.new.worker went.0
    (begun c.args.problem.now.position s signal c.args.watched.now.port.now c.args.worker.now c.requires.begins c.requires.worker)
    idle c.work.ensures.idle went.1.task went.1.port

pub returns-clause-had : goal.returns-clause-had
returns-clause-had g c =
    had_all c.args.watched.now.port.now c.work.new.port.port.now c.args.worker.now c.work.new.worker c.work.ensures.others
    (had_nothing c.args.problem.now.position (settings_in c.args.settings.now) c.args.watched.now.port.now c.args.worker.now c.requires.begins c.requires.worker)

pub returns-clause-desk : goal.returns-clause-desk
returns-clause-desk g c =
    sym c.work.ensures.suits.problem ∙ (ap (λ (t : Task). t.problem) c.work.ensures.went.1.task ∙ ap (λ (w : WorkerView). w.task.problem) c.requires.worker)
