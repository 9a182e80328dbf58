use Rattle.std.proofs.Common.{◌≡◌, ◌<◌, ◌++◌, [], false, sym, subst}
use Rattle.visit_log.specs.Run.{WorkerView}
use Rattle.visit_log.specs.Counts.{to_come}
use Rattle.worker_core.specs.Port.{Suits, KeepsOthers, WentBy}
use Rattle.worker_core.proofs.Turns.{went_none, keeps_none, went_on, keeps_on, whole_on}
use Rattle.worker_core.proofs.working.work.Goals as goal

pub turns-init : goal.turns-init
turns-init g c = record {
  idle = c.requires.idle;
  suits = c.requires.suits;
  went = ([], went_none g.P.Port.turn c.args.port.now c.args.worker.now);
  others = keeps_none c.args.worker.now (g.P.Port.book c.args.port.now);
}

pub turn-requires-clause-idle : goal.turn-requires-clause-idle
turn-requires-clause-idle g c = c.turns.invariant.idle

pub turn-requires-clause-suits : goal.turn-requires-clause-suits
turn-requires-clause-suits g c = c.turns.invariant.suits

pub returns-in-Some-clause-idle : goal.returns-in-Some-clause-idle
returns-in-Some-clause-idle g c = c.in-Some.ensures.idle

pub returns-in-Some-clause-suits : goal.returns-in-Some-clause-suits
returns-in-Some-clause-suits g c = c.in-Some.ensures.suits

pub returns-in-Some-clause-went : goal.returns-in-Some-clause-went
returns-in-Some-clause-went g c =
    let i = c.turns.invariant.went in
    let e = c.in-Some.ensures in
    let w = went_on g.P.Port.turn c.args.port.now c.turns.port c.turn.new.port c.args.worker.now c.turns.worker c.turn.new.worker i.0 e.went.0 i.1 e.went.1 in (
      i.0 ++ e.went.0,
      w,
      whole_on g.P.Port.turn c.args.port.now c.turn.new.port c.args.worker.now c.turn.new.worker (i.0 ++ e.went.0) c.in-Some.end w e.idle e.ended c.laws.ensures.whole,
    )

pub returns-in-Some-clause-others : goal.returns-in-Some-clause-others
returns-in-Some-clause-others g c =
    keeps_on c.args.worker.now c.turns.worker c.turn.new.worker (g.P.Port.book c.args.port.now) (g.P.Port.book c.turns.port) (g.P.Port.book c.turn.new.port)
    c.turns.invariant.others c.in-Some.ensures.others

pub returns-in-Some-clause-ended : goal.returns-in-Some-clause-ended
returns-in-Some-clause-ended g c = c.in-Some.ensures.ended

pub turns-smaller : goal.turns-smaller
turns-smaller g c = subst (λ (w : WorkerView). to_come w.state < to_come c.turns.worker.state) (sym c.read_ahead.ensures) c.in_default.ensures.less

pub turns-preserved : goal.turns-preserved
turns-preserved g c =
    let i = c.turns.invariant in
    let e = c.in_default.ensures in
    let first = c.args.worker.now in
    let before = c.args.port.now in
    let port = c.turn.new.port in
    let back = sym c.read_ahead.ensures in
    record {
      idle = subst (λ (w : WorkerView). w.waiting ≡ false) back e.idle;
      suits = subst (λ (w : WorkerView). Suits w (g.P.Port.book port)) back e.suits;
      went = (
        i.went.0 ++ e.went.0,
        subst (λ (w : WorkerView). WentBy g.P.Port.turn before port first w (i.went.0 ++ e.went.0)) back
            (went_on g.P.Port.turn before c.turns.port port first c.turns.worker c.turn.new.worker i.went.0 e.went.0 i.went.1 e.went.1),
      );
      others = subst (λ (w : WorkerView). KeepsOthers first w (g.P.Port.book before) (g.P.Port.book port)) back
          (keeps_on first c.turns.worker c.turn.new.worker (g.P.Port.book before) (g.P.Port.book c.turns.port) (g.P.Port.book port) i.others e.others);
    }
