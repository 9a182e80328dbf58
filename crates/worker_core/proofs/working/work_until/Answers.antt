use Rattle.std.proofs.Common.{◌≡◌, ◌+◌, ◌++◌, [], length, length-append, arith, refl, sym}
use Rattle.worker_core.proofs.Turns.{went_none, keeps_none, went_on, keeps_on}
use Rattle.worker_core.proofs.working.work_until.Goals as goal

pub turns-init : goal.turns-init
turns-init g c = record {
  idle = c.requires.idle;
  suits = c.requires.suits;
  went = ([], went_none g.P.Port.turn c.args.port.now c.args.worker.now, refl);
  others = keeps_none c.args.worker.now (g.P.Port.book c.args.port.now);
}

pub turn-requires-clause-idle : goal.turn-requires-clause-idle
turn-requires-clause-idle g c = c.turns.invariant.idle

pub turn-requires-clause-suits : goal.turn-requires-clause-suits
turn-requires-clause-suits g c = c.turns.invariant.suits

pub returns-in-Some-clause-idle : goal.returns-in-Some-clause-idle
returns-in-Some-clause-idle g c = c.in-Some.ensures.idle

pub returns-in-Some-clause-suits : goal.returns-in-Some-clause-suits
returns-in-Some-clause-suits g c = c.in-Some.ensures.suits

pub returns-in-Some-clause-went : goal.returns-in-Some-clause-went
returns-in-Some-clause-went g c =
    let i = c.turns.invariant.went in
    let e = c.in-Some.ensures in
    let both : length (i.0 ++ e.went.0) ≡ length i.0 + length e.went.0 = length-append i.0 e.went.0 in
    let one = i.2 in
    let two = e.went.2 in
    let below = c.turns-test.true in (
      i.0 ++ e.went.0,
      went_on g.P.Port.turn c.args.port.now c.turns.port c.turn.new.port c.args.worker.now c.turns.worker c.turn.new.worker i.0 e.went.0 i.1 e.went.1,
      omega (arith, both, one, two, below),
      λ none. absurd (cc),
    )

pub returns-in-Some-clause-others : goal.returns-in-Some-clause-others
returns-in-Some-clause-others g c =
    keeps_on c.args.worker.now c.turns.worker c.turn.new.worker (g.P.Port.book c.args.port.now) (g.P.Port.book c.turns.port) (g.P.Port.book c.turn.new.port)
    c.turns.invariant.others c.in-Some.ensures.others

pub returns-in-Some-clause-ended : goal.returns-in-Some-clause-ended
returns-in-Some-clause-ended g c = c.in-Some.ensures.ended

pub turns-preserved : goal.turns-preserved
turns-preserved g c =
    let i = c.turns.invariant in
    let e = c.in_default.ensures in
    let both : length (i.went.0 ++ e.went.0) ≡ length i.went.0 + length e.went.0 = length-append i.went.0 e.went.0 in
    let one = i.went.2 in
    let two = e.went.2 in
    record {
      idle = e.idle;
      suits = e.suits;
      went = (
        i.went.0 ++ e.went.0,
        went_on g.P.Port.turn c.args.port.now c.turns.port c.turn.new.port c.args.worker.now c.turns.worker c.turn.new.worker i.went.0 e.went.0 i.went.1 e.went.1,
        omega (arith, both, one, two),
      );
      others = keeps_on c.args.worker.now c.turns.worker c.turn.new.worker (g.P.Port.book c.args.port.now) (g.P.Port.book c.turns.port) (g.P.Port.book c.turn.new.port) i.others e.others;
    }

pub returns-clause-idle : goal.returns-clause-idle
returns-clause-idle g c = c.turns.invariant.idle

pub returns-clause-suits : goal.returns-clause-suits
returns-clause-suits g c = c.turns.invariant.suits

pub returns-clause-went : goal.returns-clause-went
returns-clause-went g c =
    let i = c.turns.invariant.went in
    let one = i.2 in
    let done = c.turns-test.false in
    (i.0, i.1, omega (arith, one), λ none. omega (arith, one, done))

pub returns-clause-others : goal.returns-clause-others
returns-clause-others g c = c.turns.invariant.others

pub returns-clause-ended : goal.returns-clause-ended
returns-clause-ended g c = sym c.end.ensures
