use Rattle.std.proofs.Common.{◌≡◌, sym, ◌∙◌}
use Rattle.std.specs.Prelude.{Some}
use Rattle.visit_log.specs.declared.words.WorkEnd.{WorkEnd}
use Rattle.visit_log.specs.Machine.{end_of}
use Rattle.lone_port.proofs.Stepped.{opened_suits, stepped, not_ended, others_opened, where_none}
use Rattle.lone_port.proofs.stepping.step.Goals as goal

pub turn-requires-clause-suits : goal.turn-requires-clause-suits
turn-requires-clause-suits c = opened_suits c.args.worker.now c.args.port.now c.open.new.self c.args.stops c.open.ensures c.requires.suits

pub returns-clause-steps : goal.returns-clause-steps
returns-clause-steps c =
    let e = c.turn.ensures in
    stepped c.turn.result c.args.stops c.args.port.now c.open.new.self c.turn.new.port c.args.worker.now c.turn.new.worker e.went.0 c.open.ensures e.went.1 e.went.2 e.idle

pub returns-clause-others : goal.returns-clause-others
returns-clause-others c = others_opened c.args.worker.now c.turn.new.worker c.args.port.now c.open.new.self c.turn.new.port c.args.stops c.open.ensures c.turn.ensures.others

pub returns-clause-ended : goal.returns-clause-ended
returns-clause-ended c =
    let e = c.turn.ensures in
    not_ended
    (λ (end : WorkEnd). (end_of c.args.worker.now.state ≡ Some end) × (c.turn.new.worker ≡ c.args.worker.now) × (c.turn.new.port ≡ c.args.port.now))
    c.turn.result c.open.new.self c.turn.new.port c.args.worker.now c.turn.new.worker e.went.0 e.went.1 e.went.2 e.ended (sym c.end.ensures ∙ c.in_default.is)

pub returns-clause-goes_on : goal.returns-clause-goes_on
returns-clause-goes_on c = where_none c.turn.result (sym c.end.ensures ∙ c.in_default.is)
