use Rattle.std.proofs.Common.{[], refl}
use Rattle.one_run.specs.Outside.{shown}
use Rattle.one_run.specs.Stops.{Signals}
use Rattle.cmd_upgrade.proofs.Promises.{upgraded_of, posed_of, valid_of}
use Rattle.cmd_upgrade.proofs.running.upgrade.Goals as goal

-- no stop at all
abbrev nobody : Signals
nobody = record { before = []; after = [] }

pub returns-clause-upgraded : goal.returns-clause-upgraded
returns-clause-upgraded g c = λ input found told is.
    upgraded_of nobody (shown g.S.Source.left g.S.Source.faults c.args.source.now c.upgrade_through.new.source)
    (shown g.K.Sink.kept g.K.Sink.faults c.args.sink.now c.upgrade_through.new.sink) input found c.upgrade_through.result
    (c.upgrade_through.ensures nobody refl).does told is

pub returns-clause-valid : goal.returns-clause-valid
returns-clause-valid g c = λ input told whole is.
    valid_of nobody (shown g.S.Source.left g.S.Source.faults c.args.source.now c.upgrade_through.new.source)
    (shown g.K.Sink.kept g.K.Sink.faults c.args.sink.now c.upgrade_through.new.sink) input c.upgrade_through.result
    (c.upgrade_through.ensures nobody refl).does told whole is

pub returns-clause-complete : goal.returns-clause-complete
returns-clause-complete g c = λ given sound kept.
    (c.upgrade_through.ensures nobody refl).complete (posed_of (g.S.Source.left c.args.source.now) given) sound kept
