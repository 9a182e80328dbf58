use Rattle.std.proofs.Common.{subst}
use Rattle.one_run.specs.declared.ended.Ended.{Ended}
use Rattle.one_run.specs.Outside.{shown}
use Rattle.one_run.specs.Serial.{IsSerialEnd}
use Rattle.cmd_collection.specs.declared.asked.NoFault.{NoFault}
use Rattle.cmd_collection.specs.declared.counts.Counts.{Counts}
use Rattle.cmd_collection.specs.Asked.{collect_in}
use Rattle.cmd_collection.specs.Meaning.{collection_meaning}
use Rattle.cmd_collection.proofs.Finding.{means_stopped}
use Rattle.cmd_collection.proofs.running.collection.Goals as goal

pub returns-clause-collected : goal.returns-clause-collected
returns-clause-collected g c = λ counts is.
    let source = shown g.S.Source.left g.S.Source.faults c.args.source.now c.collect_through.new.source in
    let sink = shown g.K.Sink.kept g.K.Sink.faults c.args.sink.now c.collect_through.new.sink in
    subst (λ (e : Ended Counts NoFault). IsSerialEnd (collection_meaning (collect_in c.args.asked.now)) source sink e) is c.collect_through.ensures.does

pub returns-clause-complete : goal.returns-clause-complete
returns-clause-complete g c = λ given sound kept.
    c.collect_through.ensures.complete (record { input = given.input; told = given.told; short = given.short; faultless = λ fault is. is }) sound kept

pub returns-clause-stopped : goal.returns-clause-stopped
returns-clause-stopped g c = means_stopped (collect_in c.args.asked.now).settings (collect_in c.args.asked.now).form
