use Rattle.std.proofs.Common.{ℕ, List, [], refl, subst, sym}
use Rattle.one_run.specs.Outside.{shown}
use Rattle.one_run.specs.Run.{IsReadWhole}
use Rattle.one_run.specs.Stops.{Signals}
use Rattle.one_run.proofs.Offered.{serial_run, unread_run}
use Rattle.cmd_collection.specs.declared.asked.TheConstants.{MOST_COLLECTION_BYTES}
use Rattle.cmd_collection.specs.Asked.{collect_in}
use Rattle.cmd_collection.specs.Meaning.{collection_meaning}
use Rattle.cmd_collection.proofs.running.collect_through.Goals as goal

-- no stop at all
abbrev nobody : Signals
nobody = record { before = []; after = [] }

pub returns-in-Ok : goal.returns-in-Ok
returns-in-Ok g c =
    let source = shown g.S.Source.left g.S.Source.faults c.args.source.now c.read.new.source in
    let sink = shown g.K.Sink.kept g.K.Sink.faults c.args.sink.now c.collected.new.sink in
    serial_run (collection_meaning (collect_in c.args.asked.now)) source sink c.collected.result
    (c.collected.ensures.ended source (subst (λ (i : List ℕ). IsReadWhole MOST_COLLECTION_BYTES source i) (sym c.deref-in-Ok.ensures.value) c.in-Ok.ensures.whole))
    (c.collected.ensures.counted source c.in-Ok.ensures.kept)

pub returns-in-Err : goal.returns-in-Err
returns-in-Err g c =
    let source = shown g.S.Source.left g.S.Source.faults c.args.source.now c.read.new.source in
    let sink = shown g.K.Sink.kept g.K.Sink.faults c.args.sink.now c.args.sink.now in
    unread_run (collection_meaning (collect_in c.args.asked.now)) nobody source sink c.in-Err.ended
    (c.in-Err.ensures.ended nobody sink refl (record { told = refl; faults = refl })) c.in-Err.ensures.failed (record { told = refl; faults = refl })
