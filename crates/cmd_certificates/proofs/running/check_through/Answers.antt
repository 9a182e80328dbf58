use Rattle.std.proofs.Common.{ℕ, List, refl, subst}
use Rattle.one_run.specs.Command.{IsAnswer}
use Rattle.one_run.specs.Outside.{shown}
use Rattle.cmd_certificates.specs.Meaning.{collection_meaning}
use Rattle.cmd_certificates.proofs.running.check_through.Goals as goal

pub returns-in-Err : goal.returns-in-Err
returns-in-Err g c = λ stops unused.
    c.in-Err.ensures.ended stops (shown g.K.Sink.kept g.K.Sink.faults c.args.sink.now c.args.sink.now) unused (record { told = refl; faults = refl })

pub returns : goal.returns
returns g c = λ stops unused.
    c.tell.ensures stops (shown g.S.Source.left g.S.Source.faults c.args.source.now c.read.new.source) c.in-Ok.ensures.whole c.in-Ok.ensures.kept
    (subst (λ (input : List ℕ). IsAnswer collection_meaning stops input c.answer-answer.result) c.deref.ensures.value
    (c.answer-answer.ensures stops unused))
