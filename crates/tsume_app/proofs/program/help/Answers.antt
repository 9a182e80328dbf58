use Rattle.std.proofs.Common.{◌∙◌}
use Rattle.std.specs.Prelude.{string_bytes}
use Rattle.std.proofs.lemmas.Result.{IfOk-weaker}
use Rattle.one_run.specs.Outside.{shown}
use Rattle.one_run.proofs.Offered.{stated_run}
use Rattle.tsume_app.specs.Run.{help_meaning}
use Rattle.tsume_app.proofs.program.help.Goals as goal

pub returns : goal.returns
returns g c =
    stated_run help_meaning (shown g.K.Sink.kept g.K.Sink.faults c.args.sink.now c.write.new.sink) c.args.text c.write.result tt
    (c.write.ensures (string_bytes c.args.text) (IfOk-weaker c.from_slice-bytes.result _ _ (λ made is. is ∙ c.as_bytes.ensures.value) c.from_slice-bytes.ensures.items))
