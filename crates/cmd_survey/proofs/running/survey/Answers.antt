use Rattle.one_run.specs.Outside.{shown}
use Rattle.one_run.proofs.Offered.{stated_run, whole_is_true}
use Rattle.cmd_survey.specs.Words.{survey_in}
use Rattle.cmd_survey.specs.Headline.{survey_meaning}
use Rattle.cmd_survey.specs.Summary.{summary_text}
use Rattle.cmd_survey.proofs.running.survey.Goals as goal

pub returns-in-Ok-clause-run : goal.returns-in-Ok-clause-run
returns-in-Ok-clause-run g c =
    stated_run (survey_meaning (survey_in c.args.range.now)) (shown g.K.Sink.kept g.K.Sink.faults c.args.sink.now c.write.new.sink) c.in-Ok.summary c.write.result c.in-Ok.ensures
    (c.write.ensures (summary_text c.in-Ok.summary) c.summary_text-text.ensures)

pub returns-in-Ok-clause-surveyed : goal.returns-in-Ok-clause-surveyed
returns-in-Ok-clause-surveyed g c = λ summary is.
    let command = survey_meaning (survey_in c.args.range.now) in
    let sink = shown g.K.Sink.kept g.K.Sink.faults c.args.sink.now c.write.new.sink in
    whole_is_true command sink summary c.write.result
    (stated_run command sink c.in-Ok.summary c.write.result c.in-Ok.ensures (c.write.ensures (summary_text c.in-Ok.summary) c.summary_text-text.ensures)) is
