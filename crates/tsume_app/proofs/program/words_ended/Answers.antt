use Rattle.std.proofs.Common.{◌≡◌, ◌∙◌, inl, None, Option, Err, ap, refl, sym, subst}
use Rattle.program_words.specs.Commands.{CommandView}
use Rattle.program_words.specs.Meaning.{IsEndFor, command_of}
use Rattle.tsume_words.specs.declared.faults.WordsEnd.{WordsEnd}
use Rattle.tsume_words.specs.declared.faults.WordsEnd.TheVariants as ends
use Rattle.one_run.specs.Outside.{shown}
use Rattle.one_run.specs.Stops.{signals}
use Rattle.tsume_app.specs.declared.ended.Ended.TheVariants.{Help, Refused}
use Rattle.tsume_app.specs.declared.ended.Refusal.TheVariants.{Words}
use Rattle.tsume_app.specs.Run.{GivesFault, IsKept}
use Rattle.tsume_app.proofs.Words.{fault_is_no_want, help_is_no_want, help_not_failed, help_of, nothing_asked, same_fault, taken_not_failed}
use Rattle.tsume_app.proofs.program.words_ended.Goals as goal

pub returns-in-Ok-clause-failed : goal.returns-in-Ok-clause-failed
returns-in-Ok-clause-failed g c = λ fault fails.
    absurd (taken_not_failed c.into_reading.result c.in-Ok.asked (ends.Fault fault) ends.NoMemory c.in-Ok.is (c.into_reading.ensures.failed fault fails))

pub returns-in-Err-Help-clause-kept : goal.returns-in-Err-Help-clause-kept
returns-in-Err-Help-clause-kept g c =
    let is = c.in-Err-Help.is ∙ ap (λ (e : WordsEnd). Err e) c.in-Err-Help.field-0-is in
    let none : command_of c.args.words ≡ None =
    nothing_asked (command_of c.args.words) c.into_reading.result (ends.Help c.in-Err-Help.text) is (help_is_no_want c.in-Err-Help.text) c.into_reading.ensures.complete in
    let may = subst (λ (e : WordsEnd). IsEndFor c.args.words e) c.in-Err-Help.field-0-is c.in-Err-Help.ensures.ended in
    let stops = signals g.T.Stop.signal c.args.stops.now.items c.args.stops.now.items in
    let source = shown g.S.Source.left g.S.Source.faults c.args.source.now c.args.source.now in
    let sink = shown g.K.Sink.kept g.K.Sink.faults c.args.sink.now c.help.new.sink in
    subst (λ (o : Option CommandView). IsKept (Help c.help.result) o c.args.words stops source sink) (sym none)
    (may, c.help.ensures, (record { told = refl; faults = refl }, refl))

pub returns-in-Err-Help-clause-help : goal.returns-in-Err-Help-clause-help
returns-in-Err-Help-clause-help g c = λ asks kept. help_of c.help.result (c.help.ensures.complete kept)

pub returns-in-Err-Help-clause-failed : goal.returns-in-Err-Help-clause-failed
returns-in-Err-Help-clause-failed g c = λ fault fails.
    absurd (help_not_failed c.into_reading.result c.in-Err-Help.text fault (c.in-Err-Help.is ∙ ap (λ (e : WordsEnd). Err e) c.in-Err-Help.field-0-is)
    (c.into_reading.ensures.failed fault fails))

pub returns-in-Err-Help-clause-asked : goal.returns-in-Err-Help-clause-asked
returns-in-Err-Help-clause-asked g c = λ fault gives.
    let is = c.in-Err-Help.is ∙ ap (λ (e : WordsEnd). Err e) c.in-Err-Help.field-0-is in
    let none : command_of c.args.words ≡ None =
    nothing_asked (command_of c.args.words) c.into_reading.result (ends.Help c.in-Err-Help.text) is (help_is_no_want c.in-Err-Help.text) c.into_reading.ensures.complete in
    absurd (subst (λ (o : Option CommandView). GivesFault o fault) none gives)

pub returns-in-Err-Fault-clause-kept : goal.returns-in-Err-Fault-clause-kept
returns-in-Err-Fault-clause-kept g c =
    let is = c.in-Err-Fault.is ∙ ap (λ (e : WordsEnd). Err e) c.in-Err-Fault.field-0-is in
    let none : command_of c.args.words ≡ None =
    nothing_asked (command_of c.args.words) c.into_reading.result (ends.Fault c.in-Err-Fault.fault) is (fault_is_no_want c.in-Err-Fault.fault) c.into_reading.ensures.complete in
    let refusal = subst (λ (e : WordsEnd). IsEndFor c.args.words e) c.in-Err-Fault.field-0-is c.in-Err-Fault.ensures.ended in
    ((none, refusal), (record { told = refl; faults = refl }, refl), record { told = refl; faults = refl })

pub returns-in-Err-Fault-clause-failed : goal.returns-in-Err-Fault-clause-failed
returns-in-Err-Fault-clause-failed g c = λ fault fails.
    inl (ap (λ f. Refused (Words f)) (same_fault c.into_reading.result c.in-Err-Fault.fault fault (c.in-Err-Fault.is ∙ ap (λ (e : WordsEnd). Err e) c.in-Err-Fault.field-0-is)
    (c.into_reading.ensures.failed fault fails)))

pub returns-in-Err-Fault-clause-asked : goal.returns-in-Err-Fault-clause-asked
returns-in-Err-Fault-clause-asked g c = λ fault gives.
    let is = c.in-Err-Fault.is ∙ ap (λ (e : WordsEnd). Err e) c.in-Err-Fault.field-0-is in
    let none : command_of c.args.words ≡ None =
    nothing_asked (command_of c.args.words) c.into_reading.result (ends.Fault c.in-Err-Fault.fault) is (fault_is_no_want c.in-Err-Fault.fault) c.into_reading.ensures.complete in
    absurd (subst (λ (o : Option CommandView). GivesFault o fault) none gives)
