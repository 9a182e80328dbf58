use Rattle.std.proofs.Common.{◌≡◌, None, Err, ap, refl, sym, ◌∙◌}
use Rattle.tsume_words.specs.declared.faults.WordsEnd.{WordsEnd}
use Rattle.tsume_words.specs.declared.faults.WordsEnd.TheVariants as ends
use Rattle.program_words.specs.Meaning.{command_of}
use Rattle.tsume_app.proofs.Words.{nothing_asked, help_is_no_want, fault_is_no_want}
use Rattle.tsume_app.proofs.program.told_limit.Goals as goal

pub returns-in-Err-Help : goal.returns-in-Err-Help
returns-in-Err-Help c =
    let end : c.in-Err-Help.field-0 ≡ ends.Help c.in-Err-Help.field-0-0 = rw c.in-Err-Help.is at c.in-Err-Help.field-0-is in
    let none : command_of c.args.words.now ≡ None =
    nothing_asked (command_of c.args.words.now) c.reading.result.now (ends.Help c.in-Err-Help.field-0-0)
    (c.in-Err-Help.is ∙ ap (λ (e : WordsEnd). Err e) end) (help_is_no_want c.in-Err-Help.field-0-0) c.reading.ensures.complete in
    record { told = λ view is. absurd (let same = sym none ∙ is in cc); unasked = λ nothing. refl }

pub returns-in-Err-Fault : goal.returns-in-Err-Fault
returns-in-Err-Fault c =
    let end : c.in-Err-Fault.field-0 ≡ ends.Fault c.in-Err-Fault.field-0-0 = rw c.in-Err-Fault.is at c.in-Err-Fault.field-0-is in
    let none : command_of c.args.words.now ≡ None =
    nothing_asked (command_of c.args.words.now) c.reading.result.now (ends.Fault c.in-Err-Fault.field-0-0)
    (c.in-Err-Fault.is ∙ ap (λ (e : WordsEnd). Err e) end) (fault_is_no_want c.in-Err-Fault.field-0-0) c.reading.ensures.complete in
    record { told = λ view is. absurd (let same = sym none ∙ is in cc); unasked = λ nothing. refl }
