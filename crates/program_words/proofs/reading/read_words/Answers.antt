use Rattle.std.proofs.Common.{◌≡◌, ◌∙◌, ◌⊎◌, List, Option, IfOk, inl, inr, sym, subst, ap, ap₂, map}
use Rattle.clap.specs.Words.{IsAmong, Row, Text, Kinds, fault_of, kind_of, is_simple, is_simple_and_free, subcommand_of}
use Rattle.std.specs.Prelude.{option_and_then}
use Rattle.tsume_words.specs.Meaning.{IsTakenByClap, all_words, clap_faults, texts_of}
use Rattle.tsume_words.specs.declared.faults.WordsEnd.TheVariants.{NoMemory}
use Rattle.tsume_words.proofs.Offered.{given_where_taken, promised_by_clap, promised_by_outcome}
use Rattle.program_words.specs.Commands.{commands}
use Rattle.program_words.specs.Line.{tsume_line}
use Rattle.program_words.specs.Meaning.{asked_file, asked_view, program}
use Rattle.program_words.proofs.Taken.{command_where_taken, fit, command_test_laws}
use Rattle.program_words.proofs.reading.read_words.Goals as goal

pub asked-requires : goal.asked-requires
asked-requires c =
    let words = texts_of c.args.words.now in
    let app = c.in_ok-command_line.ensures in
    let texts : map (λ s. s.now) c.as_slice.result.now ≡ all_words words = ap (map (λ s. s.now)) c.as_slice.ensures.value ∙ c.in_ok-texts.ensures in
    let taken : IsTakenByClap tsume_line words = sym (ap₂ fault_of app texts) ∙ c.in-Ok.ensures.kinds (ap is_simple_and_free app ∙ fit.simple) in
    let rows = (c.in-Ok.ensures.matches (ap is_simple app ∙ fit.alone)).1 ∙ ap₂ subcommand_of app texts in
    command_where_taken words _ taken rows

pub returns-in-Ok : goal.returns-in-Ok
returns-in-Ok c =
    let words = texts_of c.args.words.now in
    let app = c.in_ok-command_line.ensures in
    let texts : map (λ s. s.now) c.as_slice.result.now ≡ all_words words = ap (map (λ s. s.now)) c.as_slice.ensures.value ∙ c.in_ok-texts.ensures in
    let taken : IsTakenByClap tsume_line words = sym (ap₂ fault_of app texts) ∙ c.in-Ok.ensures.kinds (ap is_simple_and_free app ∙ fit.simple) in
    let rows = (c.in-Ok.ensures.matches (ap is_simple app ∙ fit.alone)).1 ∙ ap₂ subcommand_of app texts in
    let file = subst (λ (o : Option (Text × List Row)). IfOk c.asked.result (λ asked. asked_file asked ≡ option_and_then commands.file o)) rows c.asked.ensures.file in
    promised_by_outcome program asked_view asked_file (command_test_laws c.power_laws.ensures) words c.asked.result taken
    (given_where_taken program asked_view asked_file words _ c.asked.result taken rows c.asked.ensures.outcome) file

pub returns : goal.returns
returns c =
    let words = texts_of c.args.words.now in
    let app = c.in_ok-command_line.ensures in
    let texts : map (λ s. s.now) c.as_slice.result.now ≡ all_words words = ap (map (λ s. s.now)) c.as_slice.ensures.value ∙ c.in_ok-texts.ensures in
    let kinds = c.in-Err.ensures.kinds (ap is_simple_and_free app ∙ fit.simple) in
    let why : (c.end_of.result ≡ NoMemory) ⊎ IsAmong (kind_of c.in-Err.error) (clap_faults tsume_line words) = elim kinds [
      | inl memory ↦ inl (c.end_of.ensures.memory memory)
      | inr among ↦ inr (subst (λ (k : Kinds). IsAmong (kind_of c.in-Err.error) k) (ap₂ fault_of app texts) among)
    ] in
    promised_by_clap program asked_view asked_file words c.end_of.result (kind_of c.in-Err.error) c.end_of.ensures.text why
