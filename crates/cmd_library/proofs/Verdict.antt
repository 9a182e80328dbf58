-- What comes of a text and of a search is answered.
use Rattle.std.proofs.Common.{◌≡◌, inl, inr, List, ℕ, subst, sym}
use Rattle.std.specs.Prelude.{Result, Ok, Err, IfOk, IfErr}
use Rattle.board_core.specs.Board.{Board}
use Rattle.notes.specs.Derivation.{Derivation}
use Rattle.cert_text.specs.declared.certificate.Certificate.{Certificate}
use Rattle.tsume_words.specs.declared.form.ProblemForm.{ProblemForm}
use Rattle.app_texts.specs.declared.answer.Solution.{Solution}
use Rattle.app_texts.specs.declared.answer.Solution.TheVariants.{Mate, NoMate, Unknown}
use Rattle.search_limits.specs.Sizes.{SettingsView}
use Rattle.search_crew.specs.End.{IsSearchEndWith}
use Rattle.search_pool.specs.declared.end.SearchEnd.{SearchEnd}
use Rattle.search_pool.specs.declared.end.SearchEnd.TheVariants.{Solved as SearchSolved}
use Rattle.problem_answers.specs.Answer.{IsVerdictOf}
use Rattle.one_run.specs.declared.command.Unanswered.{Unanswered}
use Rattle.one_run.specs.declared.command.Unanswered.TheVariants.{Text, NoMemory}
use Rattle.one_run.specs.Command.{IsAnswer}
use Rattle.one_run.specs.Stops.{AreUnused, AreUsed, Signals, once_armed}
use Rattle.cmd_solve.specs.Meaning.{SolveView}
use Rattle.cmd_library.specs.Answer.{IsPosed, IsTrueWith}
use Rattle.cmd_library.specs.Inside.{AreNotesOf, IsBegun, IsChecked, IsReady, IsToldBy, IsUnposed}
use Rattle.cmd_library.specs.declared.begun.Begun.{Begun}
use Rattle.cmd_library.specs.declared.begun.Begun.TheVariants as begun
use Rattle.cmd_library.specs.Meaning.{library_meaning}
use Rattle.cmd_library.specs.declared.answer.LibraryAnswer.{LibraryAnswer}
use Rattle.cmd_library.specs.declared.answer.LibraryAnswer.TheVariants.{Solved, Refused}
use Rattle.cmd_library.specs.declared.fault.LibraryTextFault.{LibraryTextFault}

-- The verdict of a note with which a search is solved is true.
pub found_of : {E : Type 0} (result : Result Solution E) (notes : List Derivation) (p : Board) (s : SettingsView) (stops : Signals) (note : Derivation)
    → IsSearchEndWith notes p s stops.before stops.after (SearchSolved note) → IfOk result (IsVerdictOf p note) → IfOk result (IsTrueWith notes p s stops)
found_of (Ok (Mate c moves)) notes p s stops note search verdict = record { note = note; search = search; verdict = verdict }
found_of (Ok (NoMate c)) notes p s stops note search verdict = record { note = note; search = search; verdict = verdict }
found_of (Ok (Unknown cause crew)) notes p s stops note search verdict = inr (record { note = note; search = search; verdict = verdict })
found_of (Err error) notes p s stops note search verdict = tt

-- What the certificates of an input come to for its problem, the input comes to.
pub begun_of : (form : ProblemForm) (input : List ℕ) (p : Board) (certificates : List Certificate) (its : Begun) → IsPosed form input p certificates
    → IsChecked p certificates its → IsBegun form input its
begun_of form input p certificates (begun.Ready problem notes) posed checked = record {
  certificates = certificates;
  posed = subst (λ (q : Board). IsPosed form input q certificates) (sym checked.0) posed;
  are = subst (λ (q : Board). AreNotesOf q certificates notes.items) (sym checked.0) checked.1;
}
begun_of form input p certificates (begun.Refused refused) posed checked = record {
  problem = p;
  certificates = certificates;
  posed = posed;
  first = checked;
}

-- Where nothing is to be searched, that is the answer, and the stops aren't used.
pub unposed : (asked : SolveView) (input : List ℕ) (stops : Signals) (why : Unanswered LibraryTextFault) → IsUnposed asked.form input why → AreUnused stops
    → IsAnswer (library_meaning asked) stops input (Err why)
unposed asked input stops (Text fault) is unused = (is, unused)
unposed asked input stops NoMemory is unused = inr unused

-- An answer to a problem with a library behind it, by a search that used the stops.
pub answered : {E : Type 0} (asked : SolveView) (p : Board) (notes : List Derivation) (input : List ℕ) (stops : Signals) (end : Result SearchEnd E)
    (result : Result LibraryAnswer (Unanswered LibraryTextFault)) → IsReady asked.form input p notes → AreUsed asked.settings.workers asked.watch.deadline stops
    → IfOk end (IsSearchEndWith notes p asked.settings (once_armed asked.watch.deadline stops).before stops.after)
    → ((its : List Derivation) (s : SettingsView) (signals : Signals) → IfOk end (IsSearchEndWith its p s signals.before signals.after)
    → IfOk result (IsToldBy (IsTrueWith its p s signals)))
    → IfErr result (λ why. why ≡ NoMemory) → IsAnswer (library_meaning asked) stops input result
answered asked p notes input stops end (Ok (Solved solution)) ready used ends tells memory =
    let told = tells notes asked.settings (once_armed asked.watch.deadline stops) ends in (
      record {
        problem = p;
        certificates = ready.certificates;
        posed = ready.posed;
        valid = ready.are.valid;
        true_of = subst (λ (its : List Derivation). IsTrueWith its p asked.settings (once_armed asked.watch.deadline stops) solution) ready.are.these told;
        used = used;
      },
      inl used,
    )
answered asked p notes input stops end (Ok (Refused refused)) ready used ends tells memory =
    absurd (tells notes asked.settings (once_armed asked.watch.deadline stops) ends)
answered asked p notes input stops end (Err (Text fault)) ready used ends tells memory = absurd (cc)
answered asked p notes input stops end (Err NoMemory) ready used ends tells memory = inl (inl used)
