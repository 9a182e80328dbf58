-- What comes of a search is answered.
use Rattle.std.proofs.Common.{◌≡◌, inl, inr, List, ℕ, subst, sym}
use Rattle.std.specs.Prelude.{Result, Ok, Err, IfOk, IfErr}
use Rattle.board_core.specs.Board.{Board}
use Rattle.notes.specs.Derivation.{Derivation}
use Rattle.app_texts.specs.declared.answer.Solution.{Solution}
use Rattle.app_texts.specs.declared.answer.Solution.TheVariants.{Mate, NoMate, Unknown}
use Rattle.search_limits.specs.Sizes.{SettingsView}
use Rattle.search_crew.specs.End.{IsSearchEnd}
use Rattle.search_pool.specs.declared.end.SearchEnd.{SearchEnd}
use Rattle.search_pool.specs.declared.end.SearchEnd.TheVariants.{Solved}
use Rattle.app_texts.specs.declared.fault.ProblemFault.{ProblemFault}
use Rattle.problem_answers.specs.Reading.{StandsFor}
use Rattle.cmd_solve.specs.Meaning.{SolveView, solve_meaning}
use Rattle.one_run.specs.declared.command.Unanswered.{Unanswered}
use Rattle.one_run.specs.declared.command.Unanswered.TheVariants.{NoMemory}
use Rattle.one_run.specs.Command.{IsAnswer}
use Rattle.one_run.specs.Stops.{Signals, AreUsed, once_armed}
use Rattle.problem_answers.specs.Answer.{IsVerdictOf}
use Rattle.cmd_solve.specs.Answer.{IsTrueOf}

-- The verdict of a note with which a search is solved is true.
pub found_of : {E : Type 0} (result : Result Solution E) (p : Board) (s : SettingsView) (stops : Signals) (note : Derivation)
    → IsSearchEnd p s stops.before stops.after (Solved note) → IfOk result (IsVerdictOf p note) → IfOk result (IsTrueOf p s stops)
found_of (Ok (Mate c moves)) p s stops note search verdict = record { note = note; search = search; verdict = verdict }
found_of (Ok (NoMate c)) p s stops note search verdict = record { note = note; search = search; verdict = verdict }
found_of (Ok (Unknown cause crew)) p s stops note search verdict = inr (record { note = note; search = search; verdict = verdict })
found_of (Err error) p s stops note search verdict = tt

-- An answer to the problem of a text, by a search that used the stops.
pub answered : {E : Type 0} (asked : SolveView) (problem : Board) (input : List ℕ) (stops : Signals) (end : Result SearchEnd E) (result : Result Solution (Unanswered ProblemFault))
    → StandsFor asked.form input (Ok problem) → AreUsed asked.settings.workers asked.watch.deadline stops
    → IfOk end (IsSearchEnd problem asked.settings (once_armed asked.watch.deadline stops).before stops.after)
    → ((s : SettingsView) (its : Signals) → IfOk end (IsSearchEnd problem s its.before its.after) → IfOk result (IsTrueOf problem s its))
    → IfErr result (λ why. why ≡ NoMemory) → IsAnswer (solve_meaning asked) stops input result
answered asked problem input stops end (Ok solution) stands used ends tells memory =
    (record { problem = problem; stands_for = stands; true_of = tells asked.settings (once_armed asked.watch.deadline stops) ends }, used)
answered asked problem input stops end (Err why) stands used ends tells memory =
    subst (λ (w : Unanswered ProblemFault). IsAnswer (solve_meaning asked) stops input (Err w)) (sym memory) (inl used)
