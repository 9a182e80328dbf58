-- What a search finds.
use Rattle.std.proofs.Common.{◌≡◌, ◌∙◌, ℕ, List, Option, Some, None, inl, inr, refl, sym, subst, ap}
use Rattle.std.specs.Prelude.{Result, Ok, Err, IfOk}
use Rattle.board_core.specs.Board.{Board}
use Rattle.notes.specs.Derivation.{Derivation}
use Rattle.search_gate.specs.Stop.{Signal, one_more}
use Rattle.search_limits.specs.Sizes.{SettingsView}
use Rattle.search_limits.specs.declared.cause.Cause.TheVariants.{Expansions, Room, Height, Stopped, Entries}
use Rattle.visit_log.specs.Run.{WorkerView}
use Rattle.search_pool.specs.End.{HeedsStop, IsAlone, IsAloneUntil}
use Rattle.search_pool.specs.declared.end.SearchEnd.{SearchEnd}
use Rattle.search_pool.specs.declared.end.SearchEnd.TheVariants.{Solved, Unknown as SearchUnknown}
use Rattle.app_texts.specs.declared.answer.Solution.{Solution}
use Rattle.app_texts.specs.declared.answer.Solution.TheVariants.{Mate, NoMate, Unknown}
use Rattle.problem_answers.specs.Answer.{IsVerdictOf}
use Rattle.problem_answers.specs.Reading.{StandsFor}
use Rattle.problem_lines.specs.Lines.{NumberedLine}
use Rattle.cmd_collection.specs.Words.{CollectionView}
use Rattle.cmd_collection.specs.Reports.{IsEndIn, IsFoundIn, IsLineStopped, IsUnstopped, MeansStopped, armed_for, line_form}

-- The verdict of a note is what a search found that it solves.
pub found_of : {E : Type 0} (result : Result Solution E) (p : Board) (s : SettingsView) (deadline : Option ℕ) (note : Derivation)
    → IsEndIn p s deadline (Solved note) → IfOk result (IsVerdictOf p note) → IfOk result (IsFoundIn p s deadline)
found_of (Ok (Mate c moves)) p s deadline note end verdict = record { note = note; end = end; verdict = verdict }
found_of (Ok (NoMate c)) p s deadline note end verdict = record { note = note; end = end; verdict = verdict }
found_of (Ok (Unknown cause crew)) p s deadline note end verdict = inr (record { note = note; end = end; verdict = verdict })
found_of (Err error) p s deadline note end verdict = tt

never_rose : {A : Type 0} → 0 ≡ one_more 0 → A
never_rose e = absurd (cc)

-- A search whose stop never signals ends alone,
alone_of : (p : Board) (s : SettingsView) (before after : Signal) (end : SearchEnd) → before.raised ≡ 0 → after.raised ≡ 0
    → IsAloneUntil p s before after end → IsAlone p s end
alone_of p s before after end one two until = elim until.1 as (λ _. IsAlone p s end) [
  | inl own ↦ (until.0, own, until.2)
  | inr rose ↦ never_rose (sym two ∙ (rose ∙ ap one_more one))
]

-- and not as stopped.
unstopped_of : (before after : Signal) (end : SearchEnd) → before.raised ≡ 0 → after.raised ≡ 0 → HeedsStop before after end → IsUnstopped end
unstopped_of before after (Solved note) one two heeds = tt
unstopped_of before after (SearchUnknown (Expansions number) crew) one two heeds = tt
unstopped_of before after (SearchUnknown (Room number) crew) one two heeds = tt
unstopped_of before after (SearchUnknown (Height number) crew) one two heeds = tt
unstopped_of before after (SearchUnknown (Stopped worker) crew) one two heeds = never_rose (sym two ∙ (heeds.0 ∙ ap one_more one))
unstopped_of before after (SearchUnknown (Entries number) crew) one two heeds = tt

pub quiet_end : (p : Board) (s : SettingsView) (before after : Signal) (end : SearchEnd) → before.raised ≡ 0 → after.raised ≡ 0
    → IsAloneUntil p s before after end → HeedsStop before after end → IsEndIn p s None end
quiet_end p s before after end one two until heeds = (alone_of p s before after end one two until, unstopped_of before after end one two heeds)

-- A search whose stop is new and armed for a deadline ends so.
pub until_end : (p : Board) (s : SettingsView) (deadline : ℕ) (before after : Signal) (end : SearchEnd) → before ≡ armed_for deadline
    → IsAloneUntil p s before after end → HeedsStop before after end → after.armed ≡ before.armed → after.arms ≡ before.arms → after.early ≡ before.early
    → IsEndIn p s (Some deadline) end
until_end p s deadline before after end is until heeds armed arms early = record {
  stop = after;
  until = subst (λ (b : Signal). IsAloneUntil p s b after end) is until;
  heeds = subst (λ (b : Signal). HeedsStop b after end) is heeds;
  polled = record {
    armed = armed ∙ ap (λ (b : Signal). b.armed) is;
    arms = arms ∙ ap (λ (b : Signal). b.arms) is;
    early = early ∙ ap (λ (b : Signal). b.early) is;
  };
}

-- A search that ended as stopped had a deadline, and its stop rose.
stopped_in : (settings : SettingsView) (form : CollectionView) (line : NumberedLine) (worker : ℕ) (crew : List WorkerView) (problem : Board)
    → StandsFor (line_form form) line.content (Ok problem) → (deadline : Option ℕ) → form.deadline ≡ deadline
    → IsEndIn problem settings deadline (SearchUnknown (Stopped worker) crew) → IsLineStopped settings form line worker crew
stopped_in settings form line worker crew problem stands None is end = absurd end.1
stopped_in settings form line worker crew problem stands (Some deadline) is end = record {
  deadline = deadline;
  given = is;
  problem = problem;
  stands_for = stands;
  stop = end.stop;
  polled = end.polled;
  rose = end.heeds.0;
  last = end.heeds.1;
  until = end.until;
}

-- So a report that says so means it.
pub means_stopped : (settings : SettingsView) (form : CollectionView) → MeansStopped settings form
means_stopped settings form line worker crew true_of = elim true_of.found as (λ _. IsLineStopped settings form line worker crew) [
  | inl end ↦ stopped_in settings form line worker crew true_of.problem true_of.stands_for form.deadline refl end
  | inr told ↦ let cause = told.verdict.cause in absurd (cc)
]
