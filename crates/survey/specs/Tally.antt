-- What the search of a problem comes to.
use Rattle.std.specs.Prelude.{◌≡◌, ◌+◌, ℕ, List}
use Rattle.board_core.specs.Board.{Board}
use Rattle.mate_def.specs.Mate.{IsMate}
use Rattle.notes.specs.declared.rule.Conclusion.{Conclusion}
use Rattle.notes.specs.declared.rule.Conclusion.TheVariants as conclusions
use Rattle.notes.specs.Derivation.{conclusion_of}
use Rattle.problem_gen.specs.Generator.{IsGenerated}
use Rattle.search_limits.specs.declared.settings.TheConstants.{MOST_ROOM}
use Rattle.search_limits.specs.Sizes.{SettingsView, numbers_of}
use Rattle.search_pool.specs.declared.end.SearchEnd.{SearchEnd}
use Rattle.search_pool.specs.declared.end.SearchEnd.TheVariants as ends
use Rattle.search_pool.specs.End.{IsAlone}
use Rattle.search_pool.specs.declared.tally.Tally.{Tally}
use Rattle.search_pool.specs.declared.tally.Tally.TheVariants.{Mate, NoMate, Unknown}
use Rattle.side_by_side.specs.Answers.{AreAnswers}

-- What a note about a problem concludes of it.
abbrev pub tally_by : Conclusion → Tally
tally_by conclusions.Mate = Mate
tally_by conclusions.Escape = NoMate

-- What a search came to that ended so: what its note concludes, or why it gave up.
abbrev pub tally_of : SearchEnd → Tally
tally_of (ends.Solved note) = tally_by (conclusion_of note)
tally_of (ends.Unknown cause crew) = Unknown cause

-- A tally of a problem is true: a mate is one, and no mate is none, for the side to move.
abbrev pub IsTrueOf : Board → Tally → Type 0
IsTrueOf problem Mate = IsMate problem.side problem
IsTrueOf problem NoMate = ¬ IsMate problem.side problem
IsTrueOf problem (Unknown cause) = Unit {0}

-- The problem's search with these settings comes to the tally: it is that of an end to which the
-- search alone comes, and it is true.
pub record ComesTo (problem : Board) (s : SettingsView) (tally : Tally) : Type 0 where
  pub end : SearchEnd
  pub alone : IsAlone problem s end
  pub told : tally ≡ tally_of end
  pub is_true : IsTrueOf problem tally

-- The settings of each search: one worker, so many visits, all the room that there can be, and
-- 1,024 rows in one part.
abbrev pub survey_settings : ℕ → SettingsView
survey_settings expansions = numbers_of 1 expansions MOST_ROOM 1024 1

-- The tally of a number, with so many visits: that of the problem that the generator makes of the
-- number.
pub record IsTallied (expansions number : ℕ) (tally : Tally) : Type 0 where
  pub problem : Board
  pub generated : IsGenerated number problem
  pub comes : ComesTo problem (survey_settings expansions) tally

-- The tallies of so many numbers from a first one on, in their order.
abbrev pub AreTallied : ℕ → ℕ → ℕ → List Tally → Type 0
AreTallied first count expansions tallies = AreAnswers count (λ place tally. IsTallied expansions (first + place) tally) tallies
