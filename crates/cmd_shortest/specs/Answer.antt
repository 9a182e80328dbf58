-- When an answer to `shortest` is true.
use Rattle.std.specs.Prelude.{◌≤◌, ℕ, List, [], ◌∷◌, Ok}
use Rattle.board_core.specs.Board.{Board}
use Rattle.board_core.specs.Kept.{IsKept}
use Rattle.search_gate.specs.Polls.{IsPolledForEach}
use Rattle.search_gate.specs.Stop.{Signal}
use Rattle.problem_answers.specs.Reading.{StandsFor}
use Rattle.one_run.specs.Stops.{Signals}
use Rattle.shortest_mate.specs.declared.finding.Finding.{Finding}
use Rattle.shortest_mate.specs.Finding.{IsPrintable, HeedsStop, IsTrueOf}
use Rattle.cmd_shortest.specs.Asked.{ShortestView}
use Rattle.cmd_shortest.specs.declared.answer.ShortestAnswer.{ShortestAnswer}

-- There is one stop, and it was heeded: that it was stopped is what was found exactly where it
-- signalled.
abbrev pub IsOneHeeded : Finding → List Signal → List Signal → Type 0
IsOneHeeded finding (before ∷ []) (after ∷ []) = HeedsStop before after finding
IsOneHeeded finding before after = ⊥

-- There is one stop, and it was polled for each of so many expansions.
abbrev pub IsOnePolled : ℕ → List Signal → List Signal → Type 0
IsOnePolled made (before ∷ []) (after ∷ []) = IsPolledForEach 0 made before after
IsOnePolled made before after = ⊥

-- The bytes of an input are a problem of which the answer is true, for the limit and the expansions
-- that were asked for, of which no more were made; it can be printed; and the stop was heeded, and
-- polled for each of the expansions that were made.
pub record IsAnswered (asked : ShortestView) (stops : Signals) (input : List ℕ) (answer : ShortestAnswer) : Type 0 where
  pub problem : Board
  pub stands_for : StandsFor asked.form input (Ok problem)
  pub kept : IsKept problem
  pub true_of : IsTrueOf problem asked.limit asked.expansions answer.made answer.finding
  pub few : answer.made ≤ asked.expansions
  pub printable : IsPrintable answer.finding
  pub heeded : IsOneHeeded answer.finding stops.before stops.after
  pub polled : IsOnePolled answer.made stops.before stops.after
