-- What `shortest` is asked, and the stop that it uses.
use Rattle.std.specs.Prelude.{ℕ, [], ◌∷◌}
use Rattle.search_gate.specs.Stop.{Signal}
use Rattle.tsume_words.specs.declared.form.ProblemForm.{ProblemForm}
use Rattle.tsume_words.specs.Given.{WatchView, watch_in}
use Rattle.one_run.specs.Stops.{Signals}
use Rattle.cmd_shortest.specs.declared.asked.Shortest.{Shortest}

-- What `shortest` is asked: up to how many of the attacker's moves, with how many expansions, the
-- form of the problem, and how the search is watched.
pub record ShortestView : Type 0 where
  pub limit : ℕ
  pub expansions : ℕ
  pub form : ProblemForm
  pub watch : WatchView

-- What `shortest` is asked, by its parts.
abbrev pub shortest_in : Shortest → ShortestView
shortest_in asked = record {
  limit = asked.limit;
  expansions = asked.expansions.count;
  form = asked.form;
  watch = watch_in asked.watch;
}

-- What one stop alone tells, before and after.
abbrev pub one_stop : Signal → Signal → Signals
one_stop before after = record { before = before ∷ []; after = after ∷ [] }
