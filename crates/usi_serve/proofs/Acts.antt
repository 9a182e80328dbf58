-- What comes of an act, and of the line at which it is done.
use Rattle.std.proofs.Common.{ℕ, List, [], ◌∷◌, Ok, Err, Result, refl, subst, inr}
use Rattle.std.specs.Prelude.{◌≢◌}
use Rattle.search_limits.specs.Settings.{settings_in}
use Rattle.app_texts.specs.declared.answer.Solution.{Solution}
use Rattle.one_run.specs.Outside.{Shown}
use Rattle.one_run.specs.Stops.{Signals, AreUsed, once_armed}
use Rattle.cmd_solve.specs.Answer.{IsTrueOf}
use Rattle.usi_session.specs.Laws.{SolvesAreOwn}
use Rattle.usi_session.specs.Sessions.{ActView, SessionView, IsAct, Ends, Solves}
use Rattle.usi_session.specs.declared.act.Solve.{Solve}
use Rattle.usi_serve.specs.Inside.{IsActServed, solve_seen}
use Rattle.usi_serve.specs.Reply.{reply_line}
use Rattle.usi_serve.specs.Served.{IsDone, IsLineServed}
use Rattle.usi_serve.specs.declared.serving.Served.{Served}
use Rattle.usi_serve.specs.declared.serving.ServeFault.{ServeFault}
use Rattle.usi_serve.specs.declared.serving.ServeFault.TheVariants.{Write, NoMemory}

-- a problem was solved as far as it went
pub solved : (asked : Solve) (stops : Signals) (solution : Solution)
    → IsTrueOf asked.problem.position (settings_in asked.settings) (once_armed asked.millis stops) solution
    → AreUsed (settings_in asked.settings).workers asked.millis stops
    → IsDone (solve_seen asked) stops (reply_line solution) ((record { asked = asked; solution = solution }) ∷ [])
solved asked stops solution true_of used =
    (record { asked = asked; solution = solution }, refl, refl, record { problem = refl; settings = refl; millis = refl; true_of = true_of; used = used })

-- a session goes on behind a problem that was to be solved
pub goes_on : (asked : Solve) → solve_seen asked ≢ Ends
goes_on asked = λ same. absurd (cc)

-- what came of the line at which an act is done
pub served_line : SolvesAreOwn → (before after : SessionView) (line : List ℕ) (act : ActView) (stops : Signals) (sink : Shown) (result : Result Served ServeFault)
    → IsAct before line act after → IsActServed act stops sink result → IsLineServed before line after stops sink result
served_line own before after line act stops sink (Ok served) is whole = record {
  act = act;
  is_act = is;
  text = whole.text;
  done = whole.done;
  told = whole.tells;
  grew = whole.grew;
  kept = whole.kept;
}
served_line own before after line act stops sink (Err Write) is part = record {
  act = act;
  is_act = is;
  text = part.text;
  replies = part.replies;
  done = part.done;
  grew = part.grew;
  rose = part.rose;
}
served_line own before after line act stops sink (Err NoMemory) is wanting =
    let asked = subst (λ (a : ActView). IsAct before line a after) wanting.asked is in
    let kept = (own before line wanting.problem wanting.settings wanting.millis after asked).kept in
    record {
      session = kept;
      unwritten = wanting.unwritten;
      stops_used = inr (record {
        problem = wanting.problem;
        settings = wanting.settings;
        millis = wanting.millis;
        asked = subst (λ (s : SessionView). IsAct before line (Solves wanting.problem wanting.settings wanting.millis) s) kept asked;
        used = wanting.used;
      });
    }
