-- There are as many stops behind a line as before it.
use Rattle.std.proofs.Common.{◌≡◌, ◌∙◌, ℕ, zero, suc, List, [], ◌∷◌, Option, Ok, Err, Result, length, map, sym, ap, inl, inr}
use Rattle.std.proofs.lemmas.List.{length-map}
use Rattle.search_gate.specs.Stop.{Signal}
use Rattle.search_gate.specs.Polls.{ArePolled}
use Rattle.one_run.specs.Outside.{Shown}
use Rattle.one_run.specs.Stops.{Signals, AreUsed, once_armed}
use Rattle.usi_session.specs.Sessions.{ActView, SessionView, Says, Solves, Ends, DoesNothing}
use Rattle.usi_serve.specs.Served.{IsDone, IsLineServed}
use Rattle.usi_serve.specs.declared.reply.Reply.{Reply}
use Rattle.usi_serve.specs.declared.serving.Served.{Served}
use Rattle.usi_serve.specs.declared.serving.ServeFault.{ServeFault}
use Rattle.usi_serve.specs.declared.serving.ServeFault.TheVariants.{Write, NoMemory}

as_many : (workers : ℕ) (before after : List Signal) → ArePolled workers before after → length after ≡ length before
as_many zero before after same = ap length same
as_many (suc workers) [] after same = ap length same
as_many (suc workers) (old ∷ before) [] both = absurd both
as_many (suc workers) (old ∷ before) (new ∷ after) both = ap suc (as_many workers before after both.1)

used_same : (workers : ℕ) (deadline : Option ℕ) (stops : Signals) → AreUsed workers deadline stops → length stops.after ≡ length stops.before
used_same workers deadline stops used = as_many workers (once_armed deadline stops).before stops.after used ∙ length-map stops.before _

done_same : (act : ActView) (stops : Signals) (text : List ℕ) (replies : List Reply) → IsDone act stops text replies → length stops.after ≡ length stops.before
done_same (Says said) stops text replies done = ap length done.2
done_same (Solves problem settings millis) stops text replies (reply, is_one, is_text, is) = used_same settings.workers millis stops is.used
done_same Ends stops text replies done = ap length done.2
done_same DoesNothing stops text replies done = ap length done.2

line_same : (before after : SessionView) (line : List ℕ) (stops : Signals) (sink : Shown) (result : Result Served ServeFault)
    → IsLineServed before line after stops sink result → length stops.after ≡ length stops.before
line_same before after line stops sink (Ok served) is = done_same is.act stops is.text _ is.done
line_same before after line stops sink (Err Write) is = done_same is.act stops is.text is.replies is.done
line_same before after line stops sink (Err NoMemory) is = elim is.stops_used [
  | inl unused ↦ ap length unused
  | inr used ↦ used_same used.settings.workers used.millis stops used.used
]

-- the same of stops, which tell them
pub stops_same : {T : Type 0} (signal : T → Signal) (before after : List T) (session then : SessionView) (line : List ℕ) (sink : Shown) (result : Result Served ServeFault)
    → IsLineServed session line then (record { before = map signal before; after = map signal after }) sink result → length after ≡ length before
stops_same signal before after session then line sink result is =
    sym (length-map after signal) ∙ (line_same session then line (record { before = map signal before; after = map signal after }) sink result is ∙ length-map before signal)
