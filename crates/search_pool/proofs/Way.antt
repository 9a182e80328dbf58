-- A search with one worker goes on by one request.
use Rattle.std.proofs.Common.{◌≡◌, inl, inr, ℕ, List, [], ◌∷◌, ◌++◌, refl, sym, ap, ◌∙◌, subst, append_assoc, Bool, true, false}
use Rattle.std.specs.Prelude.{None, All, if◌then◌else◌}
use Rattle.std.proofs.lemmas.List.{map_push}
use Rattle.std.proofs.lemmas.List.Elements.{All-push, All-append, All-cons, All-nil}
use Rattle.board_core.specs.Board.{Board}
use Rattle.search_limits.specs.Sizes.{SettingsView}
use Rattle.visit_log.specs.Visit.{Exchange}
use Rattle.visit_log.specs.Frame.{Task}
use Rattle.visit_log.specs.Machine.{asks, end_of, path_of}
use Rattle.visit_log.specs.Run.{WorkerView, Leads}
use Rattle.visit_log.specs.declared.words.WorkEnd.TheVariants.{Stopped}
use Rattle.worker_core.specs.Machine.{is_poll}
use Rattle.worker_core.proofs.Offered.{goes_asks}
use Rattle.lone_port.specs.Lone.{LonePortView, opened}
use Rattle.search_gate.specs.Stop.{Signal, one_more, polled}
use Rattle.lone_port.specs.declared.event.Event.{Event}
use Rattle.lone_port.specs.declared.event.Event.TheVariants.{Step, Raise}
use Rattle.lone_port.specs.World.{World, Steps, IsAtWork, StepsAt, Plays}
use Rattle.lone_port.specs.Alone.{IsOwn, IsOwnStep, told_to_one, world_of}
use Rattle.search_pool.specs.End.{polls_after}
use Rattle.search_pool.specs.Inside.{says_stop, WasSaid, IsWindingUp, IsQuiet, IsUnderWay, world_over}
use Rattle.search_pool.proofs.Desk.{told_on, limits_stay}
use Rattle.search_pool.proofs.Quiet.{says_no, says_yes}
use Rattle.search_pool.proofs.Winding.{not_polling, said_on, said_now, winding_on}

-- 1. SCHEDULES, ONE BEHIND THE OTHER.

plays_then : (es fs : List Event) (w v u : World) (one two : List (ℕ × Exchange)) → Plays w es one v → Plays v fs two u → Plays w (es ++ fs) (one ++ two) u
plays_then [] fs w v u one two h k =
    subst (λ (z : List (ℕ × Exchange)). Plays w fs (z ++ two) u) (sym h.0) (subst (λ (z : World). Plays z fs two u) (sym h.1) k)
plays_then (e ∷ es) fs w v u one two h k = (
  h.0,
  h.1 ++ two,
  h.2,
  h.3,
  plays_then es fs h.2 v u h.1 two h.4 k,
  ap (λ (z : List (ℕ × Exchange)). z ++ two) h.5 ∙ append_assoc h.0 h.1 two,
)

-- 2. ONE REQUEST.

at_work : (port : LonePortView) (worker : WorkerView) (raised : Bool) → end_of worker.state ≡ None → IsAtWork (world_of port worker raised) 1 0 worker
at_work port worker raised going = record { numbered = refl; there = refl; goes_on = going }

either : (b : Bool) (xs : List Bool) → xs ≡ (if b then xs else xs)
either true xs = refl
either false xs = refl

-- The worker's step, where no stop is signalled.
step_quietly : (port after : LonePortView) (worker later : WorkerView) (x : Exchange) → end_of worker.state ≡ None → Steps false port worker x after later
    → Plays (world_of port worker false) (Step 1 ∷ []) ((1, x) ∷ []) (world_of after later false)
step_quietly port after worker later x going steps =
    let at : StepsAt (world_of port worker false) 0 worker x (world_of after later false) =
    record { later = later; steps = steps; workers = refl; raised = either (is_poll x.0) (false ∷ []) } in (
      (1, x) ∷ [],
      [],
      world_of after later false,
      inl (0, worker, x, at_work port worker false going, at, refl),
      (refl, refl),
      refl,
    )

cleared : (b : Bool) → b ≡ true → (false ∷ []) ≡ (if b then false ∷ [] else true ∷ [])
cleared true e = refl
cleared false e = absurd (cc)

-- A stop is signalled, and its step.
step_stopped : (port after : LonePortView) (worker later : WorkerView) (x : Exchange) → end_of worker.state ≡ None → is_poll x.0 ≡ true → Steps true port worker x after later
    → Plays (world_of port worker false) (Raise 1 ∷ Step 1 ∷ []) ((1, x) ∷ []) (world_of after later false)
step_stopped port after worker later x going polls steps =
    let at : StepsAt (world_of port worker true) 0 worker x (world_of after later false) =
    record { later = later; steps = steps; workers = refl; raised = cleared (is_poll x.0) polls } in
    let next : Plays (world_of port worker true) (Step 1 ∷ []) ((1, x) ∷ []) (world_of after later false) = (
      (1, x) ∷ [],
      [],
      world_of after later false,
      inl (0, worker, x, at_work port worker true going, at, refl),
      (refl, refl),
      refl,
    ) in
    ([], (1, x) ∷ [], world_of port worker true, inl (0, worker, at_work port worker false going, refl, refl), next, refl)

-- 3. WHAT BECOMES OF A SEARCH UNDER WAY.

said_before : (log : List Exchange) (x : Exchange) → (WasSaid says_stop log → ⊥) → says_stop x ≡ false → WasSaid says_stop (log ++ x ∷ []) → ⊥
said_before log x none not w =
    elim (Rattle.std.proofs.lemmas.List.Elements.Contains-push_cases log x w.0 w.1) as (λ _. ⊥) [
      | inl there ↦ none (w.0, there, w.2)
      | inr e ↦ (let b : false ≡ true = sym not ∙ (ap says_stop e ∙ w.2) in absurd (cc))
    ]

-- All that is known of one request of the search.
pub record IsRequest (before mid after : Signal) (stops : Bool) (port : LonePortView) (worker : WorkerView) (x : Exchange) (next : LonePortView) (later : WorkerView) : Type 0 where
  pub going : end_of worker.state ≡ None
  pub at_polls : stops ≡ true → is_poll (asks worker.state) ≡ true
  pub signal : after ≡ (if is_poll (asks worker.state) then polled mid stops else mid)
  pub steps : Steps stops port worker x next later
  pub leads : (log : List Exchange) → Leads worker.task log worker.state → Leads worker.task (log ++ x ∷ []) later.state

abbrev new_events : Bool → List Event
new_events true = Raise 1 ∷ Step 1 ∷ []
new_events false = Step 1 ∷ []

own_events : (stops : Bool) → All IsOwn (new_events stops)
own_events true = All-cons IsOwn (Raise 1) (Step 1 ∷ []) refl (All-cons IsOwn (Step 1) [] refl (All-nil IsOwn))
own_events false = All-cons IsOwn (Step 1) [] refl (All-nil IsOwn)

plays_one : (stops : Bool) (port next : LonePortView) (worker later : WorkerView) (x : Exchange) → end_of worker.state ≡ None → (stops ≡ true → is_poll x.0 ≡ true)
    → Steps stops port worker x next later → Plays (world_of port worker false) (new_events stops) ((1, x) ∷ []) (world_of next later false)
plays_one true port next worker later x going polls steps = step_stopped port next worker later x going (polls refl) steps
plays_one false port next worker later x going polls steps = step_quietly port next worker later x going steps

-- What a poll doesn't change of a stop.
same_field : {A : Type 0} (field : Signal → A) (mid : Signal) (stops b : Bool) → field (polled mid stops) ≡ field mid → field (if b then polled mid stops else mid) ≡ field mid
same_field field mid stops true same = same
same_field field mid stops false same = refl

once_polled : (mid : Signal) (stops b : Bool) → b ≡ true → (if b then polled mid stops else mid) ≡ polled mid stops
once_polled mid stops true e = refl
once_polled mid stops false e = absurd (cc)

polls_on : (mid : Signal) (stops b : Bool) → (if b then polled mid stops else mid).polls ≡ (if b then one_more mid.polls else mid.polls)
polls_on mid stops true = refl
polls_on mid stops false = refl

-- What a poll that isn't made changes of a stop.
never_polled : (mid : Signal) (stops b : Bool) → (b ≡ true → ⊥) → (if b then polled mid stops else mid) ≡ mid
never_polled mid stops true not = absurd (not refl)
never_polled mid stops false not = refl

-- How often a stop was polled behind one exchange more.
pub polls_push : (log : List Exchange) (x : Exchange) (n : ℕ) → polls_after (log ++ x ∷ []) n ≡ (if is_poll x.0 then one_more (polls_after log n) else polls_after log n)
polls_push [] x n = refl
polls_push (y ∷ log) x n = polls_push log x (if is_poll y.0 then one_more n else n)

quiet_on : (first : LonePortView) (before mid after : Signal) (stops : Bool) (port : LonePortView) (worker : WorkerView) (x : Exchange) (next : LonePortView) (later : WorkerView) (schedule : List Event) (log : List Exchange)
    → IsRequest before mid after stops port worker x next later → IsWindingUp first log port worker → is_poll x.0 ≡ is_poll (asks worker.state)
    → IsQuiet before mid schedule log → IsQuiet before after (schedule ++ new_events stops) (log ++ x ∷ [])
quiet_on first before mid after true port worker x next later schedule log r w asked (inl q) =
    let said = says_yes (opened port true) (path_of worker.task worker.state.frames) x.0 x.1 next r.steps.turns (asked ∙ r.at_polls refl) refl in
    let now : after ≡ polled mid true = r.signal ∙ once_polled mid true (is_poll (asks worker.state)) (r.at_polls refl) in
    inr (
      said_now says_stop log x said,
      ap (λ (z : Signal). z.raised) now ∙ ap one_more q.2,
      ap (λ (z : Signal). z.last) now ∙ sym (ap (λ (z : Signal). z.polls) now),
    )
quiet_on first before mid after true port worker x next later schedule log r w asked (inr q) =
    absurd (not_polling worker.state.stage worker.state.frames Stopped (w.stopped q.0) (r.at_polls refl))
quiet_on first before mid after false port worker x next later schedule log r w asked (inl q) =
    let no = says_no (opened port false) (path_of worker.task worker.state.frames) x.0 x.1 next r.steps.turns refl in
    inl (
      All-push IsOwnStep schedule (Step 1) q.0 refl,
      said_before log x q.1 no,
      ap (λ (z : Signal). z.raised) r.signal ∙ (same_field (λ (z : Signal). z.raised) mid false (is_poll (asks worker.state)) refl ∙ q.2),
    )
quiet_on first before mid after false port worker x next later schedule log r w asked (inr q) =
    let now : after ≡ mid =
    r.signal ∙ never_polled mid false (is_poll (asks worker.state)) (not_polling worker.state.stage worker.state.frames Stopped (w.stopped q.0)) in
    inr (
      said_on says_stop log x q.0,
      ap (λ (z : Signal). z.raised) now ∙ q.1,
      ap (λ (z : Signal). z.last) now ∙ (q.2 ∙ sym (ap (λ (z : Signal). z.polls) now)),
    )

abbrev tagged : Exchange → ℕ × Exchange
tagged x = (1, x)

-- A search under way goes on by one request.
pub on_way : (first : LonePortView) (problem : Board) (s : SettingsView) (before mid after : Signal) (stops : Bool) (port : LonePortView) (worker : WorkerView) (x : Exchange) (next : LonePortView) (later : WorkerView)
    → IsUnderWay first problem s before mid port worker → IsRequest before mid after stops port worker x next later → IsUnderWay first problem s before after next later
on_way first problem s before mid after stops port worker x next later way r =
    let asked : is_poll x.0 ≡ is_poll (asks worker.state) = ap is_poll (goes_asks worker.task worker.state later.state x r.steps.goes) in
    let polls : stops ≡ true → is_poll x.0 ≡ true = λ e. asked ∙ r.at_polls e in
    let b = is_poll (asks worker.state) in
    let limits = limits_stay x port next stops (path_of worker.task worker.state.frames) r.steps.turns in
    record {
      schedule = way.schedule ++ new_events stops;
      log = way.log ++ x ∷ [];
      own = All-append IsOwn way.schedule (new_events stops) way.own (own_events stops);
      plays = subst (λ (z : List (ℕ × Exchange)). Plays (world_over first problem) (way.schedule ++ new_events stops) z (world_of next later false))
          (sym (map_push tagged way.log x))
          (plays_then way.schedule (new_events stops) (world_over first problem) (world_of port worker false) (world_of next later false) (told_to_one way.log) ((1, x) ∷ []) way.plays
          (plays_one stops port next worker later x r.going polls r.steps));
      leads = subst (λ (t : Task). Leads t (way.log ++ x ∷ []) later.state) way.task
          (r.leads way.log (subst (λ (t : Task). Leads t way.log worker.state) (sym way.task) way.leads));
      task = r.steps.task ∙ way.task;
      idle = r.steps.idle;
      desk = told_on way.log x port next stops (path_of worker.task worker.state.frames) way.desk r.steps.turns;
      expansions = limits.0 ∙ way.expansions;
      room = limits.1 ∙ way.room;
      winding = winding_on first way.log x port next stops worker later way.winding r.steps.goes r.steps.turns;
      quiet = quiet_on first before mid after stops port worker x next later way.schedule way.log r way.winding asked way.quiet;
      polls = ap (λ (z : Signal). z.polls) r.signal ∙ (polls_on mid stops b
          ∙ (ap (λ (n : ℕ). if b then one_more n else n) way.polls
          ∙ (ap (λ (z : Bool). if z then one_more (polls_after way.log before.polls) else polls_after way.log before.polls) (sym asked)
          ∙ sym (polls_push way.log x before.polls))));
      armed = ap (λ (z : Signal). z.armed) r.signal ∙ (same_field (λ (z : Signal). z.armed) mid stops b refl ∙ way.armed);
      arms = ap (λ (z : Signal). z.arms) r.signal ∙ (same_field (λ (z : Signal). z.arms) mid stops b refl ∙ way.arms);
      early = ap (λ (z : Signal). z.early) r.signal ∙ (same_field (λ (z : Signal). z.early) mid stops b refl ∙ way.early);
    }
