-- A world stays as it is kept whatever happens in it.
use Rattle.std.proofs.Common.{◌≡◌, ◌≤◌, ◌<◌, inl, inr, ℕ, ◌+◌, List, [], ◌∷◌, ◌++◌, length, arith, refl, sym, ap, ◌∙◌, subst, Bool, false, append-nil}
use Rattle.std.specs.Prelude.{Option, Some, None, All, slice_get, slice_index_or}
use Rattle.std.proofs.lemmas.List.Elements.{All-weaker}
use Rattle.board_core.specs.Board.{Board}
use Rattle.board_core.specs.declared.keys.Key.{Key}
use Rattle.table_shard.specs.Row.{HoldsAt, IsRow}
use Rattle.table_shard.specs.Shard.{row_of}
use Rattle.table_shard.specs.Spot.{word_of}
use Rattle.visit_log.specs.declared.words.Request.{Request}
use Rattle.visit_log.specs.declared.words.Request.TheVariants.{Poll, Draw as Draws, Claim as Claims, Look, Enter, Leave, Post, End}
use Rattle.visit_log.specs.declared.words.Reply.{Reply}
use Rattle.visit_log.specs.Visit.{Exchange}
use Rattle.visit_log.specs.Frame.{Task, task_for}
use Rattle.visit_log.specs.Machine.{State, asks, path_of}
use Rattle.visit_log.specs.Run.{Happening, Told, Dark, Starved, Happens as Befalls, Runs, event, WorkerView, Leads, now_at}
use Rattle.visit_log.specs.Sound.{IsSound, IsSoundRequest}
use Rattle.visit_log.specs.Counts.{Words, own_slots, own_size, enters, leaves, enters_some, leaves_some}
use Rattle.visit_log.specs.Laws.{WorkersAreSound, AsksSound, SlotsMove, SizesMove, LeavesOwn, StarvingMovesNothing, VisitsMove}
use Rattle.worker_core.specs.Port.{KeepsOthers, Goes, visits_by, rooms_by}
use Rattle.worker_core.proofs.Offered.{goes_asks, events_snoc}
use Rattle.lone_port.specs.Lone.{LonePortView, book_of, opened}
use Rattle.lone_port.specs.Keeps.{IsKeptPort, MayAsk, IsCountedBy, TurnsAreCounted}
use Rattle.lone_port.specs.World.{World, Steps, StepsAt, IsAtWork, Happens, Plays}
use Rattle.lone_port.specs.declared.event.Event.{Event}
use Rattle.lone_port.specs.declared.event.Event.TheVariants.{Step, Raise, Starve}
use Rattle.world_play.specs.Fair.{IsFair, all_entered}
use Rattle.world_play.specs.Promises.{IsKeptWorld, EventsKeepWorlds, PlaysKeepEntered}
use Rattle.world_play.proofs.Desks.{keeps}
use Rattle.world_play.proofs.Suited.{one_within}
use Rattle.world_play.proofs.Stepped.{fair_on, member_on}
use Rattle.world_play.proofs.Holding.{below_slot, entered_on}
use Rattle.world_play.proofs.Happened.{nothing_entered, nothing_left, length_if, raise_fair, starved, LeadsStarved, starve_fair}
use Rattle.world_play.proofs.Promised.{holds}
use Rattle.world_play.proofs.Entered.{opened_lone, steps_keep}

-- The laws on which this stands.
pub record Laws : Type 0 where
  pub sound : WorkersAreSound
  pub asks_sound : AsksSound
  pub slots : SlotsMove
  pub sizes : SizesMove
  pub own : LeavesOwn
  pub starving : StarvingMovesNothing
  pub visits : VisitsMove
  pub counted : TurnsAreCounted

-- 1. THE LOG OF A WORKER.

runs_push : (task : Task) (hs : List Happening) (h : Happening) (s u t : State) → Runs task s hs u → Befalls task u h t → Runs task s (hs ++ h ∷ []) t
runs_push task [] h s u t runs k = (t, subst (λ (z : State). Befalls task z h t) (sym runs) k, refl)
runs_push task (g ∷ hs) h s u t (v, first, rest) k = (v, first, runs_push task hs h v u t rest k)

-- One thing more happens to it.
leads_push : (task : Task) (h : Happening) (s t : State) → Befalls task s h t → (log : List Exchange) → Leads task log s → Leads task (log ++ event h) t
leads_push task h s t befalls log leads = record {
  happenings = leads.happenings ++ h ∷ [];
  runs = runs_push task leads.happenings h _ s t leads.runs befalls;
  logged = events_snoc leads.happenings h ∙ ap (λ (z : List Exchange). z ++ event h) leads.logged;
}

-- Its request is answered, or refused memory.
leads_on : (task : Task) (s t : State) (x : Exchange) → Goes task s x t → (log : List Exchange) → Leads task log s → Leads task (log ++ x ∷ []) t
leads_on task s t (q, Some answer) goes log leads = leads_push task (Told q answer) s t goes log leads
leads_on task s t (q, None) goes log leads = leads_push task (Dark q) s t goes log leads

-- It is starved.
leads_starving : (worker : WorkerView) → worker.waiting ≡ false → LeadsStarved worker (starved worker)
leads_starving worker idle log s leads now =
    let here : worker.state ≡ s = subst (λ (b : Bool). worker.state ≡ now_at b s) idle now in
    subst (λ (z : List Exchange). Leads worker.task z (starved worker).state) (append-nil log)
    (leads_push worker.task Starved worker.state (starved worker).state refl log (subst (λ (z : State). Leads worker.task log z) (sym here) leads))

-- 2. WHAT A STEP MOVES.

-- What a worker has changes by what its event enters, leaves and gives.
record IsMoved (s t : State) (x : Exchange) : Type 0 where
  pub slots : (words : Words) (word : ℕ) → own_slots words t.frames word + leaves words x word ≡ own_slots words s.frames word + enters words x word
  pub size : own_size t.frames + leaves_some x ≡ own_size s.frames + enters_some x
  pub visits : t.visits ≡ s.visits + visits_by x
  pub claims : t.claims ≡ s.claims + rooms_by x
  pub own : (words : Words) (word : ℕ) → leaves words x word ≤ own_slots words s.frames word

-- A look that is refused memory enters and leaves nothing.
record IsNothing (x : Exchange) : Type 0 where
  pub none_entered : enters_some x ≡ 0
  pub none_left : leaves_some x ≡ 0

dark_nothing : (q : Request) → IsNothing (q, None)
dark_nothing (Enter key numbers) = record { none_entered = refl; none_left = refl }
dark_nothing (Leave kept key update) = record { none_entered = refl; none_left = refl }
dark_nothing q = record { none_entered = refl; none_left = refl }

moved : Laws → (task : Task) (s t : State) (answer : Option Reply) → IsSound task s → Goes task s (asks s, answer) t → IsMoved s t (asks s, answer)
moved laws task s t (Some answer) sound goes = record {
  slots = λ words word. laws.slots words task s t answer word sound goes.1 goes.2;
  size = laws.sizes task s t answer sound goes.1 goes.2;
  visits = (laws.visits task s t answer goes.1 goes.2).0;
  claims = (laws.visits task s t answer goes.1 goes.2).1;
  own = λ words word. laws.own words s answer word;
}
moved laws task s t None sound goes =
    let none = dark_nothing (asks s) in
    let alone = laws.starving s in
    subst (λ (z : State). IsMoved s z (asks s, None)) (sym goes.2)
    (record {
      slots = λ words word. (let e = nothing_entered words (asks s) word in let l = nothing_left words (asks s) word in let a = alone.slots words word in omega (arith, e, l, a));
      size = (let e = none.none_entered in let l = none.none_left in let a = alone.size in omega (arith, e, l, a));
      visits = (let a = alone.visits in omega (arith, a));
      claims = (let a = alone.claims in omega (arith, a));
      own = λ words word. (let l = nothing_left words (asks s) word in omega (arith, l));
    })

-- What is asked is sound whatever the worker's number.
any_number : (b : Board) (n : ℕ) (q : Request) → IsSoundRequest (task_for b n) q → IsSoundRequest (task_for b 1) q
any_number b n Poll h = tt
any_number b n Draws h = tt
any_number b n Claims h = tt
any_number b n (Look key) h = tt
any_number b n (Enter key numbers) h = h
any_number b n (Leave kept key update) h = h
any_number b n (Post note) h = record { valid = h.valid; closed = h.closed; about = h.about; same_attacker = h.same_attacker }
any_number b n (End end) h = tt

-- 3. A STEP.

opened_kept : (port : LonePortView) (stops : Bool) → IsKeptPort port → IsKeptPort (opened port stops)
opened_kept port stops is = record { lone = opened_lone port stops is.lone; few = is.few }

-- All that a step of a kept world moves, in the worker and in the table and the desk.
record IsStepped (world : World) (worker later : WorkerView) (x : Exchange) (after : LonePortView) : Type 0 where
  pub own : IsMoved worker.state later.state x
  pub all : IsCountedBy x world.port after

stepped : Laws → (world : World) (place : ℕ) (worker later : WorkerView) (stops : Bool) (answer : Option Reply) (after : LonePortView) → IsKeptWorld world
    → slice_get world.workers place ≡ Some worker → Steps stops world.port worker (asks worker.state, answer) after later
    → IsStepped world worker later (asks worker.state, answer) after
stepped laws world place worker later stops answer after is there steps =
    let m = is.fair.members place worker there in
    let x : Exchange = (asks worker.state, answer) in
    let sound = laws.sound worker.task m.leads.happenings worker.state m.problem m.leads.runs in
    let own = moved laws worker.task worker.state later.state answer sound steps.goes in
    let asked = laws.asks_sound worker.task worker.state m.problem sound in
    let may : MayAsk (opened world.port stops) x = record {
      sound = any_number world.port.desk.position (place + 1) (asks worker.state) (subst (λ (t : Task). IsSoundRequest t (asks worker.state)) m.task asked);
      held = λ word. (
          let words : Words = word_of (length world.port.pins) in
          let one = own.own words word in
          let all = one_within (λ (w : WorkerView). own_slots words w.state.frames word) world.workers place worker there in
          let held = is.fair.held word in
          omega (arith, one, all, held));
    } in
    let c = laws.counted (opened world.port stops) (path_of worker.task worker.state.frames) x after (opened_kept world.port stops is.port) may steps.turns in
    record {
      own = own;
      all = record { kept = c.kept; as_many = c.as_many; held = c.held; size = c.size; visits = c.visits; rooms = c.rooms };
    }

keeps_others : (world : World) (worker later : WorkerView) (x : Exchange) (after : LonePortView) → IsStepped world worker later x after
    → KeepsOthers worker later (book_of (opened world.port false)) (book_of after)
keeps_others world worker later x after s = record {
  words = ap word_of s.all.as_many;
  held = λ word. (let own = s.own.slots (word_of (length world.port.pins)) word in let all = s.all.held word in omega (arith, own, all));
  size = (let own = s.own.size in let all = s.all.size in omega (arith, own, all));
  visits = (let own = s.own.visits in let all = s.all.visits in omega (arith, own, all));
  rooms = (let own = s.own.claims in let all = s.all.rooms in omega (arith, own, all));
}

step_keeps : Laws → (world after : World) (number place : ℕ) (worker : WorkerView) (x : Exchange) → IsKeptWorld world → IsAtWork world number place worker
    → StepsAt world place worker x after → IsKeptWorld after
step_keeps laws world after number place worker x is at h =
    let stops = slice_index_or world.raised place false in
    let e = goes_asks worker.task worker.state h.later.state x h.steps.goes in
    let steps : Steps stops world.port worker (asks worker.state, x.1) after.port h.later =
    subst (λ (q : Request). Steps stops world.port worker (q, x.1) after.port h.later) e h.steps in
    let moves = stepped laws world place worker h.later stops x.1 after.port is at.there steps in
    record {
      fair = fair_on world after place worker h.later is.fair at.there h.workers (ap length h.raised ∙ length_if _ world.raised place)
          (keeps_others world worker h.later (asks worker.state, x.1) after.port moves)
          (keeps (opened world.port stops) _ x.0 x.1 after.port h.steps.turns)
          (entered_on world place worker h.later stops _ x after.port is.fair is.port.lone at.there h.steps.turns
          (λ words word. subst (λ (q : Request). own_slots words h.later.state.frames word + leaves words (q, x.1) word ≡ own_slots words worker.state.frames word + enters words (q, x.1) word)
          (sym e) (moves.own.slots words word)))
          (member_on world.port after.port stops place worker h.later x (is.fair.members place worker at.there) h.steps
          (leads_on worker.task worker.state h.later.state x h.steps.goes));
      port = moves.all.kept;
    }

-- 4. ANY EVENT, AND ANY SCHEDULE.

same_world : (world after : World) → IsKeptWorld world → after ≡ world → IsKeptWorld after
same_world world after is e = subst IsKeptWorld (sym e) is

pub event_keeps : Laws → EventsKeepWorlds
event_keeps laws world (Step number) log after is (inl (place, worker, x, at, steps, e)) = step_keeps laws world after number place worker x is at steps
event_keeps laws world (Step number) log after is (inr idle) = same_world world after is idle.2
event_keeps laws world (Raise number) log after is (inl (place, worker, at, raises, e)) = record {
  fair = raise_fair world after place is.fair raises;
  port = subst (λ (w : World). IsKeptPort w.port) (sym raises) is.port;
}
event_keeps laws world (Raise number) log after is (inr idle) = same_world world after is idle.2
event_keeps laws world (Starve number) log after is (inl (place, worker, at, starves, e)) = record {
  fair = starve_fair world after place worker (starved worker) is.fair at.there refl (leads_starving worker (is.fair.members place worker at.there).idle)
      (laws.starving worker.state) starves;
  port = subst (λ (w : World). IsKeptPort w.port) (sym starves) is.port;
}
event_keeps laws world (Starve number) log after is (inr idle) = same_world world after is idle.2

plays_keep : Laws → (world : World) (es : List Event) (log : List (ℕ × Exchange)) (after : World) → IsKeptWorld world → Plays world es log after → IsKeptWorld after
plays_keep laws world [] log after is h = subst IsKeptWorld h.1 is
plays_keep laws world (e ∷ es) log after is h = plays_keep laws h.2 es h.1 after (event_keeps laws world e h.0 h.2 is h.3) h.4

-- 5. WHAT IS ENTERED IS HELD.

-- Where the table's rows stay, what is entered is held still.
still : (world after : World) (key : Key) (slot : ℕ) → IsKeptWorld world → after.port ≡ world.port → 0 < all_entered world.workers key slot
    → HoldsAt (row_of after.port.rows key) slot key
still world after key slot is e some = subst (λ (p : LonePortView). HoldsAt (row_of p.rows key) slot key) (sym e) (holds world is.fair key slot some)

event_holds : (world : World) (event : Event) (log : List (ℕ × Exchange)) (after : World) → IsKeptWorld world → Happens world event log after
    → (key : Key) (slot : ℕ) → 0 < all_entered world.workers key slot → HoldsAt (row_of after.port.rows key) slot key
event_holds world (Step number) log after is (inl (place, worker, x, at, h, e)) key slot some =
    let below = below_slot world is.fair key slot some in
    steps_keep (slice_index_or world.raised place false) world.port worker x after.port h.later is.port.lone h.steps key slot below.0 below.1
event_holds world (Step number) log after is (inr idle) key slot some = still world after key slot is (ap (λ (w : World). w.port) idle.2) some
event_holds world (Raise number) log after is (inl (place, worker, at, raises, e)) key slot some =
    still world after key slot is (ap (λ (w : World). w.port) raises) some
event_holds world (Raise number) log after is (inr idle) key slot some = still world after key slot is (ap (λ (w : World). w.port) idle.2) some
event_holds world (Starve number) log after is (inl (place, worker, at, starves, e)) key slot some =
    still world after key slot is (ap (λ (w : World). w.port) starves) some
event_holds world (Starve number) log after is (inr idle) key slot some = still world after key slot is (ap (λ (w : World). w.port) idle.2) some

pub plays_hold : Laws → PlaysKeepEntered
plays_hold laws world es log between e more after is plays happens key slot some =
    event_holds between e more after (plays_keep laws world es log between is plays) happens key slot some

-- 6. A WORLD THAT IS KEPT.

pub kept_world : (world : World) → IsFair world → IsKeptPort world.port → IsKeptWorld world
kept_world world fair port = record { fair = fair; port = port }

-- No row of a table has more than eight entries.
pub rows_few : (port : LonePortView) → All IsRow port.rows → All (λ row. length row ≤ 8) port.rows
rows_few port rows = All-weaker IsRow (λ row. length row ≤ 8) (λ row is. is.few) port.rows rows
