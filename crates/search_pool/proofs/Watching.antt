-- A worker over a table and a desk that are watched is the world of one worker.
use Rattle.std.proofs.Common.{◌≡◌, List, [], ◌∷◌, ◌++◌, refl, sym, ap, ◌∙◌, subst, arith, Bool, true, false}
use Rattle.std.specs.Prelude.{Option, Some, None, if◌then◌else◌}
use Rattle.board_core.specs.Board.{Board}
use Rattle.board_core.specs.declared.keys.Key.{Key}
use Rattle.search_limits.specs.Sizes.{SettingsView}
use Rattle.search_gate.specs.Stop.{Signal, polled}
use Rattle.visit_log.specs.declared.parts.Stage.{Stage}
use Rattle.visit_log.specs.declared.parts.Stage.TheVariants.{Polling, Drawing, Entering, Looking, Claiming, Leaving, Posting, Winding}
use Rattle.visit_log.specs.declared.words.Request.{Request}
use Rattle.visit_log.specs.declared.words.Request.TheVariants.{Poll, Draw, Claim, Look, Enter, Leave, Post, End}
use Rattle.visit_log.specs.declared.words.Reply.{Reply}
use Rattle.visit_log.specs.declared.words.Reply.TheVariants.{Poll as Polled, Draw as Drew, Claim as Claimed, Look as Looked, Enter as Entered, Leave as LeftIt, Post as PostedIt}
use Rattle.visit_log.specs.Visit.{Exchange}
use Rattle.visit_log.specs.Frame.{Task, FrameView}
use Rattle.visit_log.specs.Machine.{State, asks, end_of, end_at, path_of, FitsAt}
use Rattle.visit_log.specs.Run.{WorkerView, Leads, Told, Dark, IsLooking}
use Rattle.worker_core.specs.Machine.{is_poll}
use Rattle.worker_core.specs.Port.{Goes, Went, KeepsOthers}
use Rattle.worker_core.proofs.Offered.{goes_asks, leads_on}
use Rattle.lone_port.specs.Lone.{LonePortView, Turns, book_of}
use Rattle.search_pool.specs.declared.watched.Watched.{Watched}
use Rattle.search_pool.specs.Inside.{Watches, IsWatched, HadAll}
use Rattle.search_pool.proofs.Way.{on_way}

-- 1. ONE REQUEST.

fits_going : (task : Task) (s : State) (st : Stage) (fs : List FrameView) (a : Reply) → FitsAt task (record s { frames = fs }) st a → end_at st fs ≡ None
fits_going task s (Polling e) fs a h = refl
fits_going task s (Drawing e) fs a h = refl
fits_going task s Entering fs a h = refl
fits_going task s (Looking place) fs a h = refl
fits_going task s Claiming fs a h = refl
fits_going task s (Leaving left) fs a h = refl
fits_going task s (Posting posted) fs a h = refl
fits_going task s (Winding end) (f ∷ fs) a h = refl
fits_going task s (Winding end) [] (Polled stop) h = absurd h
fits_going task s (Winding end) [] (Drew draw) h = absurd h
fits_going task s (Winding end) [] (Claimed claim) h = absurd h
fits_going task s (Winding end) [] (Looked seen) h = absurd h
fits_going task s (Winding end) [] (Entered kept) h = absurd h
fits_going task s (Winding end) [] LeftIt h = absurd h
fits_going task s (Winding end) [] PostedIt h = absurd h

looking_going : (st : Stage) (fs : List FrameView) → IsLooking st → end_at st fs ≡ None
looking_going (Looking place) fs h = refl
looking_going (Polling e) fs h = absurd h
looking_going (Drawing e) fs h = absurd h
looking_going Entering fs h = absurd h
looking_going Claiming fs h = absurd h
looking_going (Leaving left) fs h = absurd h
looking_going (Posting posted) fs h = absurd h
looking_going (Winding end) fs h = absurd h

-- A worker that makes a request hasn't ended.
goes_on : (task : Task) (s t : State) (x : Exchange) → Goes task s x t → end_of s ≡ None
goes_on task s t (q, Some a) h = fits_going task s s.stage s.frames a h.1
goes_on task s t (q, None) h = looking_going s.stage s.frames h.1

-- Where one request leads, its log leads.
pub leads_by : (task : Task) (log : List Exchange) (s t : State) (x : Exchange) → Goes task s x t → Leads task log s → Leads task (log ++ x ∷ []) t
leads_by task log s t (q, Some a) h leads = leads_on task log s t (Told q a) leads h
leads_by task log s t (q, None) h leads = leads_on task log s t (Dark q) leads h

-- What was watched is a turn of a table and a desk that were opened for it: told to stop exactly
-- where the stop said so.
pub record Opens (signal : Signal) (port : LonePortView) (path : List Key) (request : Request) (answer : Option Reply) (next : LonePortView) (later : Signal) : Type 0 where
  pub stops : Bool
  pub its_going : Bool
  pub turns : Turns (record port { going = true; stops = stops }) path request answer (record next { going = its_going; stops = stops })
  pub at_polls : stops ≡ true → is_poll request ≡ true
  pub signal_is : later ≡ (if is_poll request then polled signal stops else signal)

abbrev at : LonePortView → Bool → Bool → LonePortView
at port its_going its_stops = record port { going = its_going; stops = its_stops }

never_stops : (request : Request) → false ≡ true → is_poll request ≡ true
never_stops request e = absurd (cc)

opens : (signal later : Signal) (port next : LonePortView) (path : List Key) (request : Request) (answer : Option Reply) → Watches port signal path request answer next later
    → Opens signal port path request answer next later
opens signal later port next path Poll (Some (Polled stop)) h = record {
  stops = stop;
  its_going = true;
  turns = (refl, ap (λ (p : LonePortView). at p true stop) h.0);
  at_polls = λ e. refl;
  signal_is = h.1;
}
opens signal later port next path Draw (Some (Drew draw)) h = record {
  stops = false;
  its_going = Rattle.lone_port.specs.Lone.goes_on (Drew draw) true;
  turns = (h.0.0, ap (λ (p : LonePortView). at p (Rattle.lone_port.specs.Lone.goes_on (Drew draw) true) false) h.0.1);
  at_polls = never_stops Draw;
  signal_is = h.1;
}
opens signal later port next path Claim (Some (Claimed claim)) h = record {
  stops = false;
  its_going = Rattle.lone_port.specs.Lone.goes_on (Claimed claim) true;
  turns = (h.0.0, ap (λ (p : LonePortView). at p (Rattle.lone_port.specs.Lone.goes_on (Claimed claim) true) false) h.0.1);
  at_polls = never_stops Claim;
  signal_is = h.1;
}
opens signal later port next path (Look key) (Some (Looked seen)) h = record {
  stops = false;
  its_going = true;
  turns = (h.0.0, ap (λ (p : LonePortView). at p true false) h.0.1);
  at_polls = never_stops (Look key);
  signal_is = h.1;
}
opens signal later port next path (Look key) None h = record {
  stops = false;
  its_going = true;
  turns = ap (λ (p : LonePortView). at p true false) h.0;
  at_polls = never_stops (Look key);
  signal_is = h.1;
}
opens signal later port next path (Enter key numbers) (Some (Entered kept)) h = record {
  stops = false;
  its_going = true;
  turns = (h.0.0, ap (λ (p : LonePortView). at p true false) h.0.1);
  at_polls = never_stops (Enter key numbers);
  signal_is = h.1;
}
opens signal later port next path (Leave kept key update) (Some LeftIt) h = record {
  stops = false;
  its_going = true;
  turns = (h.0.0, ap (λ (p : LonePortView). at p true false) h.0.1);
  at_polls = never_stops (Leave kept key update);
  signal_is = h.1;
}
opens signal later port next path (Post note) (Some PostedIt) h = record {
  stops = false;
  its_going = true;
  turns = ap (λ (p : LonePortView). at p true false) h.0;
  at_polls = never_stops (Post note);
  signal_is = h.1;
}
opens signal later port next path Poll None h = absurd h.0
opens signal later port next path Poll (Some (Drew draw)) h = absurd h.0
opens signal later port next path Poll (Some (Claimed claim)) h = absurd h.0
opens signal later port next path Poll (Some (Looked seen)) h = absurd h.0
opens signal later port next path Poll (Some (Entered other)) h = absurd h.0
opens signal later port next path Poll (Some LeftIt) h = absurd h.0
opens signal later port next path Poll (Some PostedIt) h = absurd h.0
opens signal later port next path Draw None h = absurd h.0
opens signal later port next path Draw (Some (Polled stop)) h = absurd h.0
opens signal later port next path Draw (Some (Claimed claim)) h = absurd h.0
opens signal later port next path Draw (Some (Looked seen)) h = absurd h.0
opens signal later port next path Draw (Some (Entered other)) h = absurd h.0
opens signal later port next path Draw (Some LeftIt) h = absurd h.0
opens signal later port next path Draw (Some PostedIt) h = absurd h.0
opens signal later port next path Claim None h = absurd h.0
opens signal later port next path Claim (Some (Polled stop)) h = absurd h.0
opens signal later port next path Claim (Some (Drew draw)) h = absurd h.0
opens signal later port next path Claim (Some (Looked seen)) h = absurd h.0
opens signal later port next path Claim (Some (Entered other)) h = absurd h.0
opens signal later port next path Claim (Some LeftIt) h = absurd h.0
opens signal later port next path Claim (Some PostedIt) h = absurd h.0
opens signal later port next path (Look key) (Some (Polled stop)) h = absurd h.0
opens signal later port next path (Look key) (Some (Drew draw)) h = absurd h.0
opens signal later port next path (Look key) (Some (Claimed claim)) h = absurd h.0
opens signal later port next path (Look key) (Some (Entered other)) h = absurd h.0
opens signal later port next path (Look key) (Some LeftIt) h = absurd h.0
opens signal later port next path (Look key) (Some PostedIt) h = absurd h.0
opens signal later port next path (Enter key numbers) None h = absurd h.0
opens signal later port next path (Enter key numbers) (Some (Polled stop)) h = absurd h.0
opens signal later port next path (Enter key numbers) (Some (Drew draw)) h = absurd h.0
opens signal later port next path (Enter key numbers) (Some (Claimed claim)) h = absurd h.0
opens signal later port next path (Enter key numbers) (Some (Looked seen)) h = absurd h.0
opens signal later port next path (Enter key numbers) (Some LeftIt) h = absurd h.0
opens signal later port next path (Enter key numbers) (Some PostedIt) h = absurd h.0
opens signal later port next path (Leave kept key update) None h = absurd h.0
opens signal later port next path (Leave kept key update) (Some (Polled stop)) h = absurd h.0
opens signal later port next path (Leave kept key update) (Some (Drew draw)) h = absurd h.0
opens signal later port next path (Leave kept key update) (Some (Claimed claim)) h = absurd h.0
opens signal later port next path (Leave kept key update) (Some (Looked seen)) h = absurd h.0
opens signal later port next path (Leave kept key update) (Some (Entered other)) h = absurd h.0
opens signal later port next path (Leave kept key update) (Some PostedIt) h = absurd h.0
opens signal later port next path (Post note) None h = absurd h.0
opens signal later port next path (Post note) (Some (Polled stop)) h = absurd h.0
opens signal later port next path (Post note) (Some (Drew draw)) h = absurd h.0
opens signal later port next path (Post note) (Some (Claimed claim)) h = absurd h.0
opens signal later port next path (Post note) (Some (Looked seen)) h = absurd h.0
opens signal later port next path (Post note) (Some (Entered other)) h = absurd h.0
opens signal later port next path (Post note) (Some LeftIt) h = absurd h.0
opens signal later port next path (End end) answer h = absurd h.0

abbrev worker_in : Task → State → WorkerView
worker_in task s = record { task = task; state = s; waiting = false }

-- A search whose table and desk are watched goes on by one request.
watched_on : (first : LonePortView) (problem : Board) (s : SettingsView) (before mid after : Signal) (port next : LonePortView) (task : Task) (from to : State) (x : Exchange)
    → IsWatched first problem s before mid port (worker_in task from) → Watches port mid (path_of task from.frames) x.0 x.1 next after → Goes task from x to
    → IsWatched first problem s before after next (worker_in task to)
watched_on first problem s before mid after port next task from to x way watches goes =
    let o = opens mid after port next (path_of task from.frames) x.0 x.1 watches in
    let asked : is_poll x.0 ≡ is_poll (asks from) = ap is_poll (goes_asks task from to x goes) in (
      o.its_going,
      o.stops,
      on_way first problem s before mid after o.stops (at port way.0 way.1) (worker_in task from) x (at next o.its_going o.stops) (worker_in task to) way.2 (record {
        going = goes_on task from to x goes;
        at_polls = λ e. sym asked ∙ o.at_polls e;
        signal = o.signal_is ∙ ap (λ (b : Bool). if b then polled mid o.stops else mid) asked;
        steps = record { turns = o.turns; goes = goes; task = refl; idle = refl };
        leads = λ log. leads_by task log from to x goes;
      }),
    )

-- A worker that waits for nothing is its task and its state.
pub as_it_is : (worker : WorkerView) (task : Task) → worker.waiting ≡ false → worker.task ≡ task → worker ≡ worker_in task worker.state
as_it_is worker task idle is =
    subst (λ (w : Bool). record { task = worker.task; state = worker.state; waiting = w } ≡ worker_in task worker.state) (sym idle)
    (ap (λ (t : Task). worker_in t worker.state) is)

-- 2. ALL REQUESTS.

-- Whatever a port is beside a table, a desk and a stop that it watches: by its turns the search
-- goes on.
pub watched_by : {P : Type 0} (turn : P → List Key → Request → Option Reply → P → Type 0) (port_of : P → LonePortView) (signal_of : P → Signal)
    → ((p : P) (path : List Key) (q : Request) (a : Option Reply) (r : P) → turn p path q a r → Watches (port_of p) (signal_of p) path q a (port_of r) (signal_of r))
    → (first : LonePortView) (problem : Board) (s : SettingsView) (before : Signal) (task : Task) (p r : P) (from to : State) (events : List Exchange)
    → IsWatched first problem s before (signal_of p) (port_of p) (worker_in task from) → Went turn task p from events r to
    → IsWatched first problem s before (signal_of r) (port_of r) (worker_in task to)
watched_by {P} turn port_of signal_of watches first problem s before task p r from to [] way went =
    subst (λ (t : State). IsWatched first problem s before (signal_of r) (port_of r) (worker_in task t)) went.1
    (subst (λ (z : P). IsWatched first problem s before (signal_of z) (port_of z) (worker_in task from)) went.0 way)
watched_by turn port_of signal_of watches first problem s before task p r from to (x ∷ xs) way went =
    watched_by turn port_of signal_of watches first problem s before task went.0 r went.1 to xs
    (watched_on first problem s before (signal_of p) (signal_of went.0) (port_of p) (port_of went.0) task from went.1 x way (watches p (path_of task from.frames) x.0 x.1 went.0 went.2) went.3)
    went.4

-- So from one worker to the other that it has become.
pub watched_from : {P : Type 0} (turn : P → List Key → Request → Option Reply → P → Type 0) (port_of : P → LonePortView) (signal_of : P → Signal)
    → ((p : P) (path : List Key) (q : Request) (a : Option Reply) (r : P) → turn p path q a r → Watches (port_of p) (signal_of p) path q a (port_of r) (signal_of r))
    → (first : LonePortView) (problem : Board) (s : SettingsView) (before : Signal) (p r : P) (worker later : WorkerView) (events : List Exchange)
    → IsWatched first problem s before (signal_of p) (port_of p) worker → worker.waiting ≡ false → later.waiting ≡ false → later.task ≡ worker.task
    → Went turn worker.task p worker.state events r later.state → IsWatched first problem s before (signal_of r) (port_of r) later
watched_from turn port_of signal_of watches first problem s before p r worker later events way idle idle_later task went =
    subst (IsWatched first problem s before (signal_of r) (port_of r)) (sym (as_it_is later worker.task idle_later task))
    (watched_by turn port_of signal_of watches first problem s before worker.task p r worker.state later.state events
    (subst (IsWatched first problem s before (signal_of p) (port_of p)) (as_it_is worker worker.task idle refl) way) went)

-- A turn of a table and a desk that are watched: they stay the same ones, and so does the stop.
abbrev pub Turning : {G T : Type 0} → (T → Signal) → Watched G T → List Key → Request → Option Reply → Watched G T → Type 0
Turning signal w path request answer v =
    (v.port.ghost_name ≡ w.port.ghost_name) × (v.stop.ghost_name ≡ w.stop.ghost_name)
    × Watches w.port.now (signal w.stop.now) path request answer v.port.now (signal v.stop.now)

-- What every turn leaves as it is stays.
pub stays_by : {P : Type 0} {A : Type 0} (turn : P → List Key → Request → Option Reply → P → Type 0) (name : P → A)
    → ((p : P) (path : List Key) (q : Request) (a : Option Reply) (r : P) → turn p path q a r → name r ≡ name p)
    → (task : Task) (p r : P) (from to : State) (events : List Exchange) → Went turn task p from events r to → name r ≡ name p
stays_by {P} {A} turn name same task p r from to [] went = ap name (sym went.0)
stays_by {P} {A} turn name same task p r from to (x ∷ xs) went =
    stays_by turn name same task went.0 r went.1 to xs went.4 ∙ same p (path_of task from.frames) x.0 x.1 went.0 went.2

-- A worker that had nothing of a desk that had given nothing had all that it gave.
pub had_all : (port next : LonePortView) (worker later : WorkerView) → KeepsOthers worker later (book_of port) (book_of next) → HadAll port worker → HadAll next later
had_all port next worker later keeps had =
    (let k = keeps.visits in let u = had.0 in omega (arith, k, u), let k = keeps.rooms in let u = had.1 in omega (arith, k, u))
