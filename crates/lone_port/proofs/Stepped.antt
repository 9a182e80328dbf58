-- One request of a worker over a table and a desk that were opened for it.
use Rattle.std.proofs.Common.{◌≡◌, inl, List, [], ◌∷◌, ◌++◌, length, refl, sym, ap, ◌∙◌, subst, arith, Bool, false}
use Rattle.std.specs.Prelude.{Option, Some, None, IfSome, IfNone, MatchOption}
use Rattle.visit_log.specs.declared.words.WorkEnd.{WorkEnd}
use Rattle.visit_log.specs.Visit.{Exchange}
use Rattle.visit_log.specs.Machine.{State, end_of, path_of}
use Rattle.visit_log.specs.Run.{Leads, WorkerView}
use Rattle.worker_core.specs.Port.{Suits, KeepsOthers, WentBy, Goes}
use Rattle.lone_port.specs.Lone.{LonePortView, Turns, opened, book_of}
use Rattle.lone_port.specs.World.{Steps}

-- What suits the worker suits it once it is opened.
pub opened_suits : (worker : WorkerView) (port ready : LonePortView) (stops : Bool) → ready ≡ opened port stops → Suits worker (book_of port) → Suits worker (book_of ready)
opened_suits worker port ready stops is suits = subst (λ (p : LonePortView). Suits worker (book_of p)) (sym is) (record {
  problem = suits.problem;
  going = inl refl;
  held = suits.held;
  some = suits.some;
  visits = suits.visits;
  size = suits.size;
  most = suits.most;
})

-- What one request comes to: it is answered, and stands in the log.
abbrev pub IsStepped : Bool → LonePortView → WorkerView → LonePortView → WorkerView → Type 0
IsStepped stops port worker after later =
    (exchange : Exchange) × Steps stops port worker exchange after later
    × ((log : List Exchange) → Leads worker.task log worker.state → Leads worker.task (log ++ exchange ∷ []) later.state)

one_step : (stops : Bool) (port after : LonePortView) (worker later : WorkerView) (events : List Exchange) → WentBy Turns (opened port stops) after worker later events
    → length events ≡ 1 → later.waiting ≡ false → IsStepped stops port worker after later
one_step stops port after worker later [] went one idle = absurd (omega arith)
one_step stops port after worker later (e ∷ f ∷ es) went one idle = absurd (omega arith)
one_step stops port after worker later (e ∷ []) went one idle = (
  e,
  record {
    turns = subst (λ (q : LonePortView). Turns (opened port stops) (path_of worker.task worker.state.frames) e.0 e.1 q) went.port.4.0 went.port.2;
    goes = subst (λ (s : State). Goes worker.task worker.state e s) went.port.4.1 went.port.3;
    task = went.task;
    idle = idle;
  },
  went.log,
)

-- A request that was answered.
pub stepped : (result : Option WorkEnd) (stops : Bool) (port ready after : LonePortView) (worker later : WorkerView) (events : List Exchange) → ready ≡ opened port stops
    → WentBy Turns ready after worker later events → MatchOption result (length events ≡ 1) (λ (end : WorkEnd). length events ≡ 0)
    → later.waiting ≡ false → IfNone result (IsStepped stops port worker after later)
stepped None stops port ready after worker later events is went one idle =
    one_step stops port after worker later events (subst (λ (p : LonePortView). WentBy Turns p after worker later events) is went) one idle
stepped (Some end) stops port ready after worker later events is went none idle = tt

same_state : (port after : LonePortView) (worker later : WorkerView) (events : List Exchange) → WentBy Turns port after worker later events → length events ≡ 0
    → worker.state ≡ later.state
same_state port after worker later [] went none = went.port.1
same_state port after worker later (e ∷ es) went none = absurd (omega arith)

-- A worker that hasn't ended has a request.
pub not_ended : (P : WorkEnd → Type 0) (result : Option WorkEnd) (port after : LonePortView) (worker later : WorkerView) (events : List Exchange)
    → WentBy Turns port after worker later events → MatchOption result (length events ≡ 1) (λ (end : WorkEnd). length events ≡ 0)
    → IfSome result (λ (end : WorkEnd). end_of later.state ≡ Some end) → end_of worker.state ≡ None → IfSome result P
not_ended P None port after worker later events went one ended none = tt
not_ended P (Some end) port after worker later events went no_event ended none =
    let e : None ≡ Some end = sym none ∙ (ap end_of (same_state port after worker later events went no_event) ∙ ended) in
    absurd (cc)

-- What is kept beside the worker's own is so however it was opened.
pub others_opened : (worker later : WorkerView) (port ready after : LonePortView) (stops : Bool) → ready ≡ opened port stops
    → KeepsOthers worker later (book_of ready) (book_of after) → KeepsOthers worker later (book_of port) (book_of after)
others_opened worker later port ready after stops is keeps =
    let k = subst (λ (p : LonePortView). KeepsOthers worker later (book_of p) (book_of after)) is keeps in
    record { words = k.words; held = k.held; size = k.size; visits = k.visits; rooms = k.rooms }

-- What holds holds where there is no result, too.
pub where_none : {P : Type 0} (result : Option WorkEnd) → P → IfNone result P
where_none None p = p
where_none (Some end) p = tt
