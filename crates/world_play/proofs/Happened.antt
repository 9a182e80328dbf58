-- What each event comes to in a fair world.
use Rattle.std.proofs.Common.{◌≡◌, inl, inr, ℕ, ◌+◌, cond, List, [], ◌∷◌, ◌++◌, length, set, get_or, arith, refl, sym, ap, ◌∙◌, subst, Bool, true, false, length-set, append-nil, append_assoc}
use Rattle.std.specs.Prelude.{Option, Some, None, slice_get, slice_index_or, IfSome, IfNone, ◌&&◌, if◌then◌else◌}
use Rattle.std.proofs.lemmas.List.Sums.{sum_by-append}
use Rattle.std.proofs.lemmas.Option.{slice_get_within, slice_get_read, same_Some}
use Rattle.table_shard.specs.Spot.{word_of}
use Rattle.visit_log.specs.declared.parts.Stage.{Stage}
use Rattle.visit_log.specs.declared.parts.Stage.TheVariants.{Looking}
use Rattle.visit_log.specs.declared.words.WorkEnd.{WorkEnd}
use Rattle.visit_log.specs.declared.words.Request.{Request}
use Rattle.visit_log.specs.declared.words.Request.TheVariants.{Enter, Leave}
use Rattle.visit_log.specs.Visit.{Exchange}
use Rattle.visit_log.specs.Frame.{Task}
use Rattle.visit_log.specs.Machine.{State, asks, starve, end_of}
use Rattle.visit_log.specs.Run.{WorkerView, Leads, now_at}
use Rattle.visit_log.specs.Sound.{IsTask}
use Rattle.visit_log.specs.Counts.{Words, own_slots, enters, leaves}
use Rattle.visit_log.specs.Laws.{IsLeftAlone, HasCause, WorkersAreSound, SlotsMove, StarvingMovesNothing}
use Rattle.worker_core.specs.Port.{KeepsOthers, Goes}
use Rattle.worker_core.specs.Machine.{is_poll, looks_at, winds_at}
use Rattle.worker_core.proofs.Offered.{goes_asks}
use Rattle.lone_port.specs.Lone.{LonePortView, IsLone, book_of, opened}
use Rattle.lone_port.specs.World.{World, Steps, StepsAt, IsAtWork, IsIdle, Happens, Plays}
use Rattle.lone_port.specs.declared.event.Event.{Event}
use Rattle.lone_port.specs.declared.event.Event.TheVariants.{Step, Raise, Starve}
use Rattle.world_play.specs.Fair.{IsFair, IsToldOf, numbered, only}
use Rattle.world_play.specs.Logs.{AreLost, GoOnBy, is_lent, is_refused}
use Rattle.world_play.specs.Lost.{Loses, looks_of, winds_of, lost_by}
use Rattle.world_play.proofs.Desks.{desk_same, keeps}
use Rattle.world_play.proofs.Stepped.{sum_set, fair_on, member_on}
use Rattle.world_play.proofs.Holding.{entered_on}
use Rattle.world_play.proofs.Gone.{goes_on_by, gone_none, gone_one, gone_quietly, gone_then}

-- What an event comes to, and after how many looks of it the worker wound up.
abbrev pub Comes : World → Event → ℕ → World → Type 0
Comes world event lost after =
    (log : List (ℕ × Exchange)) × Happens world event log after × GoOnBy world.workers log after.workers × AreLost log lost
    × (lost ≡ lost_by world event after)

-- No look, none lost.
none_lost : AreLost [] 0
none_lost = record { least = omega arith; most = omega arith }

-- 1. A STEP.

-- All that is known of one request.
pub record IsRequest (world after : World) (number place : ℕ) (worker later : WorkerView) (x : Exchange) : Type 0 where
  pub fair : IsFair world
  pub at_work : IsAtWork world number place worker
  pub workers : after.workers ≡ set world.workers place later
  pub raised : after.raised ≡ (if is_poll (asks worker.state) then set world.raised place false else world.raised)
  pub steps : Steps (slice_index_or world.raised place false) (opened world.port false) worker x after.port later
  pub leads : (log : List Exchange) → Leads worker.task log worker.state → Leads worker.task (log ++ x ∷ []) later.state
  pub keep : KeepsOthers worker later (book_of (opened world.port false)) (book_of after.port)

-- A look that is refused memory enters and leaves nothing.
pub nothing_entered : (words : Words) (q : Request) (word : ℕ) → enters words (q, None) word ≡ 0
nothing_entered words (Enter key numbers) word = refl
nothing_entered words (Leave kept key update) word = refl
nothing_entered words q word = refl

pub nothing_left : (words : Words) (q : Request) (word : ℕ) → leaves words (q, None) word ≡ 0
nothing_left words (Enter key numbers) word = refl
nothing_left words (Leave kept key update) word = refl
nothing_left words q word = refl

pub length_if : (b : Bool) (xs : List Bool) (i : ℕ) → length (if b then set xs i false else xs) ≡ length xs
length_if true xs i = length-set xs i false
length_if false xs i = refl

-- What a worker that goes on has entered changes by what its request enters and leaves.
pub slots_on : WorkersAreSound → SlotsMove → StarvingMovesNothing → (worker later : WorkerView) (x : Exchange) → IsTask worker.task → (log : List Exchange)
    → Leads worker.task log worker.state → Goes worker.task worker.state x later.state
    → (words : Words) (word : ℕ) → own_slots words later.state.frames word + leaves words x word ≡ own_slots words worker.state.frames word + enters words x word
slots_on sound moves starving worker later (q, Some answer) task log leads goes words word =
    let is = sound worker.task leads.happenings worker.state task leads.runs in
    let asked : q ≡ asks worker.state = goes.0 in
    subst (λ (z : Request). own_slots words later.state.frames word + leaves words (z, Some answer) word ≡ own_slots words worker.state.frames word + enters words (z, Some answer) word)
    (sym asked) (moves words worker.task worker.state later.state answer word is goes.1 goes.2)
slots_on sound moves starving worker later (q, None) task log leads goes words word =
    let alone = (starving worker.state).slots words word in
    let none = ap (λ (z : State). own_slots words z.frames word) goes.2 in
    omega (arith, alone, none, nothing_entered words q word, nothing_left words q word)

pub step_fair : WorkersAreSound → SlotsMove → StarvingMovesNothing → (world after : World) (number place : ℕ) (worker later : WorkerView) (x : Exchange) → IsLone world.port
    → IsRequest world after number place worker later x → IsFair after
step_fair sound moves starving world after number place worker later x lone r =
    let m = r.fair.members place worker r.at_work.there in
    fair_on world after place worker later r.fair r.at_work.there r.workers
    (ap length r.raised ∙ length_if (is_poll (asks worker.state)) world.raised place)
    r.keep
    (keeps (opened (opened world.port false) (slice_index_or world.raised place false)) _ x.0 x.1 after.port r.steps.turns)
    (entered_on world place worker later (slice_index_or world.raised place false) _ x after.port r.fair lone r.at_work.there r.steps.turns
    (slots_on sound moves starving worker later x m.problem m.log m.leads r.steps.goes))
    (member_on (opened world.port false) after.port (slice_index_or world.raised place false) place worker later x (r.fair.members place worker r.at_work.there) r.steps r.leads)

pub step_comes : (world after : World) (number place : ℕ) (worker later : WorkerView) (x : Exchange) (refused : ℕ) → IsRequest world after number place worker later x
    → AreLost ((number, x) ∷ []) refused → refused ≡ lost_by world (Step number) after → Comes world (Step number) refused after
step_comes world after number place worker later x refused r counts exact =
    let m = r.fair.members place worker r.at_work.there in
    let polls : is_poll (asks worker.state) ≡ is_poll x.0 = ap is_poll (sym (goes_asks worker.task worker.state later.state x r.steps.goes)) in
    let at : StepsAt world place worker x after = record {
      later = later;
      steps = record { turns = r.steps.turns; goes = r.steps.goes; task = r.steps.task; idle = r.steps.idle };
      workers = r.workers;
      raised = r.raised ∙ ap (λ (b : Bool). if b then set world.raised place false else world.raised) polls;
    } in (
      (number, x) ∷ [],
      inl (place, worker, x, r.at_work, at, refl),
      subst (λ (ws : List WorkerView). GoOnBy world.workers ((number, x) ∷ []) ws) (sym r.workers)
          (gone_one world.workers place number worker later x r.at_work.there r.at_work.numbered
          (goes_on_by worker later (x ∷ []) m.idle r.steps.idle r.steps.task r.leads)),
      counts,
      exact,
    )

-- 2. A RAISE.

pub raise_fair : (world after : World) (place : ℕ) → IsFair world → after ≡ record world { raised = set world.raised place true } → IsFair after
raise_fair world after place fair e =
    subst IsFair (sym e)
    (record {
      some = fair.some;
      raised = length-set world.raised place true ∙ fair.raised;
      held = fair.held;
      entered = fair.entered;
      size = fair.size;
      drawn = fair.drawn;
      claimed = fair.claimed;
      members = fair.members;
    })

pub raise_comes : (world after : World) (number place : ℕ) (worker : WorkerView) → IsAtWork world number place worker
    → after ≡ record world { raised = set world.raised place true } → Comes world (Raise number) 0 after
raise_comes world after number place worker at e = (
  [],
  inl (place, worker, at, e, refl),
  subst (λ (w : World). GoOnBy world.workers [] w.workers) (sym e) (gone_none world.workers),
  none_lost,
  refl,
)

-- 3. STARVING.

-- The worker once it is starved.
abbrev pub starved : WorkerView → WorkerView
starved worker = record { task = worker.task; state = starve worker.state; waiting = false }

-- The log of a worker that waits for nothing goes on so when it is starved.
abbrev pub LeadsStarved : WorkerView → WorkerView → Type 0
LeadsStarved worker later = (log : List Exchange) (s : State) → Leads worker.task log s → worker.state ≡ now_at worker.waiting s → Leads worker.task log later.state

pub leads_starved : (worker later : WorkerView) → worker.waiting ≡ false → LeadsStarved worker later → (log : List Exchange) → Leads worker.task log worker.state
    → Leads worker.task log later.state
leads_starved worker later idle leads log l = leads log worker.state l (subst (λ (b : Bool). worker.state ≡ now_at b worker.state) (sym idle) refl)

pub starve_fair : (world after : World) (place : ℕ) (worker later : WorkerView) → IsFair world → slice_get world.workers place ≡ Some worker → later ≡ starved worker
    → LeadsStarved worker later → IsLeftAlone worker.state later.state → after ≡ record world { workers = set world.workers place later } → IsFair after
starve_fair world after place worker later fair there is leads alone e =
    let m = fair.members place worker there in
    subst IsFair (sym e)
    (fair_on world (record world { workers = set world.workers place later }) place worker later fair there refl refl
    (record {
      words = refl;
      held = λ word. (let a = alone.slots (word_of (length world.port.pins)) word in omega (arith, a));
      size = (let a = alone.size in omega (arith, a));
      visits = (let a = alone.visits in omega (arith, a));
      rooms = (let a = alone.claims in omega (arith, a));
    })
    (desk_same world.port.desk)
    (λ key slot some.
    let own = λ (w : WorkerView). own_slots (only key slot) w.state.frames 1 in
    let sums = sum_set own world.workers place worker later there in
    let a = alone.slots (only key slot) 1 in
    fair.entered key slot (omega (arith, some, sums, a)))
    (let task : later.task ≡ worker.task = ap (λ (w : WorkerView). w.task) is in
    record {
      task = task ∙ m.task;
      problem = subst IsTask (sym task) m.problem;
      idle = ap (λ (w : WorkerView). w.waiting) is;
      log = m.log;
      leads = subst (λ (t : Task). Leads t m.log later.state) (sym task) (leads_starved worker later m.idle leads m.log m.leads);
      told = subst (λ (t : Task). (end : WorkEnd) → HasCause t end m.log → IsToldOf world.port.desk end) (sym task) m.told;
    }))

pub starve_comes : (world after : World) (number place : ℕ) (worker later : WorkerView) → IsFair world → IsAtWork world number place worker → later ≡ starved worker
    → LeadsStarved worker later → after ≡ record world { workers = set world.workers place later } → Comes world (Starve number) 0 after
starve_comes world after number place worker later fair at is leads e =
    let m = fair.members place worker at.there in
    let idle : later.waiting ≡ false = ap (λ (w : WorkerView). w.waiting) is in
    let task : later.task ≡ worker.task = ap (λ (w : WorkerView). w.task) is in (
      [],
      inl (place, worker, at, e ∙ ap (λ (v : WorkerView). record world { workers = set world.workers place v }) is, refl),
      subst (λ (w : World). GoOnBy world.workers [] w.workers) (sym e)
          (gone_quietly world.workers place worker later at.there
          (goes_on_by worker later [] m.idle idle task
          (λ log l. subst (λ (z : List Exchange). Leads worker.task z later.state) (sym (append-nil log)) (leads_starved worker later m.idle leads log l)))),
      none_lost,
      refl,
    )

-- Of what changes nothing no look is lost: no worker looks and winds up at once.
not_both : (stage : Stage) → looks_at stage && winds_at stage ≡ false
not_both (Looking place) = refl
not_both stage = refl

not_both_of : (worker : Option WorkerView) → looks_of worker && winds_of worker ≡ false
not_both_of None = refl
not_both_of (Some worker) = not_both worker.state.stage

idle_lost : (world : World) (number : ℕ) → 0 ≡ lost_by world (Step number) world
idle_lost world number = sym (ap {B = ℕ} (λ (b : Bool). if b then 1 else 0) (not_both_of (numbered world.workers number)))

-- 4. A SCHEDULE.

loses_push : (es : List Event) (e : Event) (w v u : World) (a b : List (ℕ × Exchange)) (lost more : ℕ) → Loses w es a v lost → Happens v e b u
    → more ≡ lost_by v e u → Loses w (es ++ e ∷ []) (a ++ b) u (lost + more)
loses_push [] e w v u a b lost more h k count =
    let none = h.2 in
    let same : lost_by w e u ≡ lost_by v e u = ap (λ (z : World). lost_by z e u) h.1 in (
      b,
      [],
      u,
      0,
      subst (λ (z : World). Happens z e b u) (sym h.1) k,
      (refl, refl, refl),
      ap (λ (z : List (ℕ × Exchange)). z ++ b) h.0 ∙ sym (append-nil b),
      omega (arith, none, same, count),
    )
loses_push (f ∷ es) e w v u a b lost more h k count =
    let so_far = h.7 in (
      h.0,
      h.1 ++ b,
      h.2,
      h.3 + more,
      h.4,
      loses_push es e h.2 v u h.1 b h.3 more h.5 k count,
      ap (λ (z : List (ℕ × Exchange)). z ++ b) h.6 ∙ append_assoc h.0 h.1 b,
      omega (arith, so_far),
    )

plays_push : (es : List Event) (e : Event) (w v u : World) (a b : List (ℕ × Exchange)) → Plays w es a v → Happens v e b u → Plays w (es ++ e ∷ []) (a ++ b) u
plays_push [] e w v u a b h k =
    let p : Plays v (e ∷ []) b u = (b, [], u, k, (refl, refl), sym (append-nil b)) in
    subst (λ (z : List (ℕ × Exchange)). Plays w (e ∷ []) (z ++ b) u) (sym h.0) (subst (λ (z : World). Plays z (e ∷ []) b u) (sym h.1) p)
plays_push (f ∷ es) e w v u a b h k = (
  h.0,
  h.1 ++ b,
  h.2,
  h.3,
  plays_push es e h.2 v u h.1 b h.4 k,
  ap (λ (z : List (ℕ × Exchange)). z ++ b) h.5 ∙ append_assoc h.0 h.1 b,
)

-- What a schedule comes to, and after how many looks of it workers wound up.
abbrev pub Played : World → List Event → ℕ → World → Type 0
Played world events lost after =
    (log : List (ℕ × Exchange)) × Plays world events log after × GoOnBy world.workers log after.workers × AreLost log lost
    × Loses world events log after lost

pub played_none : (world : World) → Played world [] 0 world
played_none world = ([], (refl, refl), gone_none world.workers, none_lost, (refl, refl, refl))

pub played_push : (world mid after : World) (events : List Event) (event : Event) (lost more : ℕ) → Played world events lost mid
    → Comes mid event more after → Played world (events ++ event ∷ []) (lost + more) after
played_push world mid after events event lost more p c =
    let refused = sum_by-append (λ (told : ℕ × Exchange). cond (is_refused told.1) 1 0) p.0 c.0 in
    let lent = sum_by-append (λ (told : ℕ × Exchange). cond (is_lent told.1) 1 0) p.0 c.0 in (
      p.0 ++ c.0,
      plays_push events event world mid after p.0 c.0 p.1 c.1,
      gone_then world.workers mid.workers after.workers p.0 c.0 p.2 c.2,
      record {
        least = omega (arith, p.3.least, c.3.least, refused);
        most = omega (arith, p.3.most, c.3.most, refused, lent);
      },
      loses_push events event world mid after p.0 c.0 lost more p.4 c.1 c.4,
    )

-- 5. WHAT THE CODE READS.

-- One request was answered.
abbrev pub IsOne : Bool → LonePortView → WorkerView → LonePortView → WorkerView → Type 0
IsOne stops ready worker after later =
    (x : Exchange) × Steps stops ready worker x after later
    × ((log : List Exchange) → Leads worker.task log worker.state → Leads worker.task (log ++ x ∷ []) later.state)

one_answered : (result : Option WorkEnd) (stops : Bool) (ready : LonePortView) (worker : WorkerView) (after : LonePortView) (later : WorkerView) → end_of worker.state ≡ None
    → IfNone result (IsOne stops ready worker after later)
    → IfSome result (λ (end : WorkEnd). (end_of worker.state ≡ Some end) × (later ≡ worker) × (after ≡ ready)) → IsOne stops ready worker after later
one_answered None stops ready worker after later going none some = none
one_answered (Some end) stops ready worker after later going none some = let e : Some end ≡ None = sym some.0 ∙ going in absurd (cc)

-- What is read at a place is there.
pub at_work_by : (world : World) (number place : ℕ) (worker read : WorkerView) → IsAtWork world number place worker → read ≡ get_or world.workers place read
    → IsAtWork world number place read
at_work_by world number place worker read at is =
    let low = slice_get_within world.workers place worker at.there in
    let e : slice_get world.workers place ≡ Some read = slice_get_read world.workers (length world.workers) place read refl low is in
    record {
      numbered = at.numbered;
      there = e;
      goes_on = ap (λ (w : WorkerView). end_of w.state) (sym (same_Some worker read (sym at.there ∙ e))) ∙ at.goes_on;
    }

-- A request of the worker that was read.
pub requested : (world after : World) (ready : LonePortView) (number place : ℕ) (found first worker later : WorkerView) (stops polls : Bool) (result : Option WorkEnd)
    → IsFair world → IsAtWork world number place found → first ≡ get_or world.workers place first → worker ≡ get_or world.workers place worker
    → polls ≡ is_poll (asks first.state) → stops ≡ slice_index_or world.raised place false → ready ≡ opened world.port false
    → after.workers ≡ set world.workers place later → after.raised ≡ (if polls then set world.raised place false else world.raised)
    → IfNone result (IsOne stops ready worker after.port later) → IfSome result (λ (end : WorkEnd). (end_of worker.state ≡ Some end) × (later ≡ worker) × (after.port ≡ ready))
    → KeepsOthers worker later (book_of ready) (book_of after.port) → (x : Exchange) × IsRequest world after number place worker later x
requested world after ready number place found first worker later stops polls result fair at one two polled stopped opens workers raised none some keep =
    let a1 = at_work_by world number place found first at one in
    let a2 = at_work_by world number place found worker at two in
    let same : first ≡ worker = same_Some first worker (sym a1.there ∙ a2.there) in
    let asked : polls ≡ is_poll (asks worker.state) = polled ∙ ap (λ (w : WorkerView). is_poll (asks w.state)) same in
    let r = one_answered result stops ready worker after.port later a2.goes_on none some in (
      r.0,
      record {
        fair = fair;
        at_work = a2;
        workers = workers;
        raised = raised ∙ ap (λ (b : Bool). if b then set world.raised place false else world.raised) asked;
        steps = subst (λ (b : Bool). Steps b (opened world.port false) worker r.0 after.port later) stopped
            (subst (λ (p : LonePortView). Steps stops p worker r.0 after.port later) opens r.1);
        leads = r.2;
        keep = subst (λ (p : LonePortView). KeepsOthers worker later (book_of p) (book_of after.port)) opens keep;
      },
    )

-- No event of a worker that is idle changes anything.
pub idle_step : (world : World) (number : ℕ) → IsIdle world number → Comes world (Step number) 0 world
idle_step world number idle = ([], inr (idle, refl, refl), gone_none world.workers, none_lost, idle_lost world number)

pub idle_raise : (world : World) (number : ℕ) → IsIdle world number → Comes world (Raise number) 0 world
idle_raise world number idle = ([], inr (idle, refl, refl), gone_none world.workers, none_lost, refl)

pub idle_starve : (world : World) (number : ℕ) → IsIdle world number → Comes world (Starve number) 0 world
idle_starve world number idle = ([], inr (idle, refl, refl), gone_none world.workers, none_lost, refl)
