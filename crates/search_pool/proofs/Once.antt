-- A search with one worker goes one way, and has one answer.
use Rattle.std.proofs.Common.{◌≡◌, ◌≢◌, ◌⊎◌, inl, inr, ℕ, zero, suc, List, [], ◌∷◌, ◌++◌, map, get_or, arith, refl, sym, ap, ap₂, ◌∙◌, subst, Bool, true, false}
use Rattle.std.specs.Prelude.{Option, Some, None, All, IsSome, if◌then◌else◌}
use Rattle.std.proofs.lemmas.Option.{same_Some}
use Rattle.std.proofs.lemmas.List.Elements.{All-head, All-tail}
use Rattle.board_core.specs.Board.{Board}
use Rattle.board_core.specs.declared.keys.Key.{Key}
use Rattle.notes.specs.Derivation.{Derivation}
use Rattle.notes.specs.declared.note.TheConstants.{HEIGHT_LIMIT}
use Rattle.search_limits.specs.Sizes.{SettingsView}
use Rattle.search_limits.specs.declared.cause.Cause.{Cause}
use Rattle.search_limits.specs.declared.cause.Cause.TheVariants.{Expansions, Room, Height, Stopped as StoppedFirst, Entries}
use Rattle.visit_log.specs.declared.parts.Stage.{Stage}
use Rattle.visit_log.specs.declared.parts.Stage.TheVariants.{Polling, Drawing, Entering, Looking, Claiming, Leaving, Posting, Winding}
use Rattle.visit_log.specs.declared.words.WorkEnd.{WorkEnd}
use Rattle.visit_log.specs.declared.words.WorkEnd.TheVariants.{Posted, Spent, NoRoom, TooHigh, NoMemory, Stopped}
use Rattle.visit_log.specs.declared.words.Reply.{Reply}
use Rattle.visit_log.specs.Frame.{Task}
use Rattle.visit_log.specs.Visit.{Exchange}
use Rattle.visit_log.specs.Machine.{State, LeadsAt, asks, path_of, starve_at, end_of}
use Rattle.visit_log.specs.Run.{WorkerView, IsLooking}
use Rattle.worker_core.specs.Machine.{is_poll}
use Rattle.worker_core.specs.Port.{Goes}
use Rattle.lone_port.specs.Lone.{LonePortView, Turns, opened, alone_at_first, worker_at_first}
use Rattle.lone_port.specs.World.{World, Steps, IsAtWork, StepsAt, Happens, Plays, world_at_first}
use Rattle.lone_port.specs.declared.event.Event.{Event}
use Rattle.lone_port.specs.declared.event.Event.TheVariants.{Step, Raise, Starve}
use Rattle.lone_port.specs.Alone.{IsOwnStep, HasCause, for_one, told_to_one, world_of}
use Rattle.search_pool.specs.declared.end.SearchEnd.{SearchEnd}
use Rattle.search_pool.specs.declared.end.SearchEnd.TheVariants.{Solved, Unknown}
use Rattle.search_pool.specs.End.{IsOutcome, IsAlone, IsAloneFrom}
use Rattle.search_pool.specs.Laws.{AreSameAlone, AloneState, HasRun, HasRunFrom, AloneGoesOneWay, AloneHasOneAnswer}
use Rattle.search_pool.specs.Inside.{IsWindingUp, WasSaid, says_posted, world_over}
use Rattle.search_pool.proofs.Winding.{winding_on, ends_so, none_posted}
use Rattle.search_pool.proofs.Entering.{AreApartIn, apart_at_first}
use Rattle.search_pool.proofs.Asking.{turns_once, turns_apart}
use Rattle.search_pool.proofs.Leading.{IsStarved, AreLaws, leads_once, stays_starved}

-- 1. ONE REQUEST.

starved_looking : (s : State) (stage : Stage) → IsLooking stage → (starve_at s stage).stage ≡ Winding NoMemory
starved_looking s (Looking place) is = refl
starved_looking s (Polling entry) is = absurd is
starved_looking s (Drawing entry) is = absurd is
starved_looking s Entering is = absurd is
starved_looking s Claiming is = absurd is
starved_looking s (Leaving left) is = absurd is
starved_looking s (Posting posted) is = absurd is
starved_looking s (Winding end) is = absurd is

-- The request and its answer, where no look was refused memory.
record IsAnswered (task : Task) (s : State) (x : Exchange) (t : State) : Type 0 where
  reply : Reply
  asked : x ≡ (asks s, Some reply)
  leads : LeadsAt task s s.stage reply t

answered : (task : Task) (s t : State) (x : Exchange) → Goes task s x t → ¬ IsStarved t → IsAnswered task s x t
answered task s t (q, None) h not = absurd (not (ap (λ (z : State). z.stage) h.2 ∙ starved_looking s s.stage h.1))
answered task s t (q, Some a) h not = record { reply = a; asked = (let e = h.0 in λ i. (e i, Some a)); leads = h.2 }

turned : (before : LonePortView) (path : List Key) (x y : Exchange) (after : LonePortView) → x ≡ y → Turns before path x.0 x.1 after → Turns before path y.0 y.1 after
turned before path x y after e h = subst (λ (z : Exchange). Turns before path z.0 z.1 after) e h

same_worker : (a b c : WorkerView) → a.task ≡ c.task → b.task ≡ c.task → a.state ≡ b.state → a.waiting ≡ false → b.waiting ≡ false → a ≡ b
same_worker a b c task its_task state idle too =
    let one = task ∙ sym its_task in
    let still = idle ∙ sym too in
    λ i. record { task = one i; state = state i; waiting = still i }

-- Where no memory is wanting, a worker makes one step.
steps_once : AreLaws → (port : LonePortView) (worker : WorkerView) (x y : Exchange) (one two : LonePortView) (a b : WorkerView) → AreApartIn port.rows
    → Steps false port worker x one a → Steps false port worker y two b → ¬ IsStarved a.state → ¬ IsStarved b.state → (x ≡ y) × (one ≡ two) × (a ≡ b)
steps_once laws port worker x y one two a b apart h k not nor =
    let m = answered worker.task worker.state a.state x h.goes not in
    let n = answered worker.task worker.state b.state y k.goes nor in
    let path = path_of worker.task worker.state.frames in
    let same = turns_once (opened port false) path (asks worker.state) m.reply n.reply one two apart
    (turned (opened port false) path x (asks worker.state, Some m.reply) one m.asked h.turns)
    (turned (opened port false) path y (asks worker.state, Some n.reply) two n.asked k.turns) in
    let state = leads_once laws worker.task worker.state worker.state.stage n.reply a.state b.state
    (subst (λ (r : Reply). LeadsAt worker.task worker.state worker.state.stage r a.state) same.0 m.leads) n.leads not nor in (
      m.asked ∙ (ap (λ (r : Reply). (asks worker.state, Some r)) same.0 ∙ sym n.asked),
      same.1,
      same_worker a b worker h.task k.task state h.idle k.idle,
    )

steps_apart : (port : LonePortView) (worker : WorkerView) (x : Exchange) (after : LonePortView) (later : WorkerView) → AreApartIn port.rows
    → Steps false port worker x after later → ¬ IsStarved later.state → AreApartIn after.rows
steps_apart port worker x after later apart h not =
    let m = answered worker.task worker.state later.state x h.goes not in
    turns_apart (opened port false) (path_of worker.task worker.state.frames) (asks worker.state) m.reply after apart
    (turned (opened port false) (path_of worker.task worker.state.frames) x (asks worker.state, Some m.reply) after m.asked h.turns)

-- 2. ONE EVENT.

-- The one worker makes a step.
record Moves (port : LonePortView) (worker : WorkerView) (log : List (ℕ × Exchange)) (after : World) : Type 0 where
  going : end_of worker.state ≡ None
  exchange : Exchange
  next : LonePortView
  later : WorkerView
  steps : Steps false port worker exchange next later
  is : after ≡ world_of next later false
  logged : log ≡ (1, exchange) ∷ []

-- It has ended, and nothing changes.
record Stays (port : LonePortView) (worker : WorkerView) (log : List (ℕ × Exchange)) (after : World) : Type 0 where
  ended : end_of worker.state ≡ None → ⊥
  is : after ≡ world_of port worker false
  logged : log ≡ []

either : (b : Bool) (xs : List Bool) → (if b then xs else xs) ≡ xs
either true xs = refl
either false xs = refl

moves_at : (port : LonePortView) (worker w : WorkerView) (x : Exchange) (number place : ℕ) (log : List (ℕ × Exchange)) (after : World) → number ≡ 1
    → IsAtWork (world_of port worker false) number place w → StepsAt (world_of port worker false) place w x after → log ≡ (number, x) ∷ [] → Moves port worker log after
moves_at port worker w x number zero log after one at steps logged =
    let same : w ≡ worker = same_Some w worker (sym at.there) in record {
      going = subst (λ (z : WorkerView). end_of z.state ≡ None) same at.goes_on;
      exchange = x;
      next = after.port;
      later = steps.later;
      steps = subst (λ (z : WorkerView). Steps false port z x after.port steps.later) same steps.steps;
      is = (let ws = steps.workers in let rs = steps.raised ∙ either (is_poll x.0) (false ∷ []) in λ i. record { port = after.port; workers = ws i; raised = rs i });
      logged = logged ∙ ap (λ (n : ℕ). (n, x) ∷ []) one;
    }
moves_at port worker w x number (suc place) log after one at steps logged = (let clash = at.numbered in absurd (omega (arith, clash, one)))

own_event : (port : LonePortView) (worker : WorkerView) (event : Event) (log : List (ℕ × Exchange)) (after : World) → IsOwnStep event
    → Happens (world_of port worker false) event log after → Moves port worker log after ⊎ Stays port worker log after
own_event port worker (Step number) log after one (inl (place, w, x, at, steps, logged)) = inl (moves_at port worker w x number place log after one at steps logged)
own_event port worker (Step number) log after one (inr (idle, logged, is)) =
    inr (record { ended = λ going. idle 0 worker (record { numbered = one; there = refl; goes_on = going }); is = is; logged = logged })
own_event port worker (Raise number) log after own h = absurd own
own_event port worker (Starve number) log after own h = absurd own

-- 3. A SCHEDULE.

port_in : (a b : LonePortView) (v w : WorkerView) (s r : Bool) → world_of a v s ≡ world_of b w r → a ≡ b
port_in a b v w s r e = ap (λ (z : World). z.port) e

worker_in : (a b : LonePortView) (v w : WorkerView) (s r : Bool) → world_of a v s ≡ world_of b w r → v ≡ w
worker_in a b v w s r e = ap (λ (z : World). get_or z.workers 0 v) e

pub from_world : (es : List Event) (log : List (ℕ × Exchange)) (v w last : World) → v ≡ w → Plays v es log last → Plays w es log last
from_world es log v w last e h = subst (λ (z : World). Plays z es log last) e h

-- Something that a step keeps is kept by a schedule of a worker's own steps.
pub kept_by : (P : LonePortView → WorkerView → Type 0) → ((port next : LonePortView) (worker later : WorkerView) (x : Exchange) → P port worker → Steps false port worker x next later → P next later)
    → (es : List Event) (log : List (ℕ × Exchange)) (port last : LonePortView) (worker end : WorkerView) (raised : Bool) → All IsOwnStep es
    → Plays (world_of port worker false) es log (world_of last end raised) → P port worker → P last end
kept_by P keeps [] log port last worker end raised own h p =
    subst (λ (w : WorkerView). P last w) (worker_in port last worker end false raised h.1)
    (subst (λ (z : LonePortView). P z worker) (port_in port last worker end false raised h.1) p)
kept_by P keeps (e ∷ es) log port last worker end raised own h p =
    elim (own_event port worker e h.0 h.2 (All-head IsOwnStep e es own) h.3) [
      | inl m ↦ kept_by P keeps es h.1 m.next last m.later end raised (All-tail IsOwnStep e es own)
          (from_world es h.1 h.2 (world_of m.next m.later false) (world_of last end raised) m.is h.4) (keeps port m.next worker m.later m.exchange p m.steps)
      | inr s ↦ kept_by P keeps es h.1 port last worker end raised (All-tail IsOwnStep e es own)
          (from_world es h.1 h.2 (world_of port worker false) (world_of last end raised) s.is h.4) p
    ]

ends_starved : (es : List Event) (log : List (ℕ × Exchange)) (port last : LonePortView) (worker end : WorkerView) (raised : Bool) → All IsOwnStep es
    → Plays (world_of port worker false) es log (world_of last end raised) → IsStarved worker.state → IsStarved end.state
ends_starved es log port last worker end raised own h starved =
    kept_by (λ _ w. IsStarved w.state) (λ before after w later x is steps. stays_starved w.task w.state later.state x steps.goes is)
    es log port last worker end raised own h starved

-- A worker that has ended stays as it is.
still : (es : List Event) (log : List (ℕ × Exchange)) (port last : LonePortView) (worker end : WorkerView) (raised : Bool) → All IsOwnStep es
    → Plays (world_of port worker false) es log (world_of last end raised) → (end_of worker.state ≡ None → ⊥) → (log ≡ []) × (port ≡ last) × (worker ≡ end)
still [] log port last worker end raised own h ended = (h.0, port_in port last worker end false raised h.1, worker_in port last worker end false raised h.1)
still (e ∷ es) log port last worker end raised own h ended =
    elim (own_event port worker e h.0 h.2 (All-head IsOwnStep e es own) h.3) [
      | inl m ↦ absurd (ended m.going)
      | inr s ↦
          let rest = still es h.1 port last worker end raised (All-tail IsOwnStep e es own)
          (from_world es h.1 h.2 (world_of port worker false) (world_of last end raised) s.is h.4) ended in
          (h.5 ∙ ap₂ (λ (xs ys : List (ℕ × Exchange)). xs ++ ys) s.logged rest.0, rest.1, rest.2)
    ]

ended_worker : (port last : LonePortView) (worker end : WorkerView) (raised : Bool) → world_of port worker false ≡ world_of last end raised → (end_of end.state ≡ None → ⊥)
    → end_of worker.state ≡ None → ⊥
ended_worker port last worker end raised e ended =
    subst (λ (w : WorkerView). end_of w.state ≡ None → ⊥) (sym (worker_in port last worker end false raised e)) ended

one_told : (log told : List (ℕ × Exchange)) (x y : Exchange) → log ≡ (1, x) ∷ [] → told ≡ (1, y) ∷ [] → x ≡ y → log ≡ told
one_told log told x y one two e = one ∙ (ap (λ (z : Exchange). (1, z) ∷ []) e ∙ sym two)

joined : (a b xs ys log told : List (ℕ × Exchange)) → a ≡ b → xs ≡ ys → log ≡ a ++ xs → told ≡ b ++ ys → log ≡ told
joined a b xs ys log told first rest one two = one ∙ (ap₂ (λ (us vs : List (ℕ × Exchange)). us ++ vs) first rest ∙ sym two)

-- Two schedules of a worker's own steps that lead from one world to a worker's end, not for want of
-- memory, lead to one end by one log.
pub plays_once : AreLaws → (es fs : List Event) (log told : List (ℕ × Exchange)) (port one two : LonePortView) (worker a b : WorkerView) (r q : Bool) → AreApartIn port.rows
    → All IsOwnStep es → All IsOwnStep fs → Plays (world_of port worker false) es log (world_of one a r) → Plays (world_of port worker false) fs told (world_of two b q)
    → (end_of a.state ≡ None → ⊥) → (end_of b.state ≡ None → ⊥) → ¬ IsStarved a.state → ¬ IsStarved b.state → (log ≡ told) × (one ≡ two) × (a ≡ b)
plays_once laws [] fs log told port one two worker a b r q apart own too h k ended done not nor =
    let rest = still fs told port two worker b q too k (ended_worker port one worker a r h.1 ended) in
    (h.0 ∙ sym rest.0, sym (port_in port one worker a false r h.1) ∙ rest.1, sym (worker_in port one worker a false r h.1) ∙ rest.2)
plays_once laws (e ∷ es) [] log told port one two worker a b r q apart own too h k ended done not nor =
    let rest = still (e ∷ es) log port one worker a r own h (ended_worker port two worker b q k.1 done) in
    (rest.0 ∙ sym k.0, sym rest.1 ∙ port_in port two worker b false q k.1, sym rest.2 ∙ worker_in port two worker b false q k.1)
plays_once laws (e ∷ es) (f ∷ fs) log told port one two worker a b r q apart own too h k ended done not nor =
    let rest = All-tail IsOwnStep e es own in
    let others = All-tail IsOwnStep f fs too in
    elim (own_event port worker e h.0 h.2 (All-head IsOwnStep e es own) h.3) [
      | inl m ↦ elim (own_event port worker f k.0 k.2 (All-head IsOwnStep f fs too) k.3) [
        | inl n ↦
            let on = from_world es h.1 h.2 (world_of m.next m.later false) (world_of one a r) m.is h.4 in
            let go = from_world fs k.1 k.2 (world_of n.next n.later false) (world_of two b q) n.is k.4 in
            let free : ¬ IsStarved m.later.state = λ s. not (ends_starved es h.1 m.next one m.later a r rest on s) in
            let loose : ¬ IsStarved n.later.state = λ s. nor (ends_starved fs k.1 n.next two n.later b q others go s) in
            let same = steps_once laws port worker m.exchange n.exchange m.next n.next m.later n.later apart m.steps n.steps free loose in
            let back : world_of n.next n.later false ≡ world_of m.next m.later false =
            ap₂ (λ (p : LonePortView) (w : WorkerView). world_of p w false) (sym same.1) (sym same.2) in
            let more = plays_once laws es fs h.1 k.1 m.next one two m.later a b r q (steps_apart port worker m.exchange m.next m.later apart m.steps free) rest others
            on (from_world fs k.1 (world_of n.next n.later false) (world_of m.next m.later false) (world_of two b q) back go) ended done not nor in
            let first = one_told h.0 k.0 m.exchange n.exchange m.logged n.logged same.0 in
            (joined h.0 k.0 h.1 k.1 log told first more.0 h.5 k.5, more.1, more.2)
        | inr t ↦ absurd (t.ended m.going)
      ]
      | inr s ↦ elim (own_event port worker f k.0 k.2 (All-head IsOwnStep f fs too) k.3) [
        | inl n ↦ absurd (s.ended n.going)
        | inr t ↦
            let more = plays_once laws es fs h.1 k.1 port one two worker a b r q apart rest others
            (from_world es h.1 h.2 (world_of port worker false) (world_of one a r) s.is h.4)
            (from_world fs k.1 k.2 (world_of port worker false) (world_of two b q) t.is k.4) ended done not nor in
            (joined h.0 k.0 h.1 k.1 log told (s.logged ∙ sym t.logged) more.0 h.5 k.5, more.1, more.2)
      ]
    ]

-- 4. ONE WAY.

pub told_apart : (xs ys : List Exchange) → told_to_one xs ≡ told_to_one ys → xs ≡ ys
told_apart xs ys e = sym (untold xs) ∙ (ap (map (λ (x : ℕ × Exchange). x.1)) e ∙ untold ys)
  where
    untold : (zs : List Exchange) → map (λ (x : ℕ × Exchange). x.1) (told_to_one zs) ≡ zs
    untold [] = refl
    untold (z ∷ zs) = ap (λ (rest : List Exchange). z ∷ rest) (untold zs)

pub some_end : (s : State) (end : WorkEnd) → end_of s ≡ Some end → end_of s ≡ None → ⊥
some_end s end e none = (let clash : ◌≡◌ {A = Option WorkEnd} (Some end) None = sym e ∙ none in absurd (cc))

pub not_starved : (s : State) (end : WorkEnd) → end_of s ≡ Some end → end ≢ NoMemory → ¬ IsStarved s
not_starved s end ended other starved = other (ends_so s.stage s.frames NoMemory end starved ended)

pub same_at_first : (problem : Board) (s r : SettingsView) → AreSameAlone s r → world_at_first problem (for_one r) ≡ world_at_first problem (for_one s)
same_at_first problem s r same =
    let x = sym same.expansions in
    let y = sym same.room in
    let z = sym same.rows in
    let w = sym same.lends in
    λ i. world_of (alone_at_first problem (x i) (y i) (z i) (w i)) (worker_at_first problem 1) false

-- A search with one worker goes one way.
pub one_way : AreLaws → AloneGoesOneWay
one_way laws problem s r end other same h k =
    let first = alone_at_first problem s.expansions s.room s.rows s.lends in
    let its = from_world k.schedule (told_to_one other.log) (world_at_first problem (for_one r)) (world_at_first problem (for_one s))
    (world_of other.port other.worker k.runs.raised) (same_at_first problem s r same) k.runs.plays in
    let once = plays_once laws h.schedule k.schedule (told_to_one end.log) (told_to_one other.log) first end.port other.port (worker_at_first problem 1)
    end.worker other.worker h.runs.raised k.runs.raised (apart_at_first s.rows) h.own k.own h.runs.plays its
    (some_end end.worker.state h.end h.ended) (some_end other.worker.state k.end k.ended)
    (not_starved end.worker.state h.end h.ended h.not_starved) (not_starved other.worker.state k.end k.ended k.not_starved) in
    let log = told_apart end.log other.log once.0 in
    λ i. record { log = log i; port = once.1 i; worker = once.2 i }

-- 5. ONE ANSWER.

-- The cause of an end.
abbrev cause_for : ℕ → ℕ → WorkEnd → Option Cause
cause_for expansions room Spent = Some (Expansions expansions)
cause_for expansions room NoRoom = Some (Room room)
cause_for expansions room TooHigh = Some (Height HEIGHT_LIMIT)
cause_for expansions room Stopped = Some (StoppedFirst 1)
cause_for expansions room Posted = None
cause_for expansions room NoMemory = None

-- By which end there is a cause.
record IsCaused (s : SettingsView) (worker : WorkerView) (cause : Cause) : Type 0 where
  end : WorkEnd
  ended : end_of worker.state ≡ Some end
  is : cause_for s.expansions s.room end ≡ Some cause

caused : (s : SettingsView) (worker : WorkerView) (cause : Cause) → HasCause s worker cause → IsCaused s worker cause
caused s worker (Expansions number) h = record { end = Spent; ended = h.1; is = ap (λ (n : ℕ). Some (Expansions n)) (sym h.0) }
caused s worker (Room number) h = record { end = NoRoom; ended = h.1; is = ap (λ (n : ℕ). Some (Room n)) (sym h.0) }
caused s worker (Height number) h = record { end = TooHigh; ended = h.1; is = ap (λ (n : ℕ). Some (Height n)) (sym h.0) }
caused s worker (StoppedFirst number) h = record { end = Stopped; ended = h.1; is = ap (λ (n : ℕ). Some (StoppedFirst n)) (sym h.0) }
caused s worker (Entries number) h = absurd h

cause_once : (s r : SettingsView) (worker : WorkerView) (c d : Cause) → AreSameAlone s r → HasCause s worker c → HasCause r worker d → c ≡ d
cause_once s r worker c d same h k =
    let one = caused s worker c h in
    let two = caused r worker d k in
    let end : one.end ≡ two.end = same_Some one.end two.end (sym one.ended ∙ two.ended) in
    same_Some c d (sym one.is ∙ (ap (cause_for s.expansions s.room) end
    ∙ (ap₂ (λ (x y : ℕ). cause_for x y two.end) same.expansions same.room ∙ two.is)))

pub outcome_once : (s r : SettingsView) (port : LonePortView) (worker : WorkerView) (e f : SearchEnd) → AreSameAlone s r → IsOutcome s port worker e → IsOutcome r port worker f → e ≡ f
outcome_once s r port worker (Solved note) (Solved other) same h k = ap Solved (same_Some note other (sym h ∙ k))
outcome_once s r port worker (Solved note) (Unknown cause crew) same h k =
    (let clash : ◌≡◌ {A = Option Derivation} (Some note) None = sym h ∙ k.0 in absurd (cc))
outcome_once s r port worker (Unknown cause crew) (Solved note) same h k =
    (let clash : ◌≡◌ {A = Option Derivation} (Some note) None = sym k ∙ h.0 in absurd (cc))
outcome_once s r port worker (Unknown c crew) (Unknown d team) same h k =
    ap₂ (λ (x : Cause) (ws : List WorkerView). Unknown x ws) (cause_once s r worker c d same h.2 k.2) (h.1 ∙ sym k.1)

-- The worker winds up where it was told to, and so where a note is posted.
abbrev pub IsTold : LonePortView → LonePortView → WorkerView → Type 0
IsTold first port worker = (log : List Exchange) × IsWindingUp first log port worker

pub told_at_first : (first : LonePortView) (problem : Board) → IsTold first first (worker_at_first problem 1)
told_at_first first problem = (
  [],
  record {
    stopped = λ w. absurd (let low = w.1.1 in omega (arith, low));
    posted = λ w. absurd (let low = w.1.1 in omega (arith, low));
    is_said = λ some. inr some;
    still = λ some. refl;
  },
)

pub stays_told : (first port next : LonePortView) (worker later : WorkerView) (x : Exchange) → IsTold first port worker → Steps false port worker x next later → IsTold first next later
stays_told first port next worker later x (log, told) steps = (log ++ x ∷ [], winding_on first log x port next false worker later told steps.goes steps.turns)

-- Where none was posted at first, it was said that one is.
only_said : (log : List Exchange) (first : LonePortView) → WasSaid says_posted log ⊎ IsSome first.desk.posted → first.desk.posted ≡ None → WasSaid says_posted log
only_said log first (inl said) none = said
only_said log first (inr some) none = none_posted first.desk.posted none some

-- A worker whose search has an answer didn't end for want of memory.
pub not_for_memory : (first : LonePortView) (s : SettingsView) (port : LonePortView) (worker : WorkerView) (answer : SearchEnd) (end : WorkEnd) → first.desk.posted ≡ None
    → IsOutcome s port worker answer → IsTold first port worker → end_of worker.state ≡ Some end → end ≢ NoMemory
not_for_memory first s port worker (Solved note) end none h told ended e =
    let said = only_said (told.0) first (told.1.is_said (subst IsSome (sym h) refl)) none in
    let posted = ends_so worker.state.stage worker.state.frames Posted end (told.1.posted said) ended in
    let clash : Posted ≡ NoMemory = sym posted ∙ e in absurd (cc)
not_for_memory first s port worker (Unknown cause crew) end none h told ended e =
    let one = caused s worker cause h.2 in
    let same : one.end ≡ NoMemory = same_Some one.end end (sym one.ended ∙ ended) ∙ e in
    let clash : ◌≡◌ {A = Option Cause} None (Some cause) = ap (cause_for s.expansions s.room) (sym same) ∙ one.is in absurd (cc)

-- How a worker ended that has.
pub the_end : (o : Option WorkEnd) → IsSome o → (end : WorkEnd) × (o ≡ Some end)
the_end None some = absurd (cc)
the_end (Some end) some = (end, refl)

-- Where it has come to.
abbrev pub state_of : (first : World) (s : SettingsView) (answer : SearchEnd) → IsAloneFrom first s answer → AloneState
state_of first s answer alone = record { log = alone.2.log; port = alone.2.port; worker = alone.2.worker }

pub has_run_from : (first : LonePortView) (problem : Board) (s : SettingsView) (answer : SearchEnd) → first.desk.posted ≡ None → (alone : IsAloneFrom (world_over first problem) s answer)
    → HasRunFrom (world_over first problem) (state_of (world_over first problem) s answer alone)
has_run_from first problem s answer none (schedule, own, run) =
    let end = the_end (end_of run.worker.state) run.ended in
    let told = kept_by (IsTold first) (stays_told first) schedule (told_to_one run.log) first run.port (worker_at_first problem 1) run.worker
    run.runs.raised own run.runs.plays (told_at_first first problem) in record {
      schedule = schedule;
      own = own;
      runs = run.runs;
      end = end.0;
      ended = end.1;
      not_starved = not_for_memory first s run.port run.worker answer end.0 none run.outcome told end.1;
    }

abbrev alone_state : (problem : Board) (s : SettingsView) (answer : SearchEnd) → IsAlone problem s answer → AloneState
alone_state problem s answer alone = state_of (world_at_first problem (for_one s)) s answer alone

has_run : (problem : Board) (s : SettingsView) (answer : SearchEnd) (alone : IsAlone problem s answer) → HasRun problem s (alone_state problem s answer alone)
has_run problem s answer alone = has_run_from (alone_at_first problem s.expansions s.room s.rows s.lends) problem s answer refl alone

-- A search with one worker has one answer.
pub one_answer : AreLaws → AloneHasOneAnswer
one_answer laws problem s r end other same h k =
    let once = one_way laws problem s r (alone_state problem s end h) (alone_state problem r other k) same (has_run problem s end h) (has_run problem r other k) in
    outcome_once s r k.2.port k.2.worker end other same (subst (λ (z : AloneState). IsOutcome s z.port z.worker end) once h.2.outcome) k.2.outcome
