-- One request of a worker over a port, and many, one after the other.
use Rattle.std.proofs.Common.{◌≡◌, ◌⊎◌, inl, inr, ℕ, ◌+◌, ◌≤◌, ◌<◌, List, [], ◌∷◌, ◌++◌, arith, refl, sym, ap, ◌∙◌, subst, append_assoc, append-nil, Bool, true, false}
use Rattle.std.specs.Prelude.{Option, Some, None}
use Rattle.search_limits.specs.declared.expansions.TheConstants.{MOST_EXPANSIONS}
use Rattle.board_core.specs.declared.keys.Key.{Key}
use Rattle.board_core.specs.Board.{Board}
use Rattle.notes.specs.Derivation.{Derivation}
use Rattle.notes.specs.declared.words.Kept.{Kept}
use Rattle.notes.specs.declared.words.Seen.{Seen}
use Rattle.notes.specs.declared.words.Update.{Update}
use Rattle.notes.specs.declared.words.Draw.{Draw}
use Rattle.notes.specs.declared.words.Draw.TheVariants.{Go, Done, Spent as AllDrawn}
use Rattle.pn_numbers.specs.declared.numbers.Numbers.{Numbers}
use Rattle.visit_log.specs.declared.parts.Stage.{Stage}
use Rattle.visit_log.specs.declared.parts.Stage.TheVariants.{Winding}
use Rattle.visit_log.specs.declared.words.WorkEnd.{WorkEnd}
use Rattle.visit_log.specs.declared.words.WorkEnd.TheVariants.{NoMemory}
use Rattle.visit_log.specs.declared.words.Request.{Request}
use Rattle.visit_log.specs.declared.words.Request.TheVariants.{Draw as Draws, Claim as Claims, Look, Enter, Leave}
use Rattle.visit_log.specs.declared.words.Reply.{Reply}
use Rattle.visit_log.specs.declared.words.Reply.TheVariants.{Draw as Drew, Look as Looked, Leave as LeftIt}
use Rattle.visit_log.specs.Frame.{Task, FrameView, attacker_in, task_for}
use Rattle.visit_log.specs.Round.{MayShow}
use Rattle.visit_log.specs.Visit.{Exchange, IsVisitLog}
use Rattle.visit_log.specs.Machine.{State, asks, asked, asked_at, starve, end_of, path_of, Fits, LeadsTo}
use Rattle.visit_log.specs.Run.{Leads, WorkerView, Happens, Told, Dark, IsReached, IsLooking, now_at}
use Rattle.visit_log.specs.Sound.{IsSoundRequest, IsSoundUpdate, IsAnswer}
use Rattle.visit_log.specs.Counts.{Words, own_slots, own_size, slot_once, enters, leaves, enters_some, leaves_some, visits_in, rooms_in, to_come}
use Rattle.visit_log.specs.Laws.{IsLeftAlone, LeavesOwn}
use Rattle.worker_core.specs.Port.{Book, IsBooked, entering, Went, Suits, KeepsOthers, WentBy}
use Rattle.worker_core.proofs.Reached.{starve_now}
use Rattle.worker_core.proofs.TurnsStages.{enters_by_visit, Going, going_after, entering_at, looking_at, goes_on_asked, enters_few, MayAnswer, may_fits, asked_costs, asked_same, starves_less, starves_wind}

-- A worker once it was asked.
abbrev pub once_asked : WorkerView → WorkerView
once_asked v = record { task = v.task; state = asked v.state; waiting = true }

-- What one request over a port comes to.
pub record Turned {P : Type 0} (turn : P → List Key → Request → Option Reply → P → Type 0) (book : P → Book) (before after : P) (v w : WorkerView) (event : Exchange) : Type 0 where
  pub suits : Suits w (book after)
  pub went : WentBy turn before after v w (event ∷ [])
  pub others : KeepsOthers v w (book before) (book after)
  pub less : to_come w.state < to_come v.state

-- 1. WHAT THE PORT ASKS OF THE WORKER.

-- A visit or room is asked for where the port goes on.
pub port_goes : (v : WorkerView) (book : Book) (q : Request) → Suits v book → q ≡ asks v.state → (q ≡ Draws) ⊎ (q ≡ Claims) → book.going ≡ true
port_goes v book q suits e is = goes_on_asked book.going q v.state.stage v.state.frames suits.going e is

-- There is room for the slot that it enters.
pub few_slots : (v : WorkerView) (book : Book) (key : Key) (numbers : Numbers) → Suits v book → Enter key numbers ≡ asks v.state → book.size < MOST_EXPANSIONS
few_slots v book key numbers suits e =
    let enters = entering_at key numbers v.state.stage v.state.frames e in
    let size = suits.size in
    let most = suits.most in
    omega (arith, enters, size, most)

-- What it leaves is held.
pub left_held : LeavesOwn → (v : WorkerView) (book : Book) (kept : Kept) (key : Key) (update : Update) → Suits v book → Leave kept key update ≡ asks v.state
    → (word : ℕ) → slot_once book.words kept key word ≤ book.held word
left_held law v book kept key update suits e word =
    let own : leaves book.words (asks v.state, Some LeftIt) word ≤ own_slots book.words v.state.frames word = law book.words v.state LeftIt word in
    let this : leaves book.words (Leave kept key update, Some LeftIt) word ≡ leaves book.words (asks v.state, Some LeftIt) word =
    ap (λ (z : Request). leaves book.words (z, Some LeftIt) word) e in
    let held = suits.held word in
    omega (arith, own, this, held)

-- The update with which it leaves is one for the port's problem.
pub left_sound : (v : WorkerView) (book : Book) (kept : Kept) (key : Key) (update : Update) → Suits v book → IsSoundRequest v.task (Leave kept key update)
    → IsSoundUpdate book.problem.side key update
left_sound v book kept key update suits sound = subst (λ (b : Board). IsSoundUpdate b.side key update) suits.problem sound

-- The note that it posts answers the port's problem.
pub post_sound : (v : WorkerView) (book : Book) (note : Derivation) → Suits v book → IsAnswer v.task note → IsAnswer (task_for book.problem 1) note
post_sound v book note suits sound = record {
  valid = sound.valid;
  closed = sound.closed;
  about = sound.about ∙ suits.problem;
  same_attacker = sound.same_attacker ∙ ap (λ (b : Board). b.side) suits.problem;
}

-- 2. WHICH ANSWERS MAY COME.

-- A visit comes where the worker has fewer than a billion.
pub visit_may : (v : WorkerView) (before after : Book) (draw : Draw) → Suits v before → IsBooked (Draws, Some (Drew draw)) before after
    → MayAnswer v.task v.state Draws (Drew draw)
visit_may v before after (Go number) suits booked =
    let more = booked.visits in
    let most = booked.most suits.most in
    let visits = suits.visits in
    omega (arith, more, most, visits)
visit_may v before after Done suits booked = tt
visit_may v before after AllDrawn suits booked = tt

-- What is shown may be shown on the worker's path.
pub shown_may : (v : WorkerView) (book : Book) (key : Key) (path : List Key) (seen : Seen) → Suits v book → path ≡ path_of v.task (asked v.state).frames
    → MayShow book.problem.side key path seen → MayAnswer v.task v.state (Look key) (Looked seen)
shown_may v book key path seen suits e may =
    subst (λ (p : List Key). MayShow (attacker_in v.task) key p seen) e (subst (λ (b : Board). MayShow b.side key path seen) (sym suits.problem) may)

-- So it fits the worker that was asked.
pub answer_fits : (v m : WorkerView) (q : Request) (a : Reply) → q ≡ asks v.state → m ≡ once_asked v → MayAnswer v.task v.state q a → Fits m.task m.state a
answer_fits v m q a e em may =
    subst (λ (z : WorkerView). Fits z.task z.state a) (sym em) (may_fits v.task v.state a (subst (λ (z : Request). MayAnswer v.task v.state z a) e may))

-- 3. ONE REQUEST.

going_asked : (going : Bool) (st : Stage) → Going going st → Going going (asked_at st)
going_asked going st (inl goes) = inl goes
going_asked going st (inr winding) = inr (winding.0, ap asked_at winding.1)

-- What the port did for a path is done for the path of the worker that asked, where it is that.
pub on_path : {P : Type 0} (turn : P → List Key → Request → Option Reply → P → Type 0) (pa pb : P) (q : Request) (a : Option Reply) (path : List Key) (v m : WorkerView)
    → path ≡ path_of m.task m.state.frames → m ≡ once_asked v → turn pa path q a pb → turn pa (path_of v.task v.state.frames) q a pb
on_path {P} turn pa pb q a path v m e em t = subst (λ (z : List Key). turn pa z q a pb) (e ∙ ap (λ (z : WorkerView). path_of z.task z.state.frames) em) t

-- A request that was answered.
pub turned_by : {P : Type 0} (turn : P → List Key → Request → Option Reply → P → Type 0) (book : P → Book) (pa pb : P) (v w m : WorkerView) (q : Request) (a : Reply)
    → q ≡ asks v.state → m ≡ once_asked v → turn pa (path_of v.task v.state.frames) q (Some a) pb → IsBooked (q, Some a) (book pa) (book pb) → Suits v (book pa) → w.task ≡ m.task
    → ((log : List Exchange) (s : State) → Leads m.task log s → m.state ≡ asked s → Leads m.task (log ++ (asks s, Some a) ∷ []) w.state)
    → ((s : State) → m.state ≡ asked s → Happens m.task s (Told (asks s) a) w.state) → LeadsTo m.task m.state a w.state
    → ((words : Words) (word : ℕ) → own_slots words w.state.frames word + leaves words (asks m.state, Some a) word
    ≡ own_slots words m.state.frames word + enters words (asks m.state, Some a) word)
    → own_size w.state.frames + leaves_some (asks m.state, Some a) ≡ own_size m.state.frames + enters_some (asks m.state, Some a)
    → w.state.visits ≡ m.state.visits + visits_in a → w.state.claims ≡ m.state.claims + rooms_in a → to_come w.state < to_come m.state → Turned turn book pa pb v w (q, Some a)
turned_by turn book pa pb v w m q a eq em t booked suits task log happens leads slots sizes visits claims less =
    let s : State = v.state in
    let b : Book = book pa in
    let d : Book = book pb in
    let ms : m.state ≡ asked s = ap (λ (z : WorkerView). z.state) em in
    let mt : m.task ≡ v.task = ap (λ (z : WorkerView). z.task) em in
    let wt : w.task ≡ v.task = task ∙ mt in
    let f1 : m.state.frames ≡ s.frames = ap (λ (z : State). z.frames) ms in
    let v1 : m.state.visits ≡ s.visits = ap (λ (z : State). z.visits) ms in
    let c1 : m.state.claims ≡ s.claims = ap (λ (z : State). z.claims) ms in
    let st : m.state.stage ≡ asked_at s.stage = ap (λ (z : State). z.stage) ms in
    let words : Words = b.words in
    let own : (word : ℕ) → own_slots words w.state.frames word + leaves words (q, Some a) word ≡ own_slots words s.frames word + enters words (q, Some a) word =
    λ x.
    let move = slots words x in
    let same = asked_same words s a x in
    let o : own_slots words m.state.frames x ≡ own_slots words s.frames x = ap (λ (z : List FrameView). own_slots words z x) f1 in
    let i : enters words (asks m.state, Some a) x ≡ enters words (q, Some a) x =
    ap (λ (z : State). enters words (asks z, Some a) x) ms ∙ (same.0 ∙ ap (λ (z : Request). enters words (z, Some a) x) (sym eq)) in
    let l : leaves words (asks m.state, Some a) x ≡ leaves words (q, Some a) x =
    ap (λ (z : State). leaves words (asks z, Some a) x) ms ∙ (same.1 ∙ ap (λ (z : Request). leaves words (z, Some a) x) (sym eq)) in
    omega (arith, move, o, i, l) in
    let size : own_size w.state.frames + leaves_some (q, Some a) ≡ own_size s.frames + enters_some (q, Some a) =
    let same = asked_same words s a 0 in
    let o : own_size m.state.frames ≡ own_size s.frames = ap own_size f1 in
    let i : enters_some (asks m.state, Some a) ≡ enters_some (q, Some a) =
    ap (λ (z : State). enters_some (asks z, Some a)) ms ∙ (same.2 ∙ ap (λ (z : Request). enters_some (z, Some a)) (sym eq)) in
    let l : leaves_some (asks m.state, Some a) ≡ leaves_some (q, Some a) =
    ap (λ (z : State). leaves_some (asks z, Some a)) ms ∙ (same.3 ∙ ap (λ (z : Request). leaves_some (z, Some a)) (sym eq)) in
    omega (arith, sizes, o, i, l) in
    let few : enters_some (q, Some a) ≤ entering s.stage =
    subst (λ (z : Request). enters_some (z, Some a) ≤ entering s.stage) (sym eq) (enters_few a s.stage s.frames) in
    let entered : entering w.state.stage ≤ visits_in a = enters_by_visit m.task m.state m.state.stage a w.state leads in
    let gave : d.visits ≡ b.visits + visits_in a = booked.visits in
    let room : d.rooms ≡ b.rooms + rooms_in a = booked.rooms in
    let asks_this : Happens v.task s (Told q a) w.state =
    subst (λ (z : Request). Happens v.task s (Told z a) w.state) (sym eq) (subst (λ (z : Task). Happens z s (Told (asks s) a) w.state) mt (happens s ms)) in
    let held : (word : ℕ) → d.held word + own_slots words s.frames word ≡ b.held word + own_slots words w.state.frames word =
    λ x. let o = own x in let h = booked.held x in omega (arith, o, h) in
    let all : d.size + own_size s.frames ≡ b.size + own_size w.state.frames = let h = booked.size in omega (arith, size, h) in
    let costs : to_come m.state ≡ to_come s = ap to_come ms ∙ asked_costs s in
    record {
      suits = record {
        problem = ap (λ (z : Task). z.problem) wt ∙ (suits.problem ∙ sym booked.problem);
        going = going_after m.task m.state m.state.stage a w.state b.going d.going leads
            (subst (Going b.going) (sym st) (going_asked b.going s.stage suits.going)) booked.going;
        held = λ x.
            let h = held x in
            let r = suits.held x in
            let z : own_slots d.words w.state.frames x ≡ own_slots words w.state.frames x = ap (λ (ws : Words). own_slots ws w.state.frames x) booked.words in
            omega (arith, h, r, z);
        some = (let r = suits.some in omega (arith, all, r));
        visits = (let r = suits.visits in omega (arith, visits, v1, gave, r));
        size = (let r = suits.size in let h = booked.size in omega (arith, r, h, few, entered, gave));
        most = booked.most suits.most;
      };
      went = record {
        port = (pb, w.state, t, asks_this, (refl, refl));
        task = wt;
        log = λ l h. subst (λ (z : Request). Leads v.task (l ++ (z, Some a) ∷ []) w.state) (sym eq)
            (subst (λ (z : Task). Leads z (l ++ (asks s, Some a) ∷ []) w.state) mt (log l s (subst (λ (z : Task). Leads z l s) (sym mt) h) ms));
      };
      others = record { words = booked.words; held = held; size = all; visits = omega (arith, visits, v1, gave); rooms = omega (arith, claims, c1, room) };
      less = omega (arith, costs, less);
    }

-- A look that was refused memory.
pub turned_dark : {P : Type 0} (turn : P → List Key → Request → Option Reply → P → Type 0) (book : P → Book) (pa pb : P) (v w m : WorkerView) (key : Key)
    → Look key ≡ asks v.state → m ≡ once_asked v → turn pa (path_of v.task v.state.frames) (Look key) None pb → IsBooked (Look key, None) (book pa) (book pb) → Suits v (book pa)
    → w ≡ record { task = m.task; state = starve m.state; waiting = false }
    → ((log : List Exchange) (s : State) → Leads m.task log s → m.state ≡ asked s → IsLooking s.stage → Leads m.task (log ++ (asks s, None) ∷ []) w.state)
    → IsLeftAlone m.state w.state → Turned turn book pa pb v w (Look key, None)
turned_dark turn book pa pb v w m key eq em t booked suits ew dark alone =
    let s : State = v.state in
    let b : Book = book pa in
    let d : Book = book pb in
    let ms : m.state ≡ asked s = ap (λ (z : WorkerView). z.state) em in
    let mt : m.task ≡ v.task = ap (λ (z : WorkerView). z.task) em in
    let wt : w.task ≡ v.task = ap (λ (z : WorkerView). z.task) ew ∙ mt in
    let ws : w.state ≡ starve (asked s) = ap (λ (z : WorkerView). z.state) ew ∙ ap starve ms in
    let f1 : m.state.frames ≡ s.frames = ap (λ (z : State). z.frames) ms in
    let v1 : m.state.visits ≡ s.visits = ap (λ (z : State). z.visits) ms in
    let c1 : m.state.claims ≡ s.claims = ap (λ (z : State). z.claims) ms in
    let at : IsLooking s.stage = looking_at key s.stage s.frames eq in
    let words : Words = b.words in
    let own : (word : ℕ) → own_slots words w.state.frames word ≡ own_slots words s.frames word =
    λ x. alone.slots words x ∙ ap (λ (z : List FrameView). own_slots words z x) f1 in
    let size : own_size w.state.frames ≡ own_size s.frames = alone.size ∙ ap own_size f1 in
    let winds : w.state.stage ≡ Winding NoMemory = ap (λ (z : State). z.stage) ws ∙ starves_wind s at in
    let entered : entering w.state.stage ≡ 0 = ap entering winds in
    let gave : d.visits ≡ b.visits + 0 = booked.visits in
    let now : d.size + 0 ≡ b.size + 0 = booked.size in
    let same : (word : ℕ) → d.held word + 0 ≡ b.held word + 0 = booked.held in
    let visits : w.state.visits ≡ m.state.visits = alone.visits in
    let claims : w.state.claims ≡ m.state.claims = alone.claims in
    let room : d.rooms ≡ b.rooms + 0 = booked.rooms in
    let asks_this : Happens v.task s (Dark (Look key)) w.state =
    subst (λ (z : Request). Happens v.task s (Dark z) w.state) (sym eq) (refl, at, ws ∙ starve_now true s) in
    let costs : to_come w.state ≡ to_come (starve (asked s)) = ap to_come ws in
    let less : to_come (starve (asked s)) < to_come s = starves_less s at in
    record {
      suits = record {
        problem = ap (λ (z : Task). z.problem) wt ∙ (suits.problem ∙ sym booked.problem);
        going = inr (NoMemory, winds);
        held = λ x.
            let o = own x in
            let h = same x in
            let r = suits.held x in
            let z : own_slots d.words w.state.frames x ≡ own_slots words w.state.frames x = ap (λ (ws : Words). own_slots ws w.state.frames x) booked.words in
            omega (arith, o, h, r, z);
        some = (let r = suits.some in omega (arith, size, now, r));
        visits = (let r = suits.visits in omega (arith, visits, v1, gave, r));
        size = (let r = suits.size in omega (arith, r, now, entered, gave));
        most = booked.most suits.most;
      };
      went = record {
        port = (pb, w.state, t, asks_this, (refl, refl));
        task = wt;
        log = λ l h. subst (λ (z : Request). Leads v.task (l ++ (z, None) ∷ []) w.state) (sym eq)
            (subst (λ (z : Task). Leads z (l ++ (asks s, None) ∷ []) w.state) mt
            (dark l s (subst (λ (z : Task). Leads z l s) (sym mt) h) ms at));
      };
      others = record {
        words = booked.words;
        held = λ x. let o = own x in let h = same x in omega (arith, o, h);
        size = omega (arith, size, now);
        visits = omega (arith, visits, v1, gave);
        rooms = omega (arith, claims, c1, room);
      };
      less = omega (arith, costs, less);
    }

-- 4. MANY REQUESTS.

-- No request was made.
pub went_none : {P : Type 0} (turn : P → List Key → Request → Option Reply → P → Type 0) (p : P) (v : WorkerView) → WentBy turn p p v v []
went_none turn p v = record {
  port = (refl, refl);
  task = refl;
  log = λ l h. subst (λ (z : List Exchange). Leads v.task z v.state) (sym (append-nil l)) h;
}

-- What the port holds beside the worker's own slots is what it was.
pub keeps_none : (v : WorkerView) (book : Book) → KeepsOthers v v book book
keeps_none v book = record { words = refl; held = λ x. refl; size = refl; visits = refl; rooms = refl }

went_then : {P : Type 0} (turn : P → List Key → Request → Option Reply → P → Type 0) (task : Task) (a m b : P) (s t u : State) (es fs : List Exchange)
    → Went turn task a s es m t → Went turn task m t fs b u → Went turn task a s (es ++ fs) b u
went_then {P} turn task a m b s t u [] fs h k =
    subst (λ (z : P). Went turn task z s fs b u) (sym h.0) (subst (λ (z : State). Went turn task m z fs b u) (sym h.1) k)
went_then {P} turn task a m b s t u (e ∷ es) fs h k = (h.0, h.1, h.2, h.3, went_then turn task h.0 m b h.1 t u es fs h.4 k)

-- One run goes on behind the other.
pub went_on : {P : Type 0} (turn : P → List Key → Request → Option Reply → P → Type 0) (p0 p1 p2 : P) (w0 w1 w2 : WorkerView) (es fs : List Exchange)
    → WentBy turn p0 p1 w0 w1 es → WentBy turn p1 p2 w1 w2 fs → WentBy turn p0 p2 w0 w2 (es ++ fs)
went_on turn p0 p1 p2 w0 w1 w2 es fs one two = record {
  port = went_then turn w0.task p0 p1 p2 w0.state w1.state w2.state es fs one.port
      (subst (λ (z : Task). Went turn z p1 w1.state fs p2 w2.state) one.task two.port);
  task = two.task ∙ one.task;
  log = λ l h. subst (λ (z : List Exchange). Leads w0.task z w2.state) (append_assoc l es fs)
      (subst (λ (z : Task). Leads z ((l ++ es) ++ fs) w2.state) one.task
      (two.log (l ++ es) (subst (λ (z : Task). Leads z (l ++ es) w1.state) (sym one.task) (one.log l h))));
}

-- And keeps what the other kept.
pub keeps_on : (w0 w1 w2 : WorkerView) (b0 b1 b2 : Book) → KeepsOthers w0 w1 b0 b1 → KeepsOthers w1 w2 b1 b2 → KeepsOthers w0 w2 b0 b2
keeps_on w0 w1 w2 b0 b1 b2 one two = record {
  words = two.words ∙ one.words;
  held = λ x.
      let h = one.held x in
      let j = subst (λ (ws : Words). b2.held x + own_slots ws w1.state.frames x ≡ b1.held x + own_slots ws w2.state.frames x) one.words (two.held x) in
      omega (arith, h, j);
  size = (let h = one.size in let j = two.size in omega (arith, h, j));
  visits = (let h = one.visits in let j = two.visits in omega (arith, h, j));
  rooms = (let h = one.rooms in let j = two.rooms in omega (arith, h, j));
}

-- A worker to which no request is open stands by each log that leads to it.
pub reached_by : (w : WorkerView) (log : List Exchange) → w.waiting ≡ false → Leads w.task log w.state → IsReached w log
reached_by w log idle leads = record { state = w.state; leads = leads; now = sym (ap (λ (b : Bool). now_at b w.state) idle) }

-- So with what it was asked and told till it ended, each log before is a visit log.
pub whole_on : {P : Type 0} (turn : P → List Key → Request → Option Reply → P → Type 0) (p0 p1 : P) (w0 w1 : WorkerView) (events : List Exchange) (end : WorkEnd)
    → WentBy turn p0 p1 w0 w1 events → w1.waiting ≡ false → end_of w1.state ≡ Some end
    → ((log : List Exchange) (end : WorkEnd) → IsReached w1 log → end_of w1.state ≡ Some end → IsVisitLog w1.task log end)
    → (log : List Exchange) → Leads w0.task log w0.state → IsVisitLog w0.task (log ++ events) end
whole_on turn p0 p1 w0 w1 events end went idle ended whole log leads =
    let on : Leads w0.task (log ++ events) w1.state = went.log log leads in
    let here : Leads w1.task (log ++ events) w1.state = subst (λ (z : Task). Leads z (log ++ events) w1.state) (sym went.task) on in
    subst (λ (z : Task). IsVisitLog z (log ++ events) end) went.task (whole (log ++ events) end (reached_by w1 (log ++ events) idle here) ended)

-- A worker that hasn't ended doesn't ask for its end.
pub no_end : {o : Option WorkEnd} {end : WorkEnd} → None ≡ o → o ≡ Some end → ⊥
no_end {o} {end} none some = let e : None ≡ Some end = none ∙ some in cc
