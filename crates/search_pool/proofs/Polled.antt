-- A stop is polled for each visit that is drawn.
use Rattle.std.proofs.Common.{◌≡◌, ◌≤◌, ◌<◌, ◌+◌, ◌-◌, ◌^◌, ◌∙◌, inl, inr, ℕ, Bool, true, false, List, [], ◌∷◌, min, arith, refl, sym, ap, subst}
use Rattle.std.specs.Prelude.{if◌then◌else◌}
use Rattle.board_core.specs.Board.{Board}
use Rattle.notes.specs.declared.words.Draw.TheVariants.{Go, Done, Spent as AllDrawn}
use Rattle.notes.specs.declared.words.Kept.{Kept}
use Rattle.notes.specs.declared.words.RoomAnswer.TheVariants.{Room, NoRoom as Full}
use Rattle.notes.specs.declared.words.Seen.{Seen}
use Rattle.search_gate.specs.Polls.{IsPolledForEach}
use Rattle.search_gate.specs.Stop.{Signal, one_more}
use Rattle.search_limits.specs.Sizes.{SettingsView}
use Rattle.visit_log.specs.declared.parts.Left.{Left}
use Rattle.visit_log.specs.declared.parts.Left.TheVariants.{Solved, Open}
use Rattle.visit_log.specs.declared.parts.Stage.{Stage}
use Rattle.visit_log.specs.declared.parts.Stage.TheVariants.{Polling, Drawing, Entering, Looking, Claiming, Leaving, Posting, Winding}
use Rattle.visit_log.specs.declared.words.Reply.{Reply}
use Rattle.visit_log.specs.declared.words.Reply.TheVariants.{Poll as Polled, Draw as Drew, Claim as Claimed, Look as Looked, Enter as Entered, Leave as LeftIt, Post as PostedIt}
use Rattle.visit_log.specs.Counts.{visits_in}
use Rattle.visit_log.specs.Frame.{Task, FrameView, task_for}
use Rattle.visit_log.specs.Laws.{StarvingMovesNothing, VisitsMove}
use Rattle.visit_log.specs.Machine.{State, GoesOn, LeadsAt, Makes, Opens, Returns, Sees, Settles, asks_at, rest_of, start, starve_at, starve_winding}
use Rattle.visit_log.specs.Run.{Happening, Told, Dark, Starved, Runs, WorkerView, events}
use Rattle.visit_log.specs.Visit.{Exchange}
use Rattle.worker_core.specs.Machine.{is_poll}
use Rattle.lone_port.specs.Lone.{LonePortView}
use Rattle.search_pool.specs.End.{polls_after}
use Rattle.search_pool.specs.Inside.{IsWatched, HadAll}

-- 1. ONE ANSWER.

-- how many visits are still to be drawn for which a stop was polled
abbrev to_draw : Stage → ℕ
to_draw (Drawing entry) = 1
to_draw (Polling entry) = 0
to_draw Entering = 0
to_draw (Looking place) = 0
to_draw Claiming = 0
to_draw (Leaving left) = 0
to_draw (Posting posted) = 0
to_draw (Winding end) = 0

-- 1 for yes
abbrev once : Bool → ℕ
once true = 1
once false = 0

settled : (task : Task) (f g : FrameView) (stage : Stage) → Settles task f stage g → to_draw stage ≡ 0
settled task f g (Looking place) h = refl
settled task f g Claiming h = refl
settled task f g (Leaving left) h = refl
settled task f g (Polling entry) h = refl
settled task f g (Drawing entry) h = absurd h
settled task f g Entering h = refl
settled task f g (Posting posted) h = refl
settled task f g (Winding end) h = refl

went_on : (task : Task) (s t : State) (f : FrameView) (fs : List FrameView) → GoesOn task s f fs t → to_draw t.stage ≡ 0
went_on task s t f fs h = settled task f h.next t.stage h.settles

-- so is what comes to this state
is_at : (s t : State) (draws : ℕ) → to_draw s.stage ≡ draws → t ≡ s → to_draw t.stage ≡ draws
is_at s t draws h e = ap (λ (z : State). to_draw z.stage) e ∙ h

opened_so : (task : Task) (s t : State) (fs : List FrameView) (kept : Kept) → Opens task s fs kept t → to_draw t.stage ≡ 0
opened_so task s t [] kept h = absurd h
opened_so task s t (f ∷ fs) kept h = elim h [
  | inl listed ↦ went_on task s t _ fs listed.2
  | inr lost ↦ is_at _ t 0 refl lost
]

seen_so : (task : Task) (s t : State) (place : ℕ) (fs : List FrameView) (seen : Seen) → Sees task s place fs seen t → to_draw t.stage ≡ 0
seen_so task s t place [] seen h = absurd h
seen_so task s t place (f ∷ fs) seen h = elim h [
  | inl sight ↦ went_on task s t _ fs sight.5
  | inr lost ↦ is_at _ t 0 refl lost.1
]

made_so : (task : Task) (s t : State) (fs : List FrameView) → Makes task s fs t → to_draw t.stage ≡ 0
made_so task s t [] h = absurd h
made_so task s t (f ∷ fs) h = elim h [
  | inl made ↦ is_at _ t 0 refl made.2
  | inr refused ↦ is_at _ t 0 refl refused.2
]

returned_so : (task : Task) (s t : State) (fs : List FrameView) (left : Left) → Returns task s fs left t → to_draw t.stage ≡ 0
returned_so task s t [] (Solved note) h = is_at _ t 0 refl h
returned_so task s t [] (Open numbers) h = absurd h
returned_so task s t (g ∷ gs) left h = went_on task s t _ gs h.2

-- an answer gives a visit only where a stop was polled for it
answered : (task : Task) (s t : State) (stage : Stage) (fs : List FrameView) (answer : Reply) → LeadsAt task s stage answer t
    → visits_in answer + to_draw t.stage ≤ to_draw stage + once (is_poll (asks_at stage fs))
answered task s t (Polling entry) fs (Polled true) h = let e = is_at _ t 0 refl h in omega (arith, e)
answered task s t (Polling entry) fs (Polled false) h = let e = is_at _ t 1 refl h in omega (arith, e)
answered task s t (Drawing entry) fs (Drew (Go number)) h = elim h [
  | inl begun ↦ let e = is_at _ t 0 refl begun.1 in omega (arith, e)
  | inr lost ↦ let e = is_at _ t 0 refl lost in omega (arith, e)
]
answered task s t (Drawing entry) fs (Drew Done) h = let e = is_at _ t 0 refl h in omega (arith, e)
answered task s t (Drawing entry) fs (Drew AllDrawn) h = let e = is_at _ t 0 refl h in omega (arith, e)
answered task s t Entering fs (Entered kept) h = let e = opened_so task s t s.frames kept h in omega (arith, e)
answered task s t (Looking place) fs (Looked seen) h = let e = seen_so task s t place s.frames seen h in omega (arith, e)
answered task s t Claiming fs (Claimed Full) h = let e = is_at _ t 0 refl h in omega (arith, e)
answered task s t Claiming fs (Claimed (Room room)) h = let e = made_so task s t s.frames h in omega (arith, e)
answered task s t (Leaving left) fs LeftIt h = let e = returned_so task s t (rest_of s.frames) left h in omega (arith, e)
answered task s t (Posting posted) fs PostedIt h = let e = is_at _ t 0 refl h in omega (arith, e)
answered task s t (Winding end) fs LeftIt h = let e = is_at _ t 0 refl h in omega (arith, e)
answered task s t stage fs answer h = absurd h

-- whoever is starved draws nothing more
starved_so : (s : State) (stage : Stage) → to_draw (starve_at s stage).stage ≡ 0
starved_so s (Winding end) = by_frames s.frames
  where
    by_frames : (fs : List FrameView) → to_draw (starve_winding s end fs).stage ≡ 0
    by_frames [] = refl
    by_frames (f ∷ fs) = refl
starved_so s (Polling entry) = refl
starved_so s (Drawing entry) = refl
starved_so s Entering = refl
starved_so s (Looking place) = refl
starved_so s Claiming = refl
starved_so s (Leaving left) = refl
starved_so s (Posting posted) = refl

-- 2. ONE AFTER THE OTHER.

more_by : (b : Bool) (log : List Exchange) (n : ℕ) → ((m : ℕ) → polls_after log m < 2 ^ 64 - 1 → m ≤ polls_after log m)
    → polls_after log (if b then one_more n else n) < 2 ^ 64 - 1 → n ≤ polls_after log (if b then one_more n else n)
more_by true log n rest low =
    let h : min (n + 1) (2 ^ 64 - 1) ≤ polls_after log (one_more n) = rest (one_more n) low in
    omega (arith, h, low)
more_by false log n rest low = rest n low

-- polls are only added
more : (log : List Exchange) (n : ℕ) → polls_after log n < 2 ^ 64 - 1 → n ≤ polls_after log n
more [] n low = omega arith
more (x ∷ log) n low = more_by (is_poll x.0) log n (more log) low

counted : (b : Bool) (n : ℕ) → (if b then one_more n else n) < 2 ^ 64 - 1 → (if b then one_more n else n) ≡ n + once b
counted true n low = omega (arith, low)
counted false n low = omega arith

-- the polls of a log, of so many before, are as many more as visits are given in it, or still more
polled_for : VisitsMove → StarvingMovesNothing → (task : Task) (s t : State) (happenings : List Happening) (n : ℕ) → Runs task s happenings t
    → polls_after (events happenings) n < 2 ^ 64 - 1
    → n + (t.visits + to_draw t.stage) ≤ polls_after (events happenings) n + (s.visits + to_draw s.stage)
polled_for move starving task s t [] n run low =
    subst (λ (z : State). n + (z.visits + to_draw z.stage) ≤ n + (s.visits + to_draw s.stage)) run (omega arith)
polled_for move starving task s t (Told request answer ∷ happenings) n run low =
    let u : State = run.0 in
    let next : ℕ = if is_poll request then one_more n else n in
    let rest = polled_for move starving task u t happenings next run.2 low in
    let fewer = more (events happenings) next low in
    let now = counted (is_poll request) n (omega (arith, fewer, low)) in
    let visits = (move task s u answer run.1.1 run.1.2).0 in
    let drawn = answered task s u s.stage s.frames answer run.1.2 in
    let same = ap (λ q. once (is_poll q)) run.1.0 in
    omega (arith, rest, now, visits, drawn, same)
polled_for move starving task s t (Dark request ∷ happenings) n run low =
    let u : State = run.0 in
    let next : ℕ = if is_poll request then one_more n else n in
    let rest = polled_for move starving task u t happenings next run.2 low in
    let fewer = more (events happenings) next low in
    let now = counted (is_poll request) n (omega (arith, fewer, low)) in
    let visits = ap (λ (z : State). z.visits) run.1.2 ∙ (starving s).visits in
    let none = is_at _ u 0 (starved_so s s.stage) run.1.2 in
    omega (arith, rest, now, visits, none)
polled_for move starving task s t (Starved ∷ happenings) n run low =
    let u : State = run.0 in
    let rest = polled_for move starving task u t happenings n run.2 low in
    let visits = ap (λ (z : State). z.visits) run.1 ∙ (starving s).visits in
    let none = is_at _ u 0 (starved_so s s.stage) run.1 in
    omega (arith, rest, visits, none)

-- 3. AT THE END.

-- the stop of a search was polled for each visit that was drawn
pub polled_each : VisitsMove → StarvingMovesNothing → (first : LonePortView) (problem : Board) (s : SettingsView) (before after : Signal) (port : LonePortView) (worker : WorkerView)
    → IsWatched first problem s before after port worker → HadAll port worker → IsPolledForEach 0 port.desk.drawn before after
polled_each move starving first problem s before after port worker way had = record {
  polled = record { armed = way.2.armed; arms = way.2.arms; early = way.2.early };
  each = λ low.
      let leads = way.2.leads in
      let polls : after.polls ≡ polls_after (events leads.happenings) before.polls =
      way.2.polls ∙ ap (λ (log : List Exchange). polls_after log before.polls) (sym leads.logged) in
      let enough = polled_for move starving (task_for problem 1) (start (task_for problem 1)) worker.state leads.happenings before.polls leads.runs
      (omega (arith, low, polls)) in
      let drawn = had.0 in
      omega (arith, polls, enough, drawn);
}
