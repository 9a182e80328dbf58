-- Visits and room are those that the log gives.
use Rattle.std.proofs.Common.{◌≡◌, ◌+◌, ℕ, true, false, cond, List, [], ◌∷◌, arith, refl, sym, ap, inl, inr}
use Rattle.std.specs.Prelude.{Some, count_by}
use Rattle.std.proofs.lemmas.List.Sums.{sum_by-append}
use Rattle.notes.specs.declared.words.Kept.{Kept}
use Rattle.notes.specs.declared.words.Seen.{Seen}
use Rattle.notes.specs.declared.words.Draw.TheVariants.{Go, Done, Spent as AllDrawn}
use Rattle.notes.specs.declared.words.RoomAnswer.TheVariants.{Room, NoRoom as Full}
use Rattle.visit_log.specs.declared.parts.Entry.{Entry}
use Rattle.visit_log.specs.declared.parts.Left.{Left}
use Rattle.visit_log.specs.declared.parts.Left.TheVariants.{Solved, Open}
use Rattle.visit_log.specs.declared.parts.Stage.{Stage}
use Rattle.visit_log.specs.declared.parts.Stage.TheVariants.{Polling, Drawing, Entering, Looking, Claiming, Leaving, Posting, Winding}
use Rattle.visit_log.specs.declared.words.Request.{Request}
use Rattle.visit_log.specs.declared.words.Reply.{Reply}
use Rattle.visit_log.specs.declared.words.Reply.TheVariants.{Poll as Polled, Draw as Drew, Claim as Claimed, Look as Looked, Enter as Entered, Leave as LeftIt, Post as PostedIt}
use Rattle.visit_log.specs.Frame.{Task, FrameView}
use Rattle.visit_log.specs.Visit.{Exchange}
use Rattle.visit_log.specs.Machine.{State, start, starve, GoesOn, Opens, Sees, Makes, Returns, Begins, rest_of, LeadsAt}
use Rattle.visit_log.specs.Run.{Happening, Told, Dark, Starved, Happens, Runs, event, events}
use Rattle.visit_log.specs.Counts.{visits_in, rooms_in, gives_visit, gives_room}
use Rattle.visit_log.specs.Laws.{CountsOfLogs}
use Rattle.visit_log.proofs.Slots.{starving_alone}

-- The state has so many more visits and so much more room.
record Counts (s t : State) (more rooms : ℕ) : Type 0 where
  pub visits : t.visits ≡ s.visits + more
  pub claims : t.claims ≡ s.claims + rooms

-- What another state counts that is this one but for its stage and its visits.
counts_as : (s t u : State) (more rooms : ℕ) → t ≡ u → u.visits ≡ s.visits + more → u.claims ≡ s.claims + rooms → Counts s t more rooms
counts_as s t u more rooms e visits claims =
    let v = ap (λ (z : State). z.visits) e in
    let c = ap (λ (z : State). z.claims) e in
    record { visits = omega (arith, v, visits); claims = omega (arith, c, claims) }

-- A visit that goes on counts nothing.
goes_counts : (task : Task) (s t : State) (f : FrameView) (fs : List FrameView) → GoesOn task s f fs t → Counts s t 0 0
goes_counts task s t f fs on = counts_as s t _ 0 0 on.is (omega arith) (omega arith)

begins_counts : (task : Task) (s t : State) (entry : Entry) → Begins task s entry t → Counts s t 1 0
begins_counts task s t entry (inl begun) = counts_as s t _ 1 0 begun.1 (omega arith) (omega arith)
begins_counts task s t entry (inr lost) = counts_as s t _ 1 0 lost (omega arith) (omega arith)

opens_counts : (task : Task) (s t : State) (fs : List FrameView) (kept : Kept) → Opens task s fs kept t → Counts s t 0 0
opens_counts task s t [] kept h = absurd h
opens_counts task s t (f ∷ fs) kept (inl listed) = goes_counts task s t _ fs listed.2
opens_counts task s t (f ∷ fs) kept (inr lost) = counts_as s t _ 0 0 lost (omega arith) (omega arith)

sees_counts : (task : Task) (s t : State) (place : ℕ) (fs : List FrameView) (seen : Seen) → Sees task s place fs seen t → Counts s t 0 0
sees_counts task s t place [] seen h = absurd h
sees_counts task s t place (f ∷ fs) seen (inl sight) = goes_counts task s t _ fs sight.5
sees_counts task s t place (f ∷ fs) seen (inr lost) = counts_as s t _ 0 0 lost.1 (omega arith) (omega arith)

makes_counts : (task : Task) (s t : State) (fs : List FrameView) → Makes task s fs t → Counts s t 0 1
makes_counts task s t [] h = absurd h
makes_counts task s t (f ∷ fs) (inl made) = counts_as s t _ 0 1 made.2 (omega arith) (omega arith)
makes_counts task s t (f ∷ fs) (inr refused) = counts_as s t _ 0 1 refused.2 (omega arith) (omega arith)

returns_counts : (task : Task) (s t : State) (fs : List FrameView) (left : Left) → Returns task s fs left t → Counts s t 0 0
returns_counts task s t [] (Solved note) h = counts_as s t _ 0 0 h (omega arith) (omega arith)
returns_counts task s t [] (Open numbers) h = absurd h
returns_counts task s t (g ∷ gs) (Solved note) h = goes_counts task s t _ gs h.2
returns_counts task s t (g ∷ gs) (Open numbers) h = goes_counts task s t _ gs h.2

-- Each answer adds the visits and the room that it gives.
answers_count : (task : Task) (s t : State) (stage : Stage) (answer : Reply) → LeadsAt task s stage answer t
    → Counts s t (visits_in answer) (rooms_in answer)
answers_count task s t (Polling entry) (Polled true) h = counts_as s t _ 0 0 h (omega arith) (omega arith)
answers_count task s t (Polling entry) (Polled false) h = counts_as s t _ 0 0 h (omega arith) (omega arith)
answers_count task s t (Drawing entry) (Drew (Go number)) h = begins_counts task s t entry h
answers_count task s t (Drawing entry) (Drew Done) h = counts_as s t _ 0 0 h (omega arith) (omega arith)
answers_count task s t (Drawing entry) (Drew AllDrawn) h = counts_as s t _ 0 0 h (omega arith) (omega arith)
answers_count task s t Entering (Entered kept) h = opens_counts task s t s.frames kept h
answers_count task s t (Looking place) (Looked seen) h = sees_counts task s t place s.frames seen h
answers_count task s t Claiming (Claimed Full) h = counts_as s t _ 0 0 h (omega arith) (omega arith)
answers_count task s t Claiming (Claimed (Room room)) h = makes_counts task s t s.frames h
answers_count task s t (Leaving left) LeftIt h = returns_counts task s t (rest_of s.frames) left h
answers_count task s t (Posting posted) PostedIt h = counts_as s t _ 0 0 h (omega arith) (omega arith)
answers_count task s t (Winding end) LeftIt h = counts_as s t _ 0 0 h (omega arith) (omega arith)
answers_count task s t stage answer h = absurd h

-- What an answer gives is what its event is counted as.
gives_one : (request : Request) (answer : Reply)
    → (count_by gives_visit ((request, Some answer) ∷ []) ≡ visits_in answer) × (count_by gives_room ((request, Some answer) ∷ []) ≡ rooms_in answer)
gives_one request (Drew (Go number)) = (refl, refl)
gives_one request (Drew Done) = (refl, refl)
gives_one request (Drew AllDrawn) = (refl, refl)
gives_one request (Claimed (Room room)) = (refl, refl)
gives_one request (Claimed Full) = (refl, refl)
gives_one request (Polled stop) = (refl, refl)
gives_one request (Looked seen) = (refl, refl)
gives_one request (Entered kept) = (refl, refl)
gives_one request LeftIt = (refl, refl)
gives_one request PostedIt = (refl, refl)

-- Whatever happens adds what its event gives.
happens_counts : (task : Task) (s t : State) (happening : Happening) → Happens task s happening t
    → Counts s t (count_by gives_visit (event happening)) (count_by gives_room (event happening))
happens_counts task s t (Told request answer) h =
    let c = answers_count task s t s.stage answer h.2 in
    let g = gives_one request answer in
    record { visits = omega (arith, c.visits, g.0); claims = omega (arith, c.claims, g.1) }
happens_counts task s t (Dark request) h =
    counts_as s t (starve s) 0 0 h.2 (omega (arith, (starving_alone s).visits)) (omega (arith, (starving_alone s).claims))
happens_counts task s t Starved h =
    counts_as s t (starve s) 0 0 h (omega (arith, (starving_alone s).visits)) (omega (arith, (starving_alone s).claims))

-- Things that happen one after the other add what their events give.
runs_count : (task : Task) (s t : State) (happenings : List Happening) → Runs task s happenings t
    → Counts s t (count_by gives_visit (events happenings)) (count_by gives_room (events happenings))
runs_count task s t [] runs = counts_as s t s 0 0 (sym runs) (omega arith) (omega arith)
runs_count task s t (happening ∷ happenings) (u, happens, runs) =
    let first = happens_counts task s u happening happens in
    let later = runs_count task u t happenings runs in
    let given = sum_by-append (λ (z : Exchange). cond (gives_visit z) 1 0) (event happening) (events happenings) in
    let rooms = sum_by-append (λ (z : Exchange). cond (gives_room z) 1 0) (event happening) (events happenings) in
    record { visits = omega (arith, first.visits, later.visits, given); claims = omega (arith, first.claims, later.claims, rooms) }

-- Visits and room are those of the log.
pub counts_logged : CountsOfLogs
counts_logged task happenings s runs =
    let c = runs_count task (start task) s happenings runs in
    (omega (arith, c.visits), omega (arith, c.claims))
