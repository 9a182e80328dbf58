-- A worker has no more visits going on, slots or room than it has drawn visits.
use Rattle.std.proofs.Common.{◌≡◌, ◌≤◌, ◌+◌, ℕ, suc, Bool, true, false, List, [], ◌∷◌, map, length, arith, refl, sym, ap, subst, inl, inr}
use Rattle.std.proofs.lemmas.List.{length-map}
use Rattle.std.specs.Prelude.{Option, Some, None, is_some, if◌then◌else◌}
use Rattle.search_limits.specs.declared.expansions.TheConstants.{MOST_EXPANSIONS}
use Rattle.notes.specs.declared.words.Kept.{Kept}
use Rattle.notes.specs.declared.words.Kept.TheVariants.{Slot, Unkept}
use Rattle.notes.specs.declared.words.Seen.{Seen}
use Rattle.notes.specs.declared.words.Draw.TheVariants.{Go, Done, Spent as AllDrawn}
use Rattle.notes.specs.declared.words.RoomAnswer.TheVariants.{Room, NoRoom as Full}
use Rattle.visit_log.specs.declared.parts.Left.{Left}
use Rattle.visit_log.specs.declared.parts.Left.TheVariants.{Solved, Open}
use Rattle.visit_log.specs.declared.parts.Stage.{Stage}
use Rattle.visit_log.specs.declared.parts.Stage.TheVariants.{Polling, Drawing, Entering, Looking, Claiming, Leaving, Posting, Winding}
use Rattle.visit_log.specs.declared.words.WorkEnd.{WorkEnd}
use Rattle.visit_log.specs.declared.words.WorkEnd.TheVariants.{NoMemory}
use Rattle.visit_log.specs.declared.words.Reply.{Reply}
use Rattle.visit_log.specs.declared.words.Reply.TheVariants.{Poll as Polled, Draw as Drew, Claim as Claimed, Look as Looked, Enter as Entered, Leave as LeftIt, Post as PostedIt}
use Rattle.visit_log.specs.Frame.{Task, FrameView}
use Rattle.visit_log.specs.Machine.{State, at_stage, start, bare, entered_ones, wind, starve_at, starve_winding, GoesOn, Opens, Sees, Makes, Returns, keep, one_visit, one_claim, rest_of, LeadsAt, FitsAt}
use Rattle.visit_log.specs.Run.{Happening, Told, Dark, Starved, Happens, Runs}
use Rattle.visit_log.specs.Counts.{slots_in, own_size}
use Rattle.visit_log.specs.Laws.{WorkersAreCounted}

-- 1. LENGTHS.

-- No more visits are wound up than were going on.
pub length-entered : (fs : List FrameView) → length (entered_ones fs) ≤ length fs
length-entered [] = omega arith
length-entered (f ∷ fs) = by_kept (is_some f.kept)
  where
    by_kept : (b : Bool) → length (if b then bare f ∷ map bare fs else map bare fs) ≤ suc (length fs)
    by_kept true = omega (arith, length-map fs bare)
    by_kept false = omega (arith, length-map fs bare)

-- no more slots are entered than visits are going on
pub size_length : (fs : List FrameView) → own_size fs ≤ length fs
size_length [] = omega arith
size_length (f ∷ fs) = let one = by_kept f.kept in omega (arith, one, size_length fs)
  where
    by_kept : (o : Option Kept) → slots_in o ≤ 1
    by_kept None = omega arith
    by_kept (Some Unkept) = omega arith
    by_kept (Some (Slot number)) = omega arith

rest_length : (fs : List FrameView) → length (rest_of fs) ≤ length fs
rest_length [] = omega arith
rest_length (f ∷ fs) = omega arith

-- 2. THE DRAWN VISITS COVER IT. Each visit that is going on may still ask for room, but for one
-- that has asked already.

-- how many visits may still ask for room
abbrev unclaimed : Stage → List FrameView → ℕ
unclaimed (Leaving (Solved note)) fs = length (rest_of fs)
unclaimed (Leaving (Open numbers)) fs = length fs
unclaimed (Polling entry) fs = length fs
unclaimed (Drawing entry) fs = length fs
unclaimed Entering fs = length fs
unclaimed (Looking place) fs = length fs
unclaimed Claiming fs = length fs
unclaimed (Posting posted) fs = 0
unclaimed (Winding end) fs = 0

unclaimed_length : (st : Stage) (fs : List FrameView) → unclaimed st fs ≤ length fs
unclaimed_length (Leaving (Solved note)) fs = rest_length fs
unclaimed_length (Leaving (Open numbers)) fs = omega arith
unclaimed_length (Polling entry) fs = omega arith
unclaimed_length (Drawing entry) fs = omega arith
unclaimed_length Entering fs = omega arith
unclaimed_length (Looking place) fs = omega arith
unclaimed_length Claiming fs = omega arith
unclaimed_length (Posting posted) fs = omega arith
unclaimed_length (Winding end) fs = omega arith

-- the drawn visits cover those that are going on, and the room that was asked for and may still be
record IsCovered (st : Stage) (fs : List FrameView) (visits room : ℕ) : Type 0 where
  pub frames : length fs ≤ visits
  pub claims : room + unclaimed st fs ≤ visits
  pub most : visits ≤ MOST_EXPANSIONS

-- so it is in a state
abbrev Covers : State → Type 0
Covers s = IsCovered s.stage s.frames s.visits s.claims

winds_covered : (s t : State) (end : WorkEnd) → length s.frames ≤ s.visits → s.claims ≤ s.visits → s.visits ≤ MOST_EXPANSIONS → t ≡ wind s end
    → Covers t
winds_covered s t end frames claims most e = let fewer = length-entered s.frames in
    subst Covers (sym e) (record { frames = omega (arith, fewer, frames); claims = omega (arith, claims); most = most })

goes_covered : (task : Task) (s t : State) (f : FrameView) (fs : List FrameView) → s.claims + suc (length fs) ≤ s.visits → s.visits ≤ MOST_EXPANSIONS
    → GoesOn task s f fs t → Covers t
goes_covered task s t f fs claims most on = let fewer = unclaimed_length t.stage (on.next ∷ fs) in
    subst Covers (sym on.is) (record { frames = omega (arith, claims); claims = omega (arith, fewer, claims); most = most })

opens_covered : (task : Task) (s t : State) (fs : List FrameView) (kept : Kept) → s.claims + length fs ≤ s.visits → s.visits ≤ MOST_EXPANSIONS
    → Opens task s fs kept t → Covers t
opens_covered task s t [] kept claims most h = absurd h
opens_covered task s t (f ∷ fs) kept claims most h = elim h [
  | inl listed ↦ goes_covered task s t _ fs claims most listed.2
  | inr lost ↦ winds_covered (at_stage s Entering (keep f kept ∷ fs)) t NoMemory (omega (arith, claims)) (omega (arith, claims)) most lost
]

sees_covered : (task : Task) (s t : State) (place : ℕ) (fs : List FrameView) (seen : Seen) → s.claims + length fs ≤ s.visits → s.visits ≤ MOST_EXPANSIONS
    → Sees task s place fs seen t → Covers t
sees_covered task s t place [] seen claims most h = absurd h
sees_covered task s t place (f ∷ fs) seen claims most h = elim h [
  | inl sight ↦ goes_covered task s t _ fs claims most sight.5
  | inr lost ↦ winds_covered (at_stage s (Looking place) (f ∷ fs)) t NoMemory (omega (arith, claims)) (omega (arith, claims)) most lost.1
]

makes_covered : (task : Task) (s t : State) (fs : List FrameView) → fs ≡ s.frames → s.claims + length fs ≤ s.visits → s.visits ≤ MOST_EXPANSIONS
    → Makes task s fs t → Covers t
makes_covered task s t [] e claims most h = absurd h
makes_covered task s t (f ∷ fs) e claims most h =
    let all = ap length e in
    let rest = ap (λ (z : List FrameView). length (rest_of z)) e in
    elim h [
      | inl made ↦ subst Covers (sym made.2) (record { frames = omega (arith, all, claims); claims = omega (arith, rest, claims); most = most })
      | inr refused ↦ winds_covered (one_claim s) t _ (omega (arith, all, claims)) (omega (arith, claims)) most refused.2
    ]

returns_covered : (task : Task) (s t : State) (fs : List FrameView) (left : Left) → s.claims + length fs ≤ s.visits → s.visits ≤ MOST_EXPANSIONS
    → Returns task s fs left t → Covers t
returns_covered task s t [] (Solved note) claims most h =
    subst Covers (sym h) (record { frames = omega arith; claims = omega (arith, claims); most = most })
returns_covered task s t [] (Open numbers) claims most h = absurd h
returns_covered task s t (g ∷ gs) (Solved note) claims most h = goes_covered task s t _ gs claims most h.2
returns_covered task s t (g ∷ gs) (Open numbers) claims most h = goes_covered task s t _ gs claims most h.2

answers_covered : (task : Task) (s t : State) (st : Stage) (answer : Reply) → IsCovered st s.frames s.visits s.claims → FitsAt task s st answer
    → LeadsAt task s st answer t → Covers t
answers_covered task s t (Polling entry) (Polled true) c fits h =
    winds_covered s t _ c.frames (omega (arith, c.claims)) c.most h
answers_covered task s t (Polling entry) (Polled false) c fits h =
    subst Covers (sym h) (record { frames = c.frames; claims = c.claims; most = c.most })
answers_covered task s t (Drawing entry) (Drew (Go number)) c fits h = elim h [
  | inl begun ↦ subst Covers (sym begun.1) (record {
    frames = omega (arith, c.frames);
    claims = omega (arith, c.claims);
    most = omega (arith, fits);
  })
  | inr lost ↦ winds_covered (one_visit s) t NoMemory (omega (arith, c.frames)) (omega (arith, c.claims)) (omega (arith, fits)) lost
]
answers_covered task s t (Drawing entry) (Drew Done) c fits h = winds_covered s t _ c.frames (omega (arith, c.claims)) c.most h
answers_covered task s t (Drawing entry) (Drew AllDrawn) c fits h = winds_covered s t _ c.frames (omega (arith, c.claims)) c.most h
answers_covered task s t Entering (Entered kept) c fits h = opens_covered task s t s.frames kept c.claims c.most h
answers_covered task s t (Looking place) (Looked seen) c fits h = sees_covered task s t place s.frames seen c.claims c.most h
answers_covered task s t Claiming (Claimed Full) c fits h = winds_covered s t _ c.frames (omega (arith, c.claims)) c.most h
answers_covered task s t Claiming (Claimed (Room room)) c fits h = makes_covered task s t s.frames refl c.claims c.most h
answers_covered task s t (Leaving (Solved note)) LeftIt c fits h = returns_covered task s t (rest_of s.frames) (Solved note) c.claims c.most h
answers_covered task s t (Leaving (Open numbers)) LeftIt c fits h = let fewer = rest_length s.frames in
    returns_covered task s t (rest_of s.frames) (Open numbers) (omega (arith, fewer, c.claims)) c.most h
answers_covered task s t (Posting posted) PostedIt c fits h = winds_covered s t _ c.frames (omega (arith, c.claims)) c.most h
answers_covered task s t (Winding end) LeftIt c fits h = let fewer = rest_length s.frames in
    subst Covers (sym h) (record { frames = omega (arith, fewer, c.frames); claims = c.claims; most = c.most })
answers_covered task s t st answer c fits h = absurd h

starve_covered : (s : State) (st : Stage) → IsCovered st s.frames s.visits s.claims → Covers (starve_at s st)
starve_covered s (Winding end) c = by_frames s.frames c.frames
  where
    by_frames : (fs : List FrameView) → length fs ≤ s.visits → Covers (starve_winding s end fs)
    by_frames [] frames = record { frames = frames; claims = c.claims; most = c.most }
    by_frames (f ∷ fs) frames = record { frames = frames; claims = c.claims; most = c.most }
starve_covered s (Polling entry) c = winds_covered s _ NoMemory c.frames (omega (arith, c.claims)) c.most refl
starve_covered s (Drawing entry) c = winds_covered s _ NoMemory c.frames (omega (arith, c.claims)) c.most refl
starve_covered s Entering c = winds_covered s _ NoMemory c.frames (omega (arith, c.claims)) c.most refl
starve_covered s (Looking place) c = winds_covered s _ NoMemory c.frames (omega (arith, c.claims)) c.most refl
starve_covered s Claiming c = winds_covered s _ NoMemory c.frames (omega (arith, c.claims)) c.most refl
starve_covered s (Leaving left) c = winds_covered s _ NoMemory c.frames (omega (arith, c.claims)) c.most refl
starve_covered s (Posting posted) c = winds_covered s _ NoMemory c.frames (omega (arith, c.claims)) c.most refl

-- 3. WHEREVER IT STANDS.

happens_covered : (task : Task) (s t : State) (happening : Happening) → Covers s → Happens task s happening t → Covers t
happens_covered task s t (Told request answer) c h = answers_covered task s t s.stage answer c h.1 h.2
happens_covered task s t (Dark request) c h = subst Covers (sym h.2) (starve_covered s s.stage c)
happens_covered task s t Starved c h = subst Covers (sym h) (starve_covered s s.stage c)

runs_covered : (task : Task) (s t : State) (happenings : List Happening) → Covers s → Runs task s happenings t → Covers t
runs_covered task s t [] c run = subst Covers run c
runs_covered task s t (happening ∷ happenings) c run =
    runs_covered task run.0 t happenings (happens_covered task s run.0 happening c run.1) run.2

-- A worker has no more visits going on, no more slots and no more room than it has drawn visits.
pub workers_counted : WorkersAreCounted
workers_counted task happenings s run =
    let c = runs_covered task (start task) s happenings (record { frames = omega arith; claims = omega arith; most = omega arith }) run in
    record { slots = size_length s.frames; frames = c.frames; claims = omega (arith, c.claims); most = c.most }
