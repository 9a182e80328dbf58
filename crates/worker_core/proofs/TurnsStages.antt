-- What an answer to a worker's request leads to: whether it enters next, whether more may be handed
-- out, and which answers may come.
use Rattle.std.proofs.Common.{◌≡◌, ◌⊎◌, inl, inr, ℕ, ◌≤◌, ◌<◌, List, [], ◌∷◌, arith, refl, ap, ◌∙◌, subst, Bool, true, false}
use Rattle.std.specs.Prelude.{Option, Some, None, if◌then◌else◌, slice_get}
use Rattle.search_limits.specs.declared.expansions.TheConstants.{MOST_EXPANSIONS}
use Rattle.board_core.specs.declared.keys.Key.{Key}
use Rattle.notes.specs.Derivation.{Derivation}
use Rattle.notes.specs.declared.words.Kept.{Kept}
use Rattle.notes.specs.declared.words.Kept.TheVariants.{Slot, Unkept}
use Rattle.notes.specs.declared.words.Seen.{Seen}
use Rattle.notes.specs.declared.words.Draw.TheVariants.{Go, Done, Spent as AllDrawn}
use Rattle.notes.specs.declared.words.RoomAnswer.TheVariants.{Room, NoRoom as Full}
use Rattle.notes.specs.declared.words.Update.TheVariants.{Nothing}
use Rattle.pn_numbers.specs.declared.numbers.Numbers.{Numbers}
use Rattle.visit_log.specs.declared.parts.Child.{Child}
use Rattle.visit_log.specs.declared.parts.Left.{Left}
use Rattle.visit_log.specs.declared.parts.Left.TheVariants.{Solved, Open}
use Rattle.visit_log.specs.declared.parts.Stage.{Stage}
use Rattle.visit_log.specs.declared.parts.Stage.TheVariants.{Polling, Drawing, Entering, Looking, Claiming, Leaving, Posting, Winding}
use Rattle.visit_log.specs.declared.words.WorkEnd.{WorkEnd}
use Rattle.visit_log.specs.declared.words.WorkEnd.TheVariants.{Posted, Spent, NoRoom, NoMemory, Stopped}
use Rattle.visit_log.specs.declared.words.Request.{Request}
use Rattle.visit_log.specs.declared.words.Request.TheVariants.{Poll, Draw as Draws, Claim as Claims, Look, Enter, Leave, Post}
use Rattle.visit_log.specs.declared.words.Reply.{Reply}
use Rattle.visit_log.specs.declared.words.Reply.TheVariants.{Poll as Polled, Draw as Drew, Claim as Claimed, Look as Looked, Enter as Entered, Leave as LeftIt, Post as PostedIt}
use Rattle.visit_log.specs.Frame.{Task, FrameView, attacker_in}
use Rattle.visit_log.specs.Round.{MayShow}
use Rattle.visit_log.specs.Machine.{State, at_stage, wind, starve, Settles, Opens, Sees, Makes, Returns, LeadsAt, Fits, rest_of, path_of, asks, asks_at, ask_look, ask_leave, ask_post, asked, asked_at}
use Rattle.visit_log.specs.Run.{IsLooking}
use Rattle.visit_log.specs.Counts.{Words, enters, leaves, enters_some, leaves_some, visits_in, to_come}
use Rattle.visit_log.specs.Visit.{Exchange}
use Rattle.visit_log.proofs.Offered.{length-entered}
use Rattle.worker_core.specs.Port.{ends_by, entering, Goes}

-- 1. WHETHER IT ENTERS NEXT.

entering_one : (st : Stage) → entering st ≤ 1
entering_one (Polling e) = omega arith
entering_one (Drawing e) = omega arith
entering_one Entering = omega arith
entering_one (Looking place) = omega arith
entering_one Claiming = omega arith
entering_one (Leaving left) = omega arith
entering_one (Posting posted) = omega arith
entering_one (Winding end) = omega arith

settles_on : (task : Task) (f : FrameView) (st : Stage) (g : FrameView) → Settles task f st g → entering st ≡ 0
settles_on task f (Polling e) g h = refl
settles_on task f (Drawing e) g h = refl
settles_on task f Entering g h = absurd h
settles_on task f (Looking place) g h = refl
settles_on task f Claiming g h = refl
settles_on task f (Leaving left) g h = refl
settles_on task f (Posting posted) g h = refl
settles_on task f (Winding end) g h = refl

wound : (s t : State) (end : WorkEnd) → t ≡ wind s end → entering t.stage ≡ 0
wound s t end e = ap (λ (z : State). entering z.stage) e

opens_on : (task : Task) (s : State) (fs : List FrameView) (kept : Kept) (t : State) → Opens task s fs kept t → entering t.stage ≡ 0
opens_on task s [] kept t h = absurd h
opens_on task s (f ∷ fs) kept t (inl listed) = settles_on task _ t.stage listed.2.next listed.2.settles
opens_on task s (f ∷ fs) kept t (inr lost) = ap (λ (z : State). entering z.stage) lost

sees_on : (task : Task) (s : State) (place : ℕ) (fs : List FrameView) (seen : Seen) (t : State) → Sees task s place fs seen t → entering t.stage ≡ 0
sees_on task s place [] seen t h = absurd h
sees_on task s place (f ∷ fs) seen t (inl sight) = settles_on task _ t.stage sight.5.next sight.5.settles
sees_on task s place (f ∷ fs) seen t (inr lost) = ap (λ (z : State). entering z.stage) lost.1

makes_on : (task : Task) (s : State) (fs : List FrameView) (t : State) → Makes task s fs t → entering t.stage ≡ 0
makes_on task s [] t h = absurd h
makes_on task s (f ∷ fs) t (inl made) = ap (λ (z : State). entering z.stage) made.2
makes_on task s (f ∷ fs) t (inr refused) = ap (λ (z : State). entering z.stage) refused.2

returns_on : (task : Task) (s : State) (fs : List FrameView) (left : Left) (t : State) → Returns task s fs left t → entering t.stage ≡ 0
returns_on task s [] (Solved note) t h = ap (λ (z : State). entering z.stage) h
returns_on task s [] (Open numbers) t h = absurd h
returns_on task s (g ∷ gs) (Solved note) t h = settles_on task _ t.stage h.2.next h.2.settles
returns_on task s (g ∷ gs) (Open numbers) t h = settles_on task _ t.stage h.2.next h.2.settles

-- Only a visit leads to entering.
pub enters_by_visit : (task : Task) (s : State) (st : Stage) (a : Reply) (t : State) → LeadsAt task s st a t → entering t.stage ≤ visits_in a
enters_by_visit task s (Polling e) (Polled true) t h = let z = wound s t Stopped h in omega (arith, z)
enters_by_visit task s (Polling e) (Polled false) t h = let z : entering t.stage ≡ 0 = ap (λ (z : State). entering z.stage) h in omega (arith, z)
enters_by_visit task s (Polling e) (Drew draw) t h = absurd h
enters_by_visit task s (Polling e) (Claimed claim) t h = absurd h
enters_by_visit task s (Polling e) (Looked seen) t h = absurd h
enters_by_visit task s (Polling e) (Entered kept) t h = absurd h
enters_by_visit task s (Polling e) LeftIt t h = absurd h
enters_by_visit task s (Polling e) PostedIt t h = absurd h
enters_by_visit task s (Drawing e) (Polled stop) t h = absurd h
enters_by_visit task s (Drawing e) (Drew (Go number)) t h = entering_one t.stage
enters_by_visit task s (Drawing e) (Drew Done) t h = let z = wound s t Posted h in omega (arith, z)
enters_by_visit task s (Drawing e) (Drew AllDrawn) t h = let z = wound s t Spent h in omega (arith, z)
enters_by_visit task s (Drawing e) (Claimed claim) t h = absurd h
enters_by_visit task s (Drawing e) (Looked seen) t h = absurd h
enters_by_visit task s (Drawing e) (Entered kept) t h = absurd h
enters_by_visit task s (Drawing e) LeftIt t h = absurd h
enters_by_visit task s (Drawing e) PostedIt t h = absurd h
enters_by_visit task s Entering (Polled stop) t h = absurd h
enters_by_visit task s Entering (Drew draw) t h = absurd h
enters_by_visit task s Entering (Claimed claim) t h = absurd h
enters_by_visit task s Entering (Looked seen) t h = absurd h
enters_by_visit task s Entering (Entered kept) t h = let z = opens_on task s s.frames kept t h in omega (arith, z)
enters_by_visit task s Entering LeftIt t h = absurd h
enters_by_visit task s Entering PostedIt t h = absurd h
enters_by_visit task s (Looking place) (Polled stop) t h = absurd h
enters_by_visit task s (Looking place) (Drew draw) t h = absurd h
enters_by_visit task s (Looking place) (Claimed claim) t h = absurd h
enters_by_visit task s (Looking place) (Looked seen) t h = let z = sees_on task s place s.frames seen t h in omega (arith, z)
enters_by_visit task s (Looking place) (Entered kept) t h = absurd h
enters_by_visit task s (Looking place) LeftIt t h = absurd h
enters_by_visit task s (Looking place) PostedIt t h = absurd h
enters_by_visit task s Claiming (Polled stop) t h = absurd h
enters_by_visit task s Claiming (Drew draw) t h = absurd h
enters_by_visit task s Claiming (Claimed Full) t h = let z = wound s t NoRoom h in omega (arith, z)
enters_by_visit task s Claiming (Claimed (Room room)) t h = let z = makes_on task s s.frames t h in omega (arith, z)
enters_by_visit task s Claiming (Looked seen) t h = absurd h
enters_by_visit task s Claiming (Entered kept) t h = absurd h
enters_by_visit task s Claiming LeftIt t h = absurd h
enters_by_visit task s Claiming PostedIt t h = absurd h
enters_by_visit task s (Leaving left) (Polled stop) t h = absurd h
enters_by_visit task s (Leaving left) (Drew draw) t h = absurd h
enters_by_visit task s (Leaving left) (Claimed claim) t h = absurd h
enters_by_visit task s (Leaving left) (Looked seen) t h = absurd h
enters_by_visit task s (Leaving left) (Entered kept) t h = absurd h
enters_by_visit task s (Leaving left) LeftIt t h = let z = returns_on task s (rest_of s.frames) left t h in omega (arith, z)
enters_by_visit task s (Leaving left) PostedIt t h = absurd h
enters_by_visit task s (Posting posted) (Polled stop) t h = absurd h
enters_by_visit task s (Posting posted) (Drew draw) t h = absurd h
enters_by_visit task s (Posting posted) (Claimed claim) t h = absurd h
enters_by_visit task s (Posting posted) (Looked seen) t h = absurd h
enters_by_visit task s (Posting posted) (Entered kept) t h = absurd h
enters_by_visit task s (Posting posted) LeftIt t h = absurd h
enters_by_visit task s (Posting posted) PostedIt t h = let z = wound s t Posted h in omega (arith, z)
enters_by_visit task s (Winding end) (Polled stop) t h = absurd h
enters_by_visit task s (Winding end) (Drew draw) t h = absurd h
enters_by_visit task s (Winding end) (Claimed claim) t h = absurd h
enters_by_visit task s (Winding end) (Looked seen) t h = absurd h
enters_by_visit task s (Winding end) (Entered kept) t h = absurd h
enters_by_visit task s (Winding end) LeftIt t h = let z : entering t.stage ≡ 0 = ap (λ (z : State). entering z.stage) h in omega (arith, z)
enters_by_visit task s (Winding end) PostedIt t h = absurd h

-- 2. WHETHER MORE MAY BE HANDED OUT.

-- The port goes on, or the worker winds up.
abbrev pub Going : Bool → Stage → Type 0
Going going st = (going ≡ true) ⊎ ((end : WorkEnd) × (st ≡ Winding end))

-- An answer that nothing more is handed out makes the worker wind up.
ends_wind : (task : Task) (s : State) (st : Stage) (a : Reply) (t : State) → LeadsAt task s st a t → ends_by (Some a) ≡ true
    → (end : WorkEnd) × (t.stage ≡ Winding end)
ends_wind task s st (Polled stop) t h e = absurd (cc)
ends_wind task s st (Looked seen) t h e = absurd (cc)
ends_wind task s st (Entered kept) t h e = absurd (cc)
ends_wind task s st LeftIt t h e = absurd (cc)
ends_wind task s st PostedIt t h e = absurd (cc)
ends_wind task s st (Drew (Go number)) t h e = absurd (cc)
ends_wind task s st (Claimed (Room room)) t h e = absurd (cc)
ends_wind task s (Polling entry) (Drew Done) t h e = absurd h
ends_wind task s (Drawing entry) (Drew Done) t h e = (Posted, ap (λ (z : State). z.stage) h)
ends_wind task s Entering (Drew Done) t h e = absurd h
ends_wind task s (Looking place) (Drew Done) t h e = absurd h
ends_wind task s Claiming (Drew Done) t h e = absurd h
ends_wind task s (Leaving left) (Drew Done) t h e = absurd h
ends_wind task s (Posting posted) (Drew Done) t h e = absurd h
ends_wind task s (Winding end) (Drew Done) t h e = absurd h
ends_wind task s (Polling entry) (Drew AllDrawn) t h e = absurd h
ends_wind task s (Drawing entry) (Drew AllDrawn) t h e = (Spent, ap (λ (z : State). z.stage) h)
ends_wind task s Entering (Drew AllDrawn) t h e = absurd h
ends_wind task s (Looking place) (Drew AllDrawn) t h e = absurd h
ends_wind task s Claiming (Drew AllDrawn) t h e = absurd h
ends_wind task s (Leaving left) (Drew AllDrawn) t h e = absurd h
ends_wind task s (Posting posted) (Drew AllDrawn) t h e = absurd h
ends_wind task s (Winding end) (Drew AllDrawn) t h e = absurd h
ends_wind task s (Polling entry) (Claimed Full) t h e = absurd h
ends_wind task s (Drawing entry) (Claimed Full) t h e = absurd h
ends_wind task s Entering (Claimed Full) t h e = absurd h
ends_wind task s (Looking place) (Claimed Full) t h e = absurd h
ends_wind task s Claiming (Claimed Full) t h e = (NoRoom, ap (λ (z : State). z.stage) h)
ends_wind task s (Leaving left) (Claimed Full) t h e = absurd h
ends_wind task s (Posting posted) (Claimed Full) t h e = absurd h
ends_wind task s (Winding end) (Claimed Full) t h e = absurd h

-- A worker that winds up goes on so.
pub winds_on : (task : Task) (s : State) (end : WorkEnd) (a : Reply) (t : State) → LeadsAt task s (Winding end) a t → t.stage ≡ Winding end
winds_on task s end (Polled stop) t h = absurd h
winds_on task s end (Drew draw) t h = absurd h
winds_on task s end (Claimed claim) t h = absurd h
winds_on task s end (Looked seen) t h = absurd h
winds_on task s end (Entered kept) t h = absurd h
winds_on task s end LeftIt t h = ap (λ (z : State). z.stage) h
winds_on task s end PostedIt t h = absurd h

-- So the port goes on after an answer, or the worker winds up.
pub going_after : (task : Task) (s : State) (st : Stage) (a : Reply) (t : State) (before after : Bool) → LeadsAt task s st a t → Going before st
    → after ≡ (if ends_by (Some a) then false else before) → Going after t.stage
going_after task s st a t before after leads (inr winding) e =
    inr (winding.0, winds_on task s winding.0 a t (subst (λ (z : Stage). LeadsAt task s z a t) winding.1 leads))
going_after task s st a t before after leads (inl going) e = by_ends (ends_by (Some a)) refl
  where
    by_ends : (b : Bool) → ends_by (Some a) ≡ b → Going after t.stage
    by_ends true ends = inr (ends_wind task s st a t leads ends)
    by_ends false ends = inl (e ∙ (ap (λ (z : Bool). if z then false else before) ends ∙ going))

-- 3. WHAT THE REQUEST SAYS OF THE STAGE.

looks_not_enters : (key : Key) (numbers : Numbers) (o : Option Child) → Enter key numbers ≡ ask_look o → ⊥
looks_not_enters key numbers None e = cc
looks_not_enters key numbers (Some child) e = cc

-- Where it asks to enter, it is about to.
pub entering_at : (key : Key) (numbers : Numbers) (st : Stage) (fs : List FrameView) → Enter key numbers ≡ asks_at st fs → entering st ≡ 1
entering_at key numbers (Polling e) fs e0 = absurd (cc)
entering_at key numbers (Drawing e) fs e0 = absurd (cc)
entering_at key numbers Entering [] e0 = absurd (cc)
entering_at key numbers Entering (f ∷ fs) e0 = refl
entering_at key numbers (Looking place) [] e0 = absurd (cc)
entering_at key numbers (Looking place) (f ∷ fs) e0 = absurd (looks_not_enters key numbers (slice_get f.children place) e0)
entering_at key numbers Claiming fs e0 = absurd (cc)
entering_at key numbers (Leaving left) [] e0 = absurd (cc)
entering_at key numbers (Leaving left) (f ∷ fs) e0 = absurd (cc)
entering_at key numbers (Posting None) fs e0 = absurd (cc)
entering_at key numbers (Posting (Some note)) fs e0 = absurd (cc)
entering_at key numbers (Winding end) [] e0 = absurd (cc)
entering_at key numbers (Winding end) (f ∷ fs) e0 = absurd (cc)

-- Where it asks to look, it does.
pub looking_at : (key : Key) (st : Stage) (fs : List FrameView) → Look key ≡ asks_at st fs → IsLooking st
looking_at key (Polling e) fs e0 = absurd (cc)
looking_at key (Drawing e) fs e0 = absurd (cc)
looking_at key Entering [] e0 = absurd (cc)
looking_at key Entering (f ∷ fs) e0 = absurd (cc)
looking_at key (Looking place) [] e0 = absurd (cc)
looking_at key (Looking place) (f ∷ fs) e0 = tt
looking_at key Claiming fs e0 = absurd (cc)
looking_at key (Leaving left) [] e0 = absurd (cc)
looking_at key (Leaving left) (f ∷ fs) e0 = absurd (cc)
looking_at key (Posting None) fs e0 = absurd (cc)
looking_at key (Posting (Some note)) fs e0 = absurd (cc)
looking_at key (Winding end) [] e0 = absurd (cc)
looking_at key (Winding end) (f ∷ fs) e0 = absurd (cc)

-- Whoever winds up asks to leave, or for his end.
winding_leaves : (q : Request) (end : WorkEnd) (fs : List FrameView) → q ≡ ask_leave fs Nothing end → (q ≡ Draws) ⊎ (q ≡ Claims) → ⊥
winding_leaves q end [] e (inl is) = cc
winding_leaves q end [] e (inr is) = cc
winding_leaves q end (f ∷ fs) e (inl is) = cc
winding_leaves q end (f ∷ fs) e (inr is) = cc

-- So where a visit or room is asked for, the port goes on.
pub goes_on_asked : (going : Bool) (q : Request) (st : Stage) (fs : List FrameView) → Going going st → q ≡ asks_at st fs → (q ≡ Draws) ⊎ (q ≡ Claims) → going ≡ true
goes_on_asked going q st fs (inl goes) e is = goes
goes_on_asked going q st fs (inr winding) e is =
    absurd (winding_leaves q winding.0 fs (e ∙ ap (λ (z : Stage). asks_at z fs) winding.1) is)

looks_enter_none : (a : Reply) (o : Option Child) → enters_some (ask_look o, Some a) ≤ 0
looks_enter_none a None = omega arith
looks_enter_none a (Some child) = omega arith

-- It enters something only where it is about to.
pub enters_few : (a : Reply) (st : Stage) (fs : List FrameView) → enters_some (asks_at st fs, Some a) ≤ entering st
enters_few a (Polling e) fs = omega arith
enters_few a (Drawing e) fs = omega arith
enters_few a Entering [] = omega arith
enters_few (Polled stop) Entering (f ∷ fs) = omega arith
enters_few (Drew draw) Entering (f ∷ fs) = omega arith
enters_few (Claimed claim) Entering (f ∷ fs) = omega arith
enters_few (Looked seen) Entering (f ∷ fs) = omega arith
enters_few (Entered Unkept) Entering (f ∷ fs) = omega arith
enters_few (Entered (Slot number)) Entering (f ∷ fs) = omega arith
enters_few LeftIt Entering (f ∷ fs) = omega arith
enters_few PostedIt Entering (f ∷ fs) = omega arith
enters_few a (Looking place) [] = omega arith
enters_few a (Looking place) (f ∷ fs) = looks_enter_none a (slice_get f.children place)
enters_few a Claiming fs = omega arith
enters_few a (Leaving left) [] = omega arith
enters_few a (Leaving left) (f ∷ fs) = omega arith
enters_few a (Posting None) fs = omega arith
enters_few a (Posting (Some note)) fs = omega arith
enters_few a (Winding end) [] = omega arith
enters_few a (Winding end) (f ∷ fs) = omega arith

-- What the answer to a request may be, by the request.
abbrev pub MayAnswer : Task → State → Request → Reply → Type 0
MayAnswer task s Poll (Polled stop) = Unit {0}
MayAnswer task s Draws (Drew (Go number)) = s.visits < MOST_EXPANSIONS
MayAnswer task s Draws (Drew Done) = Unit {0}
MayAnswer task s Draws (Drew AllDrawn) = Unit {0}
MayAnswer task s Claims (Claimed claim) = Unit {0}
MayAnswer task s (Look key) (Looked seen) = MayShow (attacker_in task) key (path_of task s.frames) seen
MayAnswer task s (Enter key numbers) (Entered kept) = Unit {0}
MayAnswer task s (Leave kept key update) LeftIt = Unit {0}
MayAnswer task s (Post note) PostedIt = Unit {0}
MayAnswer task s request answer = ⊥

abbrev IsOther : Reply → Type 0
IsOther (Polled stop) = Unit {0}
IsOther (Drew draw) = Unit {0}
IsOther (Claimed claim) = Unit {0}
IsOther (Looked seen) = ⊥
IsOther (Entered kept) = Unit {0}
IsOther LeftIt = Unit {0}
IsOther PostedIt = Unit {0}

other_look : (task : Task) (o : Option Child) (s : State) (a : Reply) → IsOther a → MayAnswer task s (ask_look o) a → ⊥
other_look task None s (Polled stop) is h = absurd h
other_look task (Some child) s (Polled stop) is h = absurd h
other_look task None s (Drew draw) is h = absurd h
other_look task (Some child) s (Drew draw) is h = absurd h
other_look task None s (Claimed claim) is h = absurd h
other_look task (Some child) s (Claimed claim) is h = absurd h
other_look task o s (Looked seen) is h = absurd is
other_look task None s (Entered kept) is h = absurd h
other_look task (Some child) s (Entered kept) is h = absurd h
other_look task None s LeftIt is h = absurd h
other_look task (Some child) s LeftIt is h = absurd h
other_look task None s PostedIt is h = absurd h
other_look task (Some child) s PostedIt is h = absurd h

may_fit : (task : Task) (st : Stage) (fs : List FrameView) (v c : ℕ) (a : Reply)
    → MayAnswer task (record { stage = st; frames = fs; visits = v; claims = c }) (asks_at st fs) a → Fits task (asked (record { stage = st; frames = fs; visits = v; claims = c })) a
may_fit task (Polling e) fs v c (Polled stop) h = tt
may_fit task (Polling e) fs v c (Drew draw) h = absurd h
may_fit task (Polling e) fs v c (Claimed claim) h = absurd h
may_fit task (Polling e) fs v c (Looked seen) h = absurd h
may_fit task (Polling e) fs v c (Entered kept) h = absurd h
may_fit task (Polling e) fs v c LeftIt h = absurd h
may_fit task (Polling e) fs v c PostedIt h = absurd h
may_fit task (Drawing e) fs v c (Polled stop) h = absurd h
may_fit task (Drawing e) fs v c (Drew (Go number)) h = h
may_fit task (Drawing e) fs v c (Drew Done) h = tt
may_fit task (Drawing e) fs v c (Drew AllDrawn) h = tt
may_fit task (Drawing e) fs v c (Claimed claim) h = absurd h
may_fit task (Drawing e) fs v c (Looked seen) h = absurd h
may_fit task (Drawing e) fs v c (Entered kept) h = absurd h
may_fit task (Drawing e) fs v c LeftIt h = absurd h
may_fit task (Drawing e) fs v c PostedIt h = absurd h
may_fit task Entering [] v c a h = absurd h
may_fit task Entering (f ∷ fs) v c (Polled stop) h = absurd h
may_fit task Entering (f ∷ fs) v c (Drew draw) h = absurd h
may_fit task Entering (f ∷ fs) v c (Claimed claim) h = absurd h
may_fit task Entering (f ∷ fs) v c (Looked seen) h = absurd h
may_fit task Entering (f ∷ fs) v c (Entered kept) h = tt
may_fit task Entering (f ∷ fs) v c LeftIt h = absurd h
may_fit task Entering (f ∷ fs) v c PostedIt h = absurd h
may_fit task (Looking place) [] v c a h = absurd h
may_fit task (Looking place) (f ∷ fs) v c (Polled stop) h = absurd (other_look task (slice_get f.children place) (record { stage = Looking place; frames = f ∷ fs; visits = v; claims = c }) (Polled stop) tt h)
may_fit task (Looking place) (f ∷ fs) v c (Drew draw) h = absurd (other_look task (slice_get f.children place) (record { stage = Looking place; frames = f ∷ fs; visits = v; claims = c }) (Drew draw) tt h)
may_fit task (Looking place) (f ∷ fs) v c (Claimed claim) h = absurd (other_look task (slice_get f.children place) (record { stage = Looking place; frames = f ∷ fs; visits = v; claims = c }) (Claimed claim) tt h)
may_fit task (Looking place) (f ∷ fs) v c (Looked seen) h = λ child there.
    subst (λ (o : Option Child). MayAnswer task (record { stage = Looking place; frames = f ∷ fs; visits = v; claims = c }) (ask_look o) (Looked seen)) there h
may_fit task (Looking place) (f ∷ fs) v c (Entered kept) h = absurd (other_look task (slice_get f.children place) (record { stage = Looking place; frames = f ∷ fs; visits = v; claims = c }) (Entered kept) tt h)
may_fit task (Looking place) (f ∷ fs) v c LeftIt h = absurd (other_look task (slice_get f.children place) (record { stage = Looking place; frames = f ∷ fs; visits = v; claims = c }) LeftIt tt h)
may_fit task (Looking place) (f ∷ fs) v c PostedIt h = absurd (other_look task (slice_get f.children place) (record { stage = Looking place; frames = f ∷ fs; visits = v; claims = c }) PostedIt tt h)
may_fit task Claiming fs v c (Polled stop) h = absurd h
may_fit task Claiming fs v c (Drew draw) h = absurd h
may_fit task Claiming fs v c (Claimed claim) h = tt
may_fit task Claiming fs v c (Looked seen) h = absurd h
may_fit task Claiming fs v c (Entered kept) h = absurd h
may_fit task Claiming fs v c LeftIt h = absurd h
may_fit task Claiming fs v c PostedIt h = absurd h
may_fit task (Leaving left) [] v c a h = absurd h
may_fit task (Leaving left) (f ∷ fs) v c (Polled stop) h = absurd h
may_fit task (Leaving left) (f ∷ fs) v c (Drew draw) h = absurd h
may_fit task (Leaving left) (f ∷ fs) v c (Claimed claim) h = absurd h
may_fit task (Leaving left) (f ∷ fs) v c (Looked seen) h = absurd h
may_fit task (Leaving left) (f ∷ fs) v c (Entered kept) h = absurd h
may_fit task (Leaving left) (f ∷ fs) v c LeftIt h = tt
may_fit task (Leaving left) (f ∷ fs) v c PostedIt h = absurd h
may_fit task (Posting None) fs v c a h = absurd h
may_fit task (Posting (Some note)) fs v c (Polled stop) h = absurd h
may_fit task (Posting (Some note)) fs v c (Drew draw) h = absurd h
may_fit task (Posting (Some note)) fs v c (Claimed claim) h = absurd h
may_fit task (Posting (Some note)) fs v c (Looked seen) h = absurd h
may_fit task (Posting (Some note)) fs v c (Entered kept) h = absurd h
may_fit task (Posting (Some note)) fs v c LeftIt h = absurd h
may_fit task (Posting (Some note)) fs v c PostedIt h = tt
may_fit task (Winding end) [] v c a h = absurd h
may_fit task (Winding end) (f ∷ fs) v c (Polled stop) h = absurd h
may_fit task (Winding end) (f ∷ fs) v c (Drew draw) h = absurd h
may_fit task (Winding end) (f ∷ fs) v c (Claimed claim) h = absurd h
may_fit task (Winding end) (f ∷ fs) v c (Looked seen) h = absurd h
may_fit task (Winding end) (f ∷ fs) v c (Entered kept) h = absurd h
may_fit task (Winding end) (f ∷ fs) v c LeftIt h = tt
may_fit task (Winding end) (f ∷ fs) v c PostedIt h = absurd h

-- Such an answer fits the worker that was asked.
pub may_fits : (task : Task) (s : State) (a : Reply) → MayAnswer task s (asks s) a → Fits task (asked s) a
may_fits task s a h = may_fit task s.stage s.frames s.visits s.claims a h

-- 4. WHAT CHANGES WHEN IT IS ASKED.

-- Once it is asked, as much is still to come.
pub asked_costs : (s : State) → to_come (asked s) ≡ to_come s
asked_costs s = by_stage s.stage
  where
    by_stage : (st : Stage) → to_come (at_stage s (asked_at st) s.frames) ≡ to_come (at_stage s st s.frames)
    by_stage (Polling e) = refl
    by_stage (Drawing e) = refl
    by_stage Entering = refl
    by_stage (Looking place) = refl
    by_stage Claiming = refl
    by_stage (Leaving left) = refl
    by_stage (Posting posted) = refl
    by_stage (Winding end) = refl

-- Both events enter and leave the same.
abbrev pub IsSame : Words → Request → Request → Reply → ℕ → Type 0
IsSame words q r a word =
    (enters words (q, Some a) word ≡ enters words (r, Some a) word) × (leaves words (q, Some a) word ≡ leaves words (r, Some a) word)
    × (enters_some (q, Some a) ≡ enters_some (r, Some a)) × (leaves_some (q, Some a) ≡ leaves_some (r, Some a))

-- What it would ask once more enters and leaves what it asked does.
pub asked_same : (words : Words) (s : State) (a : Reply) (word : ℕ) → IsSame words (asks (asked s)) (asks s) a word
asked_same words s a word = by_stage s.stage
  where
    by_note : (note : Option Derivation) → IsSame words (ask_post None) (ask_post note) a word
    by_note None = (refl, refl, refl, refl)
    by_note (Some note) = (refl, refl, refl, refl)

    by_stage : (st : Stage) → IsSame words (asks_at (asked_at st) s.frames) (asks_at st s.frames) a word
    by_stage (Polling e) = (refl, refl, refl, refl)
    by_stage (Drawing e) = (refl, refl, refl, refl)
    by_stage Entering = (refl, refl, refl, refl)
    by_stage (Looking place) = (refl, refl, refl, refl)
    by_stage Claiming = (refl, refl, refl, refl)
    by_stage (Leaving left) = (refl, refl, refl, refl)
    by_stage (Posting posted) = by_note posted
    by_stage (Winding end) = (refl, refl, refl, refl)

starved_less : (st : Stage) (fs : List FrameView) (v c : ℕ) → IsLooking st
    → to_come (starve (asked (record { stage = st; frames = fs; visits = v; claims = c }))) < to_come (record { stage = st; frames = fs; visits = v; claims = c })
starved_less (Polling e) fs v c at = absurd at
starved_less (Drawing e) fs v c at = absurd at
starved_less Entering fs v c at = absurd at
starved_less (Looking place) fs v c at = let n = length-entered fs in omega (arith, n)
starved_less Claiming fs v c at = absurd at
starved_less (Leaving left) fs v c at = absurd at
starved_less (Posting posted) fs v c at = absurd at
starved_less (Winding end) fs v c at = absurd at

-- A look that was refused memory leaves less to come.
pub starves_less : (s : State) → IsLooking s.stage → to_come (starve (asked s)) < to_come s
starves_less s at = starved_less s.stage s.frames s.visits s.claims at

starved_wind : (st : Stage) (fs : List FrameView) (v c : ℕ) → IsLooking st
    → (starve (asked (record { stage = st; frames = fs; visits = v; claims = c }))).stage ≡ Winding NoMemory
starved_wind (Polling e) fs v c at = absurd at
starved_wind (Drawing e) fs v c at = absurd at
starved_wind Entering fs v c at = absurd at
starved_wind (Looking place) fs v c at = refl
starved_wind Claiming fs v c at = absurd at
starved_wind (Leaving left) fs v c at = absurd at
starved_wind (Posting posted) fs v c at = absurd at
starved_wind (Winding end) fs v c at = absurd at

-- And the worker winds up.
pub starves_wind : (s : State) → IsLooking s.stage → (starve (asked s)).stage ≡ Winding NoMemory
starves_wind s at = starved_wind s.stage s.frames s.visits s.claims at

-- What was asked is what the state asks.
pub goes_asks : (task : Task) (s t : State) (x : Exchange) → Goes task s x t → x.0 ≡ asks s
goes_asks task s t (q, None) h = h.0
goes_asks task s t (q, Some a) h = h.0
