-- Each answer changes what a worker has entered by what it enters and leaves.
use Rattle.std.proofs.Common.{◌≡◌, ◌+◌, ℕ, true, false, List, [], ◌∷◌, map, arith, refl, sym, ap, ap₂, ◌∙◌, inl, inr}
use Rattle.std.specs.Prelude.{Option, Some, None, is_some, if◌then◌else◌, slice_get}
use Rattle.board_core.specs.declared.keys.Key.{Key}
use Rattle.notes.specs.Derivation.{Derivation}
use Rattle.notes.specs.declared.words.Kept.{Kept}
use Rattle.notes.specs.declared.words.Kept.TheVariants.{Unkept}
use Rattle.notes.specs.declared.words.Seen.{Seen}
use Rattle.notes.specs.declared.words.Update.{Update}
use Rattle.notes.specs.declared.words.Update.TheVariants.{Nothing}
use Rattle.notes.specs.declared.words.Draw.TheVariants.{Go, Done, Spent as AllDrawn}
use Rattle.notes.specs.declared.words.RoomAnswer.TheVariants.{Room, NoRoom as Full}
use Rattle.visit_log.specs.declared.parts.Child.{Child}
use Rattle.visit_log.specs.declared.parts.Entry.{Entry}
use Rattle.visit_log.specs.declared.parts.Left.{Left}
use Rattle.visit_log.specs.declared.parts.Left.TheVariants.{Solved, Open}
use Rattle.visit_log.specs.declared.parts.Stage.{Stage}
use Rattle.visit_log.specs.declared.parts.Stage.TheVariants.{Polling, Drawing, Entering, Looking, Claiming, Leaving, Posting, Winding}
use Rattle.visit_log.specs.declared.words.WorkEnd.{WorkEnd}
use Rattle.visit_log.specs.declared.words.WorkEnd.TheVariants.{Posted, Spent, NoRoom, NoMemory, Stopped}
use Rattle.visit_log.specs.declared.words.Request.TheVariants.{Enter, Leave}
use Rattle.visit_log.specs.declared.words.Reply.{Reply}
use Rattle.visit_log.specs.declared.words.Reply.TheVariants.{Poll as Polled, Draw as Drew, Claim as Claimed, Look as Looked, Enter as Entered, Leave as LeftIt, Post as PostedIt}
use Rattle.visit_log.specs.Frame.{Task, Place, FrameView, opened}
use Rattle.visit_log.specs.Visit.{Exchange, kept_by}
use Rattle.visit_log.specs.Machine.{State, at_stage, bare, entered_ones, wind, starve, starve_at, starve_winding, Settles, GoesOn, Opens, Sees, Makes, Returns, Begins, keep, update_by, one_visit, one_claim, rest_of, LeadsAt, LeadsTo, ask_enter, ask_look, ask_look_in, ask_leave, ask_post, asks_at, asks}
use Rattle.visit_log.specs.Sound.{IsSoundAt, IsSound}
use Rattle.visit_log.specs.Counts.{Words, slot_once, kept_once, slot_of, slots_in, own_slots, own_size, enters, leaves, enters_some, leaves_some}
use Rattle.visit_log.specs.Laws.{SlotsMove, SizesMove, StarvingMovesNothing}

-- 1. WHAT SLOTS WEIGH. The count of one slot and the number of all are sums of one kind.

-- what an entry counts, by the key of its position; one that isn't kept counts nothing
record Weight : Type 0 where
  pub of : Kept → Key → ℕ
  pub unkept : (key : Key) → of Unkept key ≡ 0

-- what a visit counts
abbrev weighed : Weight → Option Kept → Key → ℕ
weighed w None key = 0
weighed w (Some kept) key = w.of kept key

-- what visits count
abbrev total : Weight → List FrameView → ℕ
total w [] = 0
total w (f ∷ fs) = weighed w f.kept f.place.key + total w fs

-- what an event enters, and what it leaves
abbrev taken : Weight → Exchange → ℕ
taken w (Enter key numbers, Some (Entered kept)) = w.of kept key
taken w event = 0

abbrev given : Weight → Exchange → ℕ
given w (Leave kept key update, Some LeftIt) = w.of kept key
given w event = 0

-- 2. WHAT KEEPS IT.

-- Where the entry of a visit is stays as it is, and of which place it is.
pub record Keeps (f g : FrameView) : Type 0 where
  pub kept : g.kept ≡ f.kept
  pub place : g.place ≡ f.place

keeps_itself : (f g : FrameView) → g ≡ f → Keeps f g
keeps_itself f g e = record { kept = ap (λ (z : FrameView). z.kept) e; place = ap (λ (z : FrameView). z.place) e }

-- What comes next in a visit keeps both.
pub settles_keeps : (task : Task) (f : FrameView) (st : Stage) (g : FrameView) → Settles task f st g → Keeps f g
settles_keeps task f (Looking place) g h = keeps_itself f g h.1
settles_keeps task f Claiming g h = keeps_itself f g h.1
settles_keeps task f (Leaving (Open numbers)) g h = keeps_itself f g h.2
settles_keeps task f (Polling entry) g h = record { kept = ap (λ (z : FrameView). z.kept) h.3; place = ap (λ (z : FrameView). z.place) h.3 }
settles_keeps task f (Leaving (Solved note)) g h = absurd h
settles_keeps task f (Drawing entry) g h = absurd h
settles_keeps task f Entering g h = absurd h
settles_keeps task f (Posting posted) g h = absurd h
settles_keeps task f (Winding end) g h = absurd h

goes_total : (w : Weight) (task : Task) (s : State) (f : FrameView) (fs : List FrameView) (t : State) → GoesOn task s f fs t
    → total w t.frames ≡ weighed w f.kept f.place.key + total w fs
goes_total w task s f fs t on =
    let k = settles_keeps task f t.stage on.next on.settles in
    ap (λ (z : State). total w z.frames) on.is ∙ ap₂ (λ (z : Option Kept) (p : Place). weighed w z p.key + total w fs) k.kept k.place

bare_total : (w : Weight) (fs : List FrameView) → total w (map bare fs) ≡ total w fs
bare_total w [] = refl
bare_total w (f ∷ fs) = ap (λ (n : ℕ). weighed w f.kept f.place.key + n) (bare_total w fs)

entered_total : (w : Weight) (fs : List FrameView) → total w (entered_ones fs) ≡ total w fs
entered_total w [] = refl
entered_total w (f ∷ fs) = by_kept f.kept refl
  where
    by_kept : (o : Option Kept) → f.kept ≡ o
        → total w (if is_some f.kept then bare f ∷ map bare fs else map bare fs) ≡ weighed w f.kept f.place.key + total w fs
    by_kept None e =
        let d : is_some f.kept ≡ false = ap is_some e in
        let z : weighed w f.kept f.place.key ≡ 0 = ap (λ (z : Option Kept). weighed w z f.place.key) e in
        rw d (omega (arith, bare_total w fs, z))
    by_kept (Some kept) e = let d : is_some f.kept ≡ true = ap is_some e in rw d (omega (arith, bare_total w fs))

-- the worker winds up, from a state with these visits
winds_total : (w : Weight) (s : State) (end : WorkEnd) (t : State) → t ≡ wind s end → total w t.frames ≡ total w s.frames
winds_total w s end t e = ap (λ (z : State). total w z.frames) e ∙ entered_total w s.frames

-- 3. WHAT CHANGES IT.

-- the innermost position, where it is to be entered, isn't entered yet
abbrev IsUnentered : Stage → List FrameView → Type 0
IsUnentered Entering (f ∷ fs) = f.kept ≡ None
IsUnentered st fs = Unit {0}

sound_unentered : (task : Task) (st : Stage) (fs : List FrameView) → IsSoundAt task st fs → IsUnentered st fs
sound_unentered task Entering (f ∷ fs) sound = ap (λ (z : FrameView). z.kept) sound.1
sound_unentered task st fs sound = tt

opens_total : (w : Weight) (task : Task) (s : State) (fs : List FrameView) (kept : Kept) (t : State) → IsUnentered Entering fs
    → Opens task s fs kept t → total w t.frames ≡ total w fs + taken w (ask_enter fs, Some (Entered kept))
opens_total w task s [] kept t new h = absurd h
opens_total w task s (f ∷ fs) kept t new h =
    let z : weighed w f.kept f.place.key ≡ 0 = ap (λ (z : Option Kept). weighed w z f.place.key) new in
    elim h [
      | inl listed ↦ let r = goes_total w task s (opened f.place kept listed.0) fs t listed.2 in omega (arith, r, z)
      | inr lost ↦ let r = winds_total w (at_stage s Entering (keep f kept ∷ fs)) NoMemory t lost in omega (arith, r, z)
    ]

sees_total : (w : Weight) (task : Task) (s : State) (place : ℕ) (fs : List FrameView) (seen : Seen) (t : State) → Sees task s place fs seen t
    → total w t.frames ≡ total w fs
sees_total w task s place [] seen t h = absurd h
sees_total w task s place (f ∷ fs) seen t (inl sight) = goes_total w task s _ fs t sight.5
sees_total w task s place (f ∷ fs) seen t (inr lost) = winds_total w (at_stage s (Looking place) (f ∷ fs)) NoMemory t lost.1

makes_total : (w : Weight) (task : Task) (s : State) (fs : List FrameView) (t : State) → Makes task s fs t → total w t.frames ≡ total w s.frames
makes_total w task s [] t h = absurd h
makes_total w task s (f ∷ fs) t h = elim h [
  | inl made ↦ ap (λ (z : State). total w z.frames) made.2
  | inr refused ↦ winds_total w (one_claim s) _ t refused.2
]

begins_total : (w : Weight) (task : Task) (s : State) (entry : Entry) (t : State) → Begins task s entry t → total w t.frames ≡ total w s.frames
begins_total w task s entry t h = elim h [
  | inl begun ↦ (let e = ap (λ (z : State). total w z.frames) begun.1 in omega (arith, e))
  | inr lost ↦ winds_total w (one_visit s) NoMemory t lost
]

returns_total : (w : Weight) (task : Task) (s : State) (fs : List FrameView) (left : Left) (t : State) → Returns task s fs left t
    → total w t.frames ≡ total w fs
returns_total w task s [] (Solved note) t h = ap (λ (z : State). total w z.frames) h
returns_total w task s [] (Open numbers) t h = absurd h
returns_total w task s (g ∷ gs) (Solved note) t h = goes_total w task s _ gs t h.2
returns_total w task s (g ∷ gs) (Open numbers) t h = goes_total w task s _ gs t h.2

kept_weight : (w : Weight) (o : Option Kept) (key : Key) → w.of (kept_by o) key ≡ weighed w o key
kept_weight w None key = w.unkept key
kept_weight w (Some kept) key = refl

leaves_total : (w : Weight) (fs : List FrameView) (update : Update) (end : WorkEnd)
    → total w (rest_of fs) + given w (ask_leave fs update end, Some LeftIt) ≡ total w fs
leaves_total w [] update end = refl
leaves_total w (f ∷ fs) update end = omega (arith, kept_weight w f.kept f.place.key)

-- 4. WHAT IS ASKED ENTERS AND LEAVES NOTHING ELSE.

look_none : (w : Weight) (fs : List FrameView) (place : ℕ) (answer : Reply)
    → (given w (ask_look_in fs place, Some answer) ≡ 0) × (taken w (ask_look_in fs place, Some answer) ≡ 0)
look_none w [] place answer = (refl, refl)
look_none w (f ∷ fs) place answer = by_child (slice_get f.children place)
  where
    by_child : (o : Option Child) → (given w (ask_look o, Some answer) ≡ 0) × (taken w (ask_look o, Some answer) ≡ 0)
    by_child None = (refl, refl)
    by_child (Some child) = (refl, refl)

enter_none : (w : Weight) (fs : List FrameView) (answer : Reply) → given w (ask_enter fs, Some answer) ≡ 0
enter_none w [] answer = refl
enter_none w (f ∷ fs) answer = refl

leave_none : (w : Weight) (fs : List FrameView) (update : Update) (end : WorkEnd) (answer : Reply) → taken w (ask_leave fs update end, Some answer) ≡ 0
leave_none w [] update end answer = refl
leave_none w (f ∷ fs) update end answer = refl

post_none : (w : Weight) (posted : Option Derivation) (answer : Reply)
    → (given w (ask_post posted, Some answer) ≡ 0) × (taken w (ask_post posted, Some answer) ≡ 0)
post_none w None answer = (refl, refl)
post_none w (Some note) answer = (refl, refl)

-- 5. THE LAWS.

moves_at : (w : Weight) (task : Task) (s t : State) (st : Stage) (answer : Reply) → IsUnentered st s.frames → LeadsAt task s st answer t
    → total w t.frames + given w (asks_at st s.frames, Some answer) ≡ total w s.frames + taken w (asks_at st s.frames, Some answer)
moves_at w task s t (Polling entry) (Polled true) new h = omega (arith, winds_total w s Stopped t h)
moves_at w task s t (Polling entry) (Polled false) new h = omega (arith, ap (λ (z : State). total w z.frames) h)
moves_at w task s t (Drawing entry) (Drew (Go number)) new h = omega (arith, begins_total w task s entry t h)
moves_at w task s t (Drawing entry) (Drew Done) new h = omega (arith, winds_total w s Posted t h)
moves_at w task s t (Drawing entry) (Drew AllDrawn) new h = omega (arith, winds_total w s Spent t h)
moves_at w task s t Entering (Entered kept) new h =
    omega (arith, opens_total w task s s.frames kept t new h, enter_none w s.frames (Entered kept))
moves_at w task s t (Looking place) (Looked seen) new h =
    let none = look_none w s.frames place (Looked seen) in omega (arith, sees_total w task s place s.frames seen t h, none.0, none.1)
moves_at w task s t Claiming (Claimed Full) new h = omega (arith, winds_total w s NoRoom t h)
moves_at w task s t Claiming (Claimed (Room room)) new h = omega (arith, makes_total w task s s.frames t h)
moves_at w task s t (Leaving left) LeftIt new h =
    omega (
      arith,
      returns_total w task s (rest_of s.frames) left t h,
      leaves_total w s.frames (update_by left) NoMemory,
      leave_none w s.frames (update_by left) NoMemory LeftIt,
    )
moves_at w task s t (Posting posted) PostedIt new h =
    let none = post_none w posted PostedIt in omega (arith, winds_total w s Posted t h, none.0, none.1)
moves_at w task s t (Winding end) LeftIt new h =
    omega (arith, ap (λ (z : State). total w z.frames) h, leaves_total w s.frames Nothing end, leave_none w s.frames Nothing end LeftIt)
moves_at w task s t st answer new h = absurd h

moves : (w : Weight) (task : Task) (s t : State) (answer : Reply) → IsSound task s → LeadsTo task s answer t
    → total w t.frames + given w (asks s, Some answer) ≡ total w s.frames + taken w (asks s, Some answer)
moves w task s t answer sound h = moves_at w task s t s.stage answer (sound_unentered task s.stage s.frames sound) h

-- the weight of the slots of one word, and that of all
abbrev one_word : Words → ℕ → Weight
one_word words word = record { of = λ kept of. slot_once words kept of word; unkept = λ of. refl }

abbrev all_slots : Weight
all_slots = record { of = λ kept of. kept_once kept; unkept = λ of. refl }

own_total : (words : Words) (fs : List FrameView) (word : ℕ) → own_slots words fs word ≡ total (one_word words word) fs
own_total words [] word = refl
own_total words (f ∷ fs) word = ap₂ (λ (a b : ℕ). a + b) (by_kept f.kept) (own_total words fs word)
  where
    by_kept : (o : Option Kept) → slot_of words o f.place.key word ≡ weighed (one_word words word) o f.place.key
    by_kept None = refl
    by_kept (Some kept) = refl

size_total : (fs : List FrameView) → own_size fs ≡ total all_slots fs
size_total [] = refl
size_total (f ∷ fs) = ap₂ (λ (a b : ℕ). a + b) (by_kept f.kept) (size_total fs)
  where
    by_kept : (o : Option Kept) → slots_in o ≡ weighed all_slots o f.place.key
    by_kept None = refl
    by_kept (Some kept) = refl

enters_taken : (words : Words) (e : Exchange) (word : ℕ) → enters words e word ≡ taken (one_word words word) e
enters_taken words (Enter of numbers, Some (Entered kept)) word = refl
enters_taken words e word = refl

leaves_given : (words : Words) (e : Exchange) (word : ℕ) → leaves words e word ≡ given (one_word words word) e
leaves_given words (Leave kept of update, Some LeftIt) word = refl
leaves_given words e word = refl

enters_some_taken : (e : Exchange) → enters_some e ≡ taken all_slots e
enters_some_taken (Enter of numbers, Some (Entered kept)) = refl
enters_some_taken e = refl

leaves_some_given : (e : Exchange) → leaves_some e ≡ given all_slots e
leaves_some_given (Leave kept of update, Some LeftIt) = refl
leaves_some_given e = refl

-- Each answer changes the count of a slot by what it enters and leaves.
pub slots_move : SlotsMove
slots_move words task s t answer word sound fits h = omega (
  arith,
  moves (one_word words word) task s t answer sound h,
  own_total words s.frames word,
  own_total words t.frames word,
  enters_taken words (asks s, Some answer) word,
  leaves_given words (asks s, Some answer) word,
)

-- And their number.
pub sizes_move : SizesMove
sizes_move task s t answer sound fits h = omega (
  arith,
  moves all_slots task s t answer sound h,
  size_total s.frames,
  size_total t.frames,
  enters_some_taken (asks s, Some answer),
  leaves_some_given (asks s, Some answer),
)

starve_total : (w : Weight) (s : State) → total w (starve s).frames ≡ total w s.frames
starve_total w s = by_stage s.stage
  where
    by_frames : (end : WorkEnd) (fs : List FrameView) → total w (starve_winding s end fs).frames ≡ total w fs
    by_frames end [] = refl
    by_frames end (f ∷ fs) = refl

    by_stage : (st : Stage) → total w (starve_at s st).frames ≡ total w s.frames
    by_stage (Winding end) = by_frames end s.frames
    by_stage (Polling entry) = entered_total w s.frames
    by_stage (Drawing entry) = entered_total w s.frames
    by_stage Entering = entered_total w s.frames
    by_stage (Looking place) = entered_total w s.frames
    by_stage Claiming = entered_total w s.frames
    by_stage (Leaving left) = entered_total w s.frames
    by_stage (Posting posted) = entered_total w s.frames

starve_counts : (s : State) → ((starve s).visits ≡ s.visits) × ((starve s).claims ≡ s.claims)
starve_counts s = by_stage s.stage
  where
    by_frames : (end : WorkEnd) (fs : List FrameView)
        → ((starve_winding s end fs).visits ≡ s.visits) × ((starve_winding s end fs).claims ≡ s.claims)
    by_frames end [] = (refl, refl)
    by_frames end (f ∷ fs) = (refl, refl)

    by_stage : (st : Stage) → ((starve_at s st).visits ≡ s.visits) × ((starve_at s st).claims ≡ s.claims)
    by_stage (Winding end) = by_frames end s.frames
    by_stage (Polling entry) = (refl, refl)
    by_stage (Drawing entry) = (refl, refl)
    by_stage Entering = (refl, refl)
    by_stage (Looking place) = (refl, refl)
    by_stage Claiming = (refl, refl)
    by_stage (Leaving left) = (refl, refl)
    by_stage (Posting posted) = (refl, refl)

-- Want of memory changes no slots, drawn visits or room.
pub starving_alone : StarvingMovesNothing
starving_alone s = record {
  slots = λ words word. own_total words (starve s).frames word ∙ (starve_total (one_word words word) s ∙ sym (own_total words s.frames word));
  size = size_total (starve s).frames ∙ (starve_total all_slots s ∙ sym (size_total s.frames));
  visits = (starve_counts s).0;
  claims = (starve_counts s).1;
}
