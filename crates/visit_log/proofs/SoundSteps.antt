-- What happens to a sound worker leaves it sound, and what it asks is sound.
use Rattle.std.proofs.Common.{◌≡◌, inl, inr, ℕ, true, false, List, [], ◌∷◌, All, arith, refl, sym, ap, subst, ◌∙◌, Some, None, Option, map}
use Rattle.std.specs.Prelude.{slice_get, slice_set}
use Rattle.board_core.specs.Board.{Board}
use Rattle.board_core.specs.Key.{key_of}
use Rattle.board_core.specs.declared.keys.Key.{Key}
use Rattle.notes.specs.Derivation.{Derivation, tag_of}
use Rattle.notes.specs.declared.words.Kept.{Kept}
use Rattle.notes.specs.declared.words.Seen.{Seen}
use Rattle.notes.specs.declared.words.Seen.TheVariants.{New, Open as Known, Solved as Shown, Lent}
use Rattle.pn_numbers.specs.Numbers.{IsOpen}
use Rattle.pn_numbers.specs.declared.numbers.Numbers.{Numbers}
use Rattle.shogi_rules.specs.Rules.{after}
use Rattle.std.proofs.lemmas.Bool.{lt-leb, or_from, true≢false}
use Rattle.std.proofs.lemmas.List.Elements.{All-map, All-set, All-weaker}
use Rattle.std.proofs.lemmas.Option.{same_Some, slice_get-map}
use Rattle.std.specs.Option.{option_map}
use Rattle.visit_log.proofs.SoundChildren.{moves_set, moves_staled, new_sound, next_off, of_child, staled_sound, told_sound, unsolved_off, visited_sound}
use Rattle.visit_log.proofs.SoundNotes.{made_holds, tag_empty}
use Rattle.visit_log.specs.Children.{AreChildren, AreMoves, IsNewChild, move_to, reaches}
use Rattle.visit_log.specs.Frame.{Place, Task, FrameView, attacker_in, choose, no_limits, opened, root, with_children, one_and_one}
use Rattle.visit_log.specs.Machine.{Begins, GoesOn, IsPlayed, Makes, MayShowAt, Opens, Returns, Sees, Settles, State, at_stage, entry_of, keep, one_claim, one_visit, path_of, place_by, position_by, rest_of, start, wind, FitsAt, LeadsAt, ask_leave, ask_look, asks_at, root_entry, starve, starve_at, starve_winding}
use Rattle.visit_log.specs.Round.{Solves, Choice, GivesUp, GoesDown, MayShow, Sight, Tells, came_back, looked, node_in, own, staled, told, visited}
use Rattle.visit_log.specs.Sound.{AreSound, IsAnswer, IsLookedAt, IsNoteOf, IsPlaced, IsSound, IsSoundAt, IsSoundChild, IsSoundEntry, IsSoundPlace, IsSoundVisit, IsSoundRequest}
use Rattle.visit_log.specs.declared.parts.Child.{Child}
use Rattle.visit_log.specs.declared.parts.Entry.{Entry}
use Rattle.visit_log.specs.declared.parts.Left.{Left}
use Rattle.visit_log.specs.declared.parts.Left.TheVariants.{Open, Solved}
use Rattle.visit_log.specs.declared.parts.Stage.{Stage}
use Rattle.visit_log.specs.declared.parts.Stage.TheVariants.{Claiming, Drawing, Entering, Leaving, Looking, Polling, Posting, Winding}
use Rattle.visit_log.specs.declared.words.WorkEnd.{WorkEnd}
use Rattle.visit_log.specs.declared.words.WorkEnd.TheVariants.{NoMemory, NoRoom, Posted, Spent, Stopped}
use Rattle.notes.specs.declared.words.RoomAnswer.TheVariants.{NoRoom as Full, Room}
use Rattle.notes.specs.declared.words.Draw.TheVariants.{Done, Go, Spent as AllDrawn}
use Rattle.notes.specs.declared.words.Update.TheVariants.{Nothing}
use Rattle.visit_log.specs.Run.{Told, Dark, Starved, Happening, Happens, Runs}
use Rattle.visit_log.specs.declared.words.Reply.{Reply}
use Rattle.visit_log.specs.declared.words.Reply.TheVariants.{Claim as Claimed, Draw as Drew, Enter as Entered, Leave as LeftIt, Look as Looked, Poll as Polled, Post as PostedIt}

-- 1. WHAT COMES NEXT.

-- A visit that goes on to another child.
choose_sound : (task : Task) (f : FrameView) (fs : List FrameView) (place : ℕ) → IsSoundVisit task f fs → IsSoundVisit task (choose f place) fs
choose_sound task f fs place sound = record {
  in_range = sound.in_range;
  placed = sound.placed;
  listed = record { played = sound.listed.played; key = sound.listed.key; moves = sound.listed.moves; children = sound.listed.children };
}

-- The visit of the problem's position has no threshold that its numbers could come to.
root_stays : (numbers : Numbers) → IsOpen numbers → reaches numbers no_limits ≡ true → ⊥
root_stays numbers range reached =
    let a = range.most_pn in
    let b = range.most_dn in
    let c : reaches numbers no_limits ≡ false =
    or_from _ _ (lt-leb no_limits.pn numbers.pn (omega (arith, a))) (lt-leb no_limits.dn numbers.dn (omega (arith, b))) in
    true≢false (sym reached ∙ c)

-- Whatever a sound visit does next, the worker stays sound.
settles_sound : (task : Task) (f next : FrameView) (fs : List FrameView) (stage : Stage) → AreSound task (f ∷ fs) → Settles task f stage next
    → IsSoundAt task stage (next ∷ fs)
settles_sound task f next fs (Looking place) sound settles =
    let at = next_off task f (path_of task (f ∷ fs)) place settles.0.0 sound.0.listed.children settles.0.1 in
    subst (λ (g : FrameView). AreSound task (g ∷ fs) × IsLookedAt g place) (sym settles.1) (sound, at)
settles_sound task f next fs Claiming sound settles =
    subst (λ (g : FrameView). AreSound task (g ∷ fs) × Solves task g) (sym settles.1) (sound, settles.0)
settles_sound task f next fs (Leaving (Open numbers)) sound settles =
    let gives : GivesUp task f = settles.0 in
    subst (λ (g : FrameView). IsSoundAt task (Leaving (Open numbers)) (g ∷ fs)) (sym settles.2)
    (over fs sound (subst IsOpen (sym settles.1) gives.in_range))
  where
    over : (gs : List FrameView) → AreSound task (f ∷ gs) → IsOpen numbers → IsSoundAt task (Leaving (Open numbers)) (f ∷ gs)
    over [] are range =
        let gives : GivesUp task f = settles.0 in
        let limits : f.place.limits ≡ no_limits = ap (λ (p : Place). p.limits) are.0.placed in
        absurd (root_stays (own task f) gives.in_range (subst (λ (l : Numbers). reaches (own task f) l ≡ true) limits gives.reached))
    over (g ∷ gs) are range = (are, range)
settles_sound task f next fs (Polling entry) sound settles =
    let choice : Choice = settles.0 in
    let goes : GoesDown task f choice = settles.1 in
    let off = unsolved_off task f.place.position (path_of task (f ∷ fs)) f.children choice.place choice.child
    sound.0.listed.children goes.selects.unsolved goes.there in
    let down = choose f choice.place in
    let begins : IsSoundEntry task (down ∷ fs) (entry_of task f choice) = record {
      move = (choice.child, goes.there, refl);
      in_range = goes.in_range;
      placed = (choice.child, goes.there, refl, refl, off);
    } in
    subst (λ (g : FrameView). AreSound task (g ∷ fs) × IsSoundEntry task (g ∷ fs) entry) (sym settles.3)
    ((choose_sound task f fs choice.place sound.0, sound.1), subst (IsSoundEntry task (down ∷ fs)) (sym settles.2) begins)
settles_sound task f next fs (Leaving (Solved note)) sound settles = absurd settles
settles_sound task f next fs (Drawing entry) sound settles = absurd settles
settles_sound task f next fs Entering sound settles = absurd settles
settles_sound task f next fs (Posting posted) sound settles = absurd settles
settles_sound task f next fs (Winding end) sound settles = absurd settles

-- So is the state to which it goes on.
goes_on_sound : (task : Task) (s : State) (f : FrameView) (fs : List FrameView) (t : State) → AreSound task (f ∷ fs) → GoesOn task s f fs t
    → IsSound task t
goes_on_sound task s f fs t sound goes =
    subst (IsSoundAt task t.stage) (sym (ap (λ (u : State). u.frames) goes.is)) (settles_sound task f goes.next fs t.stage sound goes.settles)

-- A state that winds up is sound.
winding : (task : Task) (t : State) (end : WorkEnd) → t.stage ≡ Winding end → IsSound task t
winding task t end is = subst (λ (stage : Stage). IsSoundAt task stage t.frames) (sym is) tt

-- So is the worker that winds up.
winds : (task : Task) (s t : State) (end : WorkEnd) → t ≡ wind s end → IsSound task t
winds task s t end is = winding task t end (ap (λ (u : State). u.stage) is)

-- 2. WHERE AN ANSWER LEADS.

-- A visit begins at a sound place.
place_sound : (task : Task) (fs : List FrameView) (entry : Entry) → AreSound task fs → IsSoundEntry task fs entry
    → IsPlayed (attacker_in task) (position_by task fs entry.by) → IsSoundPlace task fs (place_by task fs entry)
place_sound task fs entry sound begins played =
    record { played = played; key = key_is fs (place_by task fs entry) sound begins.placed; in_range = begins.in_range; placed = begins.placed }
  where
    key_is : (gs : List FrameView) (p : Place) → AreSound task gs → IsPlaced task gs p → p.key.0 ≡ key_of p.position
    key_is [] p are placed = subst (λ (q : Place). q.key.0 ≡ key_of q.position) (sym placed) refl
    key_is (g ∷ gs) p are placed =
        let P = IsSoundChild task g.place.position (path_of task (g ∷ gs)) in
        let known = of_child P g.children g.chosen placed.0 are.0.listed.children placed.1 in
        ap (λ (k : Key). k.0) placed.3 ∙ (known.key ∙ ap key_of (sym placed.2))

-- A worker that has drawn a visit is sound.
begins_sound : (task : Task) (s : State) (entry : Entry) (t : State) → AreSound task s.frames → IsSoundEntry task s.frames entry
    → Begins task s entry t → IsSound task t
begins_sound task s entry t sound entry_is (inl begins) =
    subst (IsSound task) (sym begins.1) (place_sound task s.frames entry sound entry_is begins.0, refl, sound)
begins_sound task s entry t sound entry_is (inr lost) = winds task (one_visit s) t NoMemory lost

-- A visit whose successors are listed is sound.
pub opened_sound : (task : Task) (f : FrameView) (fs : List FrameView) (kept : Kept) (children : List Child) → IsSoundPlace task fs f.place
    → AreChildren (attacker_in task) f.place.position (path_of task (f ∷ fs)) children → IsSoundVisit task (opened f.place kept children) fs
opened_sound task f fs kept children place are = record {
  in_range = place.in_range;
  placed = place.placed;
  listed = record {
    played = place.played;
    key = place.key;
    moves = are.moves;
    children = All-weaker (IsNewChild (attacker_in task) f.place.position (path_of task (f ∷ fs)))
        (IsSoundChild task f.place.position (path_of task (f ∷ fs)))
        (new_sound task f.place.position (path_of task (f ∷ fs))) children are.new;
  };
}

-- A position is opened soundly.
opens_sound : (task : Task) (s : State) (fs : List FrameView) (kept : Kept) (t : State) → IsSoundAt task Entering fs → Opens task s fs kept t
    → IsSound task t
opens_sound task s [] kept t sound opens = absurd opens
opens_sound task s (f ∷ fs) kept t sound (inl opens) =
    goes_on_sound task s (opened f.place kept opens.0) fs t (opened_sound task f fs kept opens.0 sound.0 opens.1, sound.2) opens.2
opens_sound task s (f ∷ fs) kept t sound (inr lost) = winds task (at_stage s Entering (keep f kept ∷ fs)) t NoMemory lost

-- A visit with other children of the same moves.
with_sound : (task : Task) (f : FrameView) (fs : List FrameView) (children : List Child) → IsSoundVisit task f fs
    → map move_to children ≡ map move_to f.children → All (IsSoundChild task f.place.position (path_of task (f ∷ fs))) children
    → IsSoundVisit task (with_children f children) fs
with_sound task f fs children sound same known = record {
  in_range = sound.in_range;
  placed = sound.placed;
  listed = record {
    played = sound.listed.played;
    key = sound.listed.key;
    moves = subst (AreMoves (node_in task f) (attacker_in task) f.place.position) (sym same) sound.listed.moves;
    children = known;
  };
}

-- What is looked at is known soundly.
pub looked_sound : (task : Task) (f : FrameView) (fs : List FrameView) (sight : Sight) → IsSoundVisit task f fs → IsLookedAt f sight.place
    → slice_get f.children sight.place ≡ Some sight.child → MayShow (attacker_in task) sight.child.key (path_of task (f ∷ fs)) sight.seen
    → Tells (attacker_in task) f.place.position sight.child.by sight.seen sight.start → IsSoundVisit task (looked task f sight) fs
looked_sound task f fs sight sound at there may tells =
    let path = path_of task (f ∷ fs) in
    let P = IsSoundChild task f.place.position path in
    let off : sight.child.on_path ≡ false =
    subst (λ (c : Child). c.on_path ≡ false) (same_Some at.child sight.child (sym at.there ∙ there)) at.off_path in
    let new = told_sound task f.place.position path sight.child sight.seen sight.start
    (of_child P f.children sight.place sight.child sound.listed.children there) off may tells in
    let after_it : Child = told (attacker_in task) f.place.position sight.child sight.seen sight.start in
    with_sound task f fs (slice_set f.children sight.place after_it) sound
    (moves_set f.children sight.place sight.child after_it there (told_by sight.child sight.seen sight.start))
    (All-set P f.children sight.place after_it new sound.listed.children)
  where
    told_by : (child : Child) (seen : Seen) (start : Numbers) → (told (attacker_in task) f.place.position child seen start).by ≡ child.by
    told_by child New start = refl
    told_by child (Known numbers below) start = refl
    told_by child (Shown note) start = refl
    told_by child (Lent note) start = refl

-- So is the worker that was told what it looks at.
sees_sound : (task : Task) (s : State) (place : ℕ) (fs : List FrameView) (seen : Seen) (t : State) → IsSoundAt task (Looking place) fs
    → MayShowAt task fs place seen → Sees task s place fs seen t → IsSound task t
sees_sound task s place [] seen t sound may sees = absurd sees
sees_sound task s place (f ∷ fs) seen t sound may (inr lost) = winds task (at_stage s (Looking place) (f ∷ fs)) t NoMemory lost.1
sees_sound task s place (f ∷ fs) seen t sound may (inl sees) =
    let sight : Sight = sees.0 in
    let at : IsLookedAt f sight.place = subst (IsLookedAt f) (sym sees.1) sound.1 in
    let there : slice_get f.children sight.place ≡ Some sight.child =
    subst (λ (i : ℕ). slice_get f.children i ≡ Some sight.child) (sym sees.1) sees.3 in
    let shown : MayShow (attacker_in task) sight.child.key (path_of task (f ∷ fs)) sight.seen =
    subst (MayShow (attacker_in task) sight.child.key (path_of task (f ∷ fs))) (sym sees.2) (may sight.child sees.3) in
    let tells : Tells (attacker_in task) f.place.position sight.child.by sight.seen sight.start =
    subst (λ (seen : Seen). Tells (attacker_in task) f.place.position sight.child.by seen sight.start) (sym sees.2) sees.4 in
    goes_on_sound task s (looked task f sight) fs t (looked_sound task f fs sight sound.0.0 at there shown tells, sound.0.1) sees.5

-- The note that is made is sound.
makes_sound : (task : Task) (s t : State) → IsSoundAt task Claiming s.frames → Makes task s s.frames t → IsSound task t
makes_sound task s t sound makes = by_frames s.frames refl sound makes
  where
    by_frames : (fs : List FrameView) → s.frames ≡ fs → IsSoundAt task Claiming fs → Makes task s fs t → IsSound task t
    by_frames [] is are made = absurd made
    by_frames (f ∷ fs) is are (inl made) =
        subst (IsSound task) (sym made.2) (subst (IsSoundAt task (Leaving (Solved made.0))) (sym is)
        (are.0, made_holds task f (path_of task fs) made.0 are.0.0.listed made.1))
    by_frames (f ∷ fs) is are (inr refused) = winds task (one_claim s) t refused.0 refused.2

-- A visit is sound after that of a child.
pub back_sound : (task : Task) (f : FrameView) (gs : List FrameView) (g : FrameView) (child : Child) (left : Left) → IsSoundVisit task f (g ∷ gs)
    → IsSoundVisit task g gs → slice_get g.children g.chosen ≡ Some child
    → ((note : Derivation) → left ≡ Solved note → IsNoteOf task f.place.position (path_of task (g ∷ gs)) note)
    → IsSoundVisit task (came_back g g.chosen child left) gs
back_sound task f gs g child left above sound there solved =
    let path = path_of task (g ∷ gs) in
    let P = IsSoundChild task g.place.position path in
    let placed : IsPlaced task (g ∷ gs) f.place = above.placed in
    let same : placed.0 ≡ child = same_Some placed.0 child (sym placed.1 ∙ there) in
    let off : child.on_path ≡ false = subst (λ (c : Child). c.on_path ≡ false) same placed.4 in
    let position : f.place.position ≡ after g.place.position child.by =
    subst (λ (c : Child). f.place.position ≡ after g.place.position c.by) same placed.2 in
    let new = visited_sound task g.place.position path child left
    (of_child P g.children g.chosen child sound.listed.children there) off
    (λ note is. subst (λ (b : Board). IsNoteOf task b path note) position (solved note is)) in
    let staled_there : slice_get (map staled g.children) g.chosen ≡ Some (staled child) =
    slice_get-map staled g.children g.chosen ∙ ap (option_map staled) there in
    with_sound task g gs (slice_set (map staled g.children) g.chosen (visited child left)) sound
    (moves_set (map staled g.children) g.chosen (staled child) (visited child left) staled_there (visited_by left) ∙ moves_staled g.children)
    (All-set P (map staled g.children) g.chosen (visited child left) new
    (All-map P staled g.children (All-weaker P (λ c. P (staled c)) (staled_sound task g.place.position path) g.children sound.listed.children)))
  where
    visited_by : (left : Left) → (visited child left).by ≡ child.by
    visited_by (Open numbers) = refl
    visited_by (Solved note) = refl

-- A worker that has left a position is sound.
returns_sound : (task : Task) (s : State) (fs : List FrameView) (left : Left) (t : State) → IsSoundAt task (Leaving left) fs
    → Returns task s (rest_of fs) left t → IsSound task t
returns_sound task s [] left t sound returns = absurd (nowhere left sound)
  where
    nowhere : (left : Left) → IsSoundAt task (Leaving left) [] → ⊥
    nowhere (Open numbers) h = h
    nowhere (Solved note) h = h
returns_sound task s (f ∷ []) (Open numbers) t sound returns = absurd returns
returns_sound task s (f ∷ []) (Solved note) t sound returns =
    let root_is : f.place ≡ root task = sound.0.0.placed in
    let note_is : IsNoteOf task f.place.position [] note = sound.1 in
    let answer : IsAnswer task note = record {
      valid = note_is.valid;
      closed = tag_empty (tag_of note) note_is.within;
      about = note_is.about ∙ ap (λ (p : Place). p.position) root_is;
      same_attacker = note_is.same_attacker;
    } in
    subst (IsSound task) (sym returns) (refl, answer)
returns_sound task s (f ∷ g ∷ gs) (Open numbers) t sound returns =
    goes_on_sound task s (came_back g g.chosen returns.0 (Open numbers)) gs t
    (back_sound task f gs g returns.0 (Open numbers) sound.0.0 sound.0.1.0 returns.1 (λ note is. absurd (cc)), sound.0.1.1) returns.2
returns_sound task s (f ∷ g ∷ gs) (Solved note) t sound returns =
    goes_on_sound task s (came_back g g.chosen returns.0 (Solved note)) gs t (
      back_sound task f gs g returns.0 (Solved note) sound.0.0 sound.0.1.0 returns.1
          (λ other is. subst (IsNoteOf task f.place.position (path_of task (g ∷ gs))) (cc) sound.1),
      sound.0.1.1,
    ) returns.2

-- Where a fitting answer leads a sound worker, it is sound.
leads_sound : (task : Task) (s : State) (stage : Stage) (answer : Reply) (t : State) → IsSoundAt task stage s.frames → FitsAt task s stage answer
    → LeadsAt task s stage answer t → IsSound task t
leads_sound task s (Polling entry) (Polled true) t sound fits leads = winds task s t Stopped leads
leads_sound task s (Polling entry) (Polled false) t sound fits leads = subst (IsSound task) (sym leads) sound
leads_sound task s (Drawing entry) (Drew (Go number)) t sound fits leads = begins_sound task s entry t sound.0 sound.1 leads
leads_sound task s (Drawing entry) (Drew Done) t sound fits leads = winds task s t Posted leads
leads_sound task s (Drawing entry) (Drew AllDrawn) t sound fits leads = winds task s t Spent leads
leads_sound task s Entering (Entered kept) t sound fits leads = opens_sound task s s.frames kept t sound leads
leads_sound task s (Looking place) (Looked seen) t sound fits leads = sees_sound task s place s.frames seen t sound fits leads
leads_sound task s Claiming (Claimed Full) t sound fits leads = winds task s t NoRoom leads
leads_sound task s Claiming (Claimed (Room room)) t sound fits leads = makes_sound task s t sound leads
leads_sound task s (Leaving left) LeftIt t sound fits leads = returns_sound task s s.frames left t sound leads
leads_sound task s (Posting posted) PostedIt t sound fits leads = winds task s t Posted leads
leads_sound task s (Winding end) LeftIt t sound fits leads = winding task t end (ap (λ (u : State). u.stage) leads)
leads_sound task s stage answer t sound fits leads = absurd leads

-- A starved worker winds up, and so is sound.
starved_sound : (task : Task) (s t : State) → t ≡ starve s → IsSound task t
starved_sound task s t is = subst (IsSound task) (sym is) (by_stage s.stage)
  where
    by_frames : (end : WorkEnd) (fs : List FrameView) → IsSound task (starve_winding s end fs)
    by_frames end [] = tt
    by_frames end (f ∷ fs) = tt

    by_stage : (stage : Stage) → IsSound task (starve_at s stage)
    by_stage (Winding end) = by_frames end s.frames
    by_stage (Polling entry) = tt
    by_stage (Drawing entry) = tt
    by_stage Entering = tt
    by_stage (Looking place) = tt
    by_stage Claiming = tt
    by_stage (Leaving left) = tt
    by_stage (Posting posted) = tt

-- 3. THE LAWS.

-- What happens to a sound worker leaves it sound.
pub stays_sound : (task : Task) (s t : State) (happening : Happening) → IsSound task s → Happens task s happening t → IsSound task t
stays_sound task s t (Told request answer) sound happens = leads_sound task s s.stage answer t sound happens.1 happens.2
stays_sound task s t (Dark request) sound happens = starved_sound task s t happens.2
stays_sound task s t Starved sound happens = starved_sound task s t happens

-- A worker is sound before it asks anything.
pub start_sound : (task : Task) → IsSound task (start task)
start_sound task = (tt, begins)
  where
    range : IsOpen one_and_one
    range = record { least_pn = omega arith; most_pn = omega arith; least_dn = omega arith; most_dn = omega arith }

    begins : IsSoundEntry task [] (root_entry task)
    begins = record { move = refl; in_range = range; placed = refl }

-- Things that happen one after the other to a sound worker leave it sound.
runs_sound : (task : Task) (happenings : List Happening) (s t : State) → IsSound task s → Runs task s happenings t → IsSound task t
runs_sound task [] s t sound runs = subst (IsSound task) runs sound
runs_sound task (happening ∷ happenings) s t sound runs =
    runs_sound task happenings runs.0 t (stays_sound task s runs.0 happening sound runs.1) runs.2

-- So a worker is sound wherever it stands.
pub reached_sound : (task : Task) (happenings : List Happening) (s : State) → Runs task (start task) happenings s → IsSound task s
reached_sound task happenings s runs = runs_sound task happenings (start task) s (start_sound task) runs

-- What is left by the way is promised nothing.
leave_nothing : (task : Task) (fs : List FrameView) (end : WorkEnd) → IsSoundRequest task (ask_leave fs Nothing end)
leave_nothing task [] end = tt
leave_nothing task (f ∷ fs) end = tt

-- What a sound worker asks is sound.
pub asks_sound : (task : Task) (stage : Stage) (fs : List FrameView) → IsSoundAt task stage fs → IsSoundRequest task (asks_at stage fs)
asks_sound task (Polling entry) fs sound = tt
asks_sound task (Drawing entry) fs sound = tt
asks_sound task Entering [] sound = tt
asks_sound task Entering (f ∷ fs) sound = sound.0.in_range
asks_sound task (Looking place) [] sound = tt
asks_sound task (Looking place) (f ∷ fs) sound = by_child (slice_get f.children place)
  where
    by_child : (o : Option Child) → IsSoundRequest task (ask_look o)
    by_child None = tt
    by_child (Some child) = tt
asks_sound task Claiming fs sound = tt
asks_sound task (Leaving left) [] sound = tt
asks_sound task (Leaving (Open numbers)) (f ∷ []) sound = absurd sound
asks_sound task (Leaving (Open numbers)) (f ∷ g ∷ gs) sound = sound.1
asks_sound task (Leaving (Solved note)) (f ∷ fs) sound =
    let visit : IsSoundVisit task f fs = sound.0.0 in
    let noted : IsNoteOf task f.place.position (path_of task fs) note = sound.1 in
    (ap key_of noted.about ∙ sym visit.listed.key, noted.same_attacker)
asks_sound task (Posting None) fs sound = tt
asks_sound task (Posting (Some note)) fs sound = sound.1
asks_sound task (Winding end) fs sound = leave_nothing task fs end
