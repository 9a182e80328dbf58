-- No key stands twice on a worker's path.
use Rattle.std.proofs.Common.{◌≡◌, ◌⊎◌, inl, inr, ℕ, zero, suc, Bool, true, false, List, [], ◌∷◌, ◌++◌, Contains, length, map, arith, refl, sym, ap, subst, ◌∙◌}
use Rattle.std.specs.Prelude.{Some, is_some, if◌then◌else◌, slice_get}
use Rattle.std.proofs.lemmas.Option.{get_or_from_slice_get, none-some, same_Some, slice_get_within}
use Rattle.bit_boards.specs.declared.piece.Side.{Side}
use Rattle.bit_boards.specs.declared.piece.Side.TheVariants.{Black, White}
use Rattle.bit_boards.specs.Kind.{other}
use Rattle.board_core.specs.Board.{Board}
use Rattle.board_core.specs.declared.keys.Key.{Key}
use Rattle.board_core.specs.declared.moves.Move.{Move}
use Rattle.board_core.specs.declared.moves.Move.TheVariants as moves
use Rattle.shogi_rules.specs.Rules.{after}
use Rattle.pn_numbers.specs.declared.node.Node.{Node}
use Rattle.pn_numbers.specs.declared.node.Node.TheVariants.{Attacker, Defender}
use Rattle.notes.specs.declared.words.Kept.{Kept}
use Rattle.notes.specs.declared.words.Seen.{Seen}
use Rattle.notes.specs.declared.words.Draw.TheVariants.{Go, Done, Spent as AllDrawn}
use Rattle.notes.specs.declared.words.RoomAnswer.TheVariants.{Room, NoRoom as Full}
use Rattle.visit_log.specs.declared.parts.Child.{Child}
use Rattle.visit_log.specs.declared.parts.Entry.{Entry}
use Rattle.visit_log.specs.declared.parts.Left.{Left}
use Rattle.visit_log.specs.declared.parts.Left.TheVariants.{Solved, Open}
use Rattle.visit_log.specs.declared.parts.Stage.{Stage}
use Rattle.visit_log.specs.declared.parts.Stage.TheVariants.{Polling, Drawing, Entering, Looking, Claiming, Leaving, Posting, Winding}
use Rattle.visit_log.specs.declared.words.WorkEnd.{WorkEnd}
use Rattle.visit_log.specs.declared.words.Reply.{Reply}
use Rattle.visit_log.specs.declared.words.Reply.TheVariants.{Poll as Polled, Draw as Drew, Claim as Claimed, Look as Looked, Enter as Entered, Leave as LeftIt, Post as PostedIt}
use Rattle.visit_log.specs.Frame.{Task, attacker_in, node_at, node_of, Place, FrameView}
use Rattle.visit_log.specs.Visit.{path_at, path_with}
use Rattle.visit_log.specs.Machine.{State, path_of, place_by, at_stage, start, bare, entered_ones, wind, starve, starve_at, starve_winding, GoesOn, Opens, Sees, Makes, Returns, Begins, keep, one_visit, one_claim, rest_of, LeadsAt}
use Rattle.visit_log.specs.Run.{Happening, Told, Dark, Starved, Happens, Runs}
use Rattle.visit_log.specs.Sound.{AreSound, IsPlaced, IsSound, IsSoundAt, IsSoundChild, IsSoundEntry}
use Rattle.visit_log.specs.Laws.{NoRepeats, PathsHaveNoRepeats}
use Rattle.visit_log.proofs.Slots.{settles_keeps}
use Rattle.visit_log.proofs.SoundChildren.{of_child}
use Rattle.visit_log.proofs.SoundSteps.{start_sound, stays_sound}

-- 1. LISTS OF KEYS.

none_twice : NoRepeats []
none_twice i j key there also = absurd (none-some key there)

-- What stands in a list still does when one more key stands behind it.
get_front : (path : List Key) (last : Key) (i : ℕ) (key : Key) → slice_get path i ≡ Some key → slice_get (path ++ last ∷ []) i ≡ Some key
get_front [] last i key there = absurd (none-some key there)
get_front (k ∷ ks) last zero key there = there
get_front (k ∷ ks) last (suc i) key there = get_front ks last i key there

-- What stands there then stood there before, or is the last.
get_back : (path : List Key) (last : Key) (i : ℕ) (key : Key) → slice_get (path ++ last ∷ []) i ≡ Some key
    → (slice_get path i ≡ Some key) ⊎ ((i ≡ length path) × (last ≡ key))
get_back [] last zero key there = inr (refl, same_Some last key there)
get_back [] last (suc i) key there = absurd (none-some key there)
get_back (k ∷ ks) last zero key there = inl there
get_back (k ∷ ks) last (suc i) key there = elim (get_back ks last i key there) [
  | inl before ↦ inl before
  | inr is ↦ inr (ap suc is.0, is.1)
]

-- What stands at a place of a list is in it.
contains_at : (path : List Key) (i : ℕ) (key : Key) → slice_get path i ≡ Some key → Contains path key
contains_at path i key there = (i, slice_get_within path i key there, get_or_from_slice_get path i key key there)

-- One key less.
shorter : (path : List Key) (last : Key) → NoRepeats (path ++ last ∷ []) → NoRepeats path
shorter path last once i j key a b = once i j key (get_front path last i key a) (get_front path last j key b)

-- One key more, which doesn't stand there.
longer : (path : List Key) (last : Key) → (Contains path last → ⊥) → NoRepeats path → NoRepeats (path ++ last ∷ [])
longer path last new once i j key a b = by_places (get_back path last i key a) (get_back path last j key b)
  where
    by_places : (slice_get path i ≡ Some key) ⊎ ((i ≡ length path) × (last ≡ key))
        → (slice_get path j ≡ Some key) ⊎ ((j ≡ length path) × (last ≡ key)) → i ≡ j
    by_places (inl first) (inl second) = once i j key first second
    by_places (inl first) (inr second) = absurd (new (contains_at path i last (first ∙ ap Some (sym second.1))))
    by_places (inr first) (inl second) = absurd (new (contains_at path j last (second ∙ ap Some (sym first.1))))
    by_places (inr first) (inr second) = first.0 ∙ sym second.0

-- 2. PATHS.

-- Before a node the path is no longer.
before_node : (node : Node) (key : Key) (path : List Key) → NoRepeats (path_with node key path) → NoRepeats path
before_node Attacker key path once = shorter path key once
before_node Defender key path once = once

-- Behind a node the path has one more key, which is new.
behind_node : (node : Node) (key : Key) (path : List Key) → (node ≡ Attacker → Contains path key → ⊥) → NoRepeats path
    → NoRepeats (path_with node key path)
behind_node Attacker key path new once = longer path key (new refl) once
behind_node Defender key path new once = once

-- The path of visits without the innermost.
rest_once : (task : Task) (fs : List FrameView) → NoRepeats (path_of task fs) → NoRepeats (path_of task (rest_of fs))
rest_once task [] once = once
rest_once task (f ∷ fs) once = before_node (node_at (attacker_in task) f.place.position) f.place.key (path_of task fs) once

-- Visits that wind up stand on the same path.
pub bare_path : (task : Task) (fs : List FrameView) → path_of task (map bare fs) ≡ path_of task fs
bare_path task [] = refl
bare_path task (f ∷ fs) = ap (λ (path : List Key). path_at task f.place path) (bare_path task fs)

-- So do those that have entered their positions, but perhaps without the innermost.
entered_once : (task : Task) (fs : List FrameView) → NoRepeats (path_of task fs) → NoRepeats (path_of task (entered_ones fs))
entered_once task [] once = once
entered_once task (f ∷ fs) once = by_kept (is_some f.kept)
  where
    by_kept : (b : Bool) → NoRepeats (path_of task (if b then bare f ∷ map bare fs else map bare fs))
    by_kept true = subst NoRepeats (sym (bare_path task (f ∷ fs))) once
    by_kept false = subst NoRepeats (sym (bare_path task fs)) (rest_once task (f ∷ fs) once)

-- 3. A NEW KEY.

-- The attacker is to move where the defender has moved.
turns : (attacker : Side) (b : Board) (by : Move) → node_at attacker (after b by) ≡ Attacker → node_at attacker b ≡ Defender
turns attacker b by attacks = by_sides attacker b.side (subst (λ (side : Side). node_of attacker side ≡ Attacker) (passed by) attacks)
  where
    passed : (by : Move) → (after b by).side ≡ other b.side
    passed (moves.Board from to promote) = refl
    passed (moves.Drop dropped to) = refl

    by_sides : (attacker side : Side) → node_of attacker (other side) ≡ Attacker → node_of attacker side ≡ Defender
    by_sides Black Black is = absurd (cc)
    by_sides Black White is = refl
    by_sides White Black is = refl
    by_sides White White is = absurd (cc)

-- The key of an attacker's position that is visited over sound visits doesn't stand on their path.
new_key : (task : Task) (fs : List FrameView) (p : Place) → AreSound task fs → IsPlaced task fs p → node_at (attacker_in task) p.position ≡ Attacker
    → Contains (path_of task fs) p.key → ⊥
new_key task [] p are placed attacks there = let h = there.1 in absurd (omega (arith, h))
new_key task (g ∷ gs) p are placed attacks there =
    let path = path_of task (g ∷ gs) in
    let child : Child = placed.0 in
    let known = of_child (IsSoundChild task g.place.position path) g.children g.chosen child are.0.listed.children placed.1 in
    let defends = turns (attacker_in task) g.place.position child.by
    (subst (λ (b : Board). node_at (attacker_in task) b ≡ Attacker) placed.2 attacks) in
    known.off_path placed.4 defends (subst (Contains path) placed.3 there)

-- 4. WHERE A WORKER COMES.

-- No key stands twice on the path of a state.
abbrev Once : Task → State → Type 0
Once task s = NoRepeats (path_of task s.frames)

-- It winds up.
winds_once : (task : Task) (s t : State) (end : WorkEnd) → Once task s → t ≡ wind s end → Once task t
winds_once task s t end once is = subst (Once task) (sym is) (entered_once task s.frames once)

-- The innermost visit goes on.
goes_once : (task : Task) (s t : State) (f : FrameView) (fs : List FrameView) → NoRepeats (path_of task (f ∷ fs)) → GoesOn task s f fs t → Once task t
goes_once task s t f fs once on =
    let k = settles_keeps task f t.stage on.next on.settles in
    subst (Once task) (sym on.is) (subst (λ (p : Place). NoRepeats (path_at task p (path_of task fs))) (sym k.place) once)

-- A visit begins.
begins_once : (task : Task) (s t : State) (entry : Entry) → AreSound task s.frames → IsSoundEntry task s.frames entry → Once task s
    → Begins task s entry t → Once task t
begins_once task s t entry are entry_is once (inl begun) =
    let p : Place = place_by task s.frames entry in
    subst (Once task) (sym begun.1)
    (behind_node (node_at (attacker_in task) p.position) p.key (path_of task s.frames) (new_key task s.frames p are entry_is.placed) once)
begins_once task s t entry are entry_is once (inr lost) = winds_once task (one_visit s) t _ once lost

opens_once : (task : Task) (s t : State) (fs : List FrameView) (kept : Kept) → NoRepeats (path_of task fs) → Opens task s fs kept t → Once task t
opens_once task s t [] kept once h = absurd h
opens_once task s t (f ∷ fs) kept once (inl listed) = goes_once task s t _ fs once listed.2
opens_once task s t (f ∷ fs) kept once (inr lost) = winds_once task (at_stage s Entering (keep f kept ∷ fs)) t _ once lost

sees_once : (task : Task) (s t : State) (place : ℕ) (fs : List FrameView) (seen : Seen) → NoRepeats (path_of task fs)
    → Sees task s place fs seen t → Once task t
sees_once task s t place [] seen once h = absurd h
sees_once task s t place (f ∷ fs) seen once (inl sight) = goes_once task s t _ fs once sight.5
sees_once task s t place (f ∷ fs) seen once (inr lost) = winds_once task (at_stage s (Looking place) (f ∷ fs)) t _ once lost.1

makes_once : (task : Task) (s t : State) (fs : List FrameView) → Once task s → Makes task s fs t → Once task t
makes_once task s t [] once h = absurd h
makes_once task s t (f ∷ fs) once (inl made) = subst (Once task) (sym made.2) once
makes_once task s t (f ∷ fs) once (inr refused) = winds_once task (one_claim s) t _ once refused.2

returns_once : (task : Task) (s t : State) (fs : List FrameView) (left : Left) → NoRepeats (path_of task fs) → Returns task s fs left t → Once task t
returns_once task s t [] (Solved note) once h = subst (Once task) (sym h) once
returns_once task s t [] (Open numbers) once h = absurd h
returns_once task s t (g ∷ gs) (Solved note) once h = goes_once task s t _ gs once h.2
returns_once task s t (g ∷ gs) (Open numbers) once h = goes_once task s t _ gs once h.2

-- An answer comes.
leads_once : (task : Task) (s t : State) (stage : Stage) (answer : Reply) → IsSoundAt task stage s.frames → Once task s
    → LeadsAt task s stage answer t → Once task t
leads_once task s t (Polling entry) (Polled true) sound once h = winds_once task s t _ once h
leads_once task s t (Polling entry) (Polled false) sound once h = subst (Once task) (sym h) once
leads_once task s t (Drawing entry) (Drew (Go number)) sound once h = begins_once task s t entry sound.0 sound.1 once h
leads_once task s t (Drawing entry) (Drew Done) sound once h = winds_once task s t _ once h
leads_once task s t (Drawing entry) (Drew AllDrawn) sound once h = winds_once task s t _ once h
leads_once task s t Entering (Entered kept) sound once h = opens_once task s t s.frames kept once h
leads_once task s t (Looking place) (Looked seen) sound once h = sees_once task s t place s.frames seen once h
leads_once task s t Claiming (Claimed Full) sound once h = winds_once task s t _ once h
leads_once task s t Claiming (Claimed (Room room)) sound once h = makes_once task s t s.frames once h
leads_once task s t (Leaving left) LeftIt sound once h = returns_once task s t (rest_of s.frames) left (rest_once task s.frames once) h
leads_once task s t (Posting posted) PostedIt sound once h = winds_once task s t _ once h
leads_once task s t (Winding end) LeftIt sound once h = subst (Once task) (sym h) (rest_once task s.frames once)
leads_once task s t stage answer sound once h = absurd h

-- It is starved.
starved_once : (task : Task) (s t : State) → Once task s → t ≡ starve s → Once task t
starved_once task s t once is = subst (Once task) (sym is) (by_stage s.stage)
  where
    by_frames : (end : WorkEnd) (fs : List FrameView) → NoRepeats (path_of task fs) → Once task (starve_winding s end fs)
    by_frames end [] none = none
    by_frames end (f ∷ fs) none = none

    by_stage : (stage : Stage) → Once task (starve_at s stage)
    by_stage (Winding end) = by_frames end s.frames once
    by_stage (Polling entry) = entered_once task s.frames once
    by_stage (Drawing entry) = entered_once task s.frames once
    by_stage Entering = entered_once task s.frames once
    by_stage (Looking place) = entered_once task s.frames once
    by_stage Claiming = entered_once task s.frames once
    by_stage (Leaving left) = entered_once task s.frames once
    by_stage (Posting posted) = entered_once task s.frames once

-- Whatever happens to a sound worker.
happens_once : (task : Task) (s t : State) (happening : Happening) → IsSound task s → Once task s → Happens task s happening t → Once task t
happens_once task s t (Told request answer) sound once h = leads_once task s t s.stage answer sound once h.2
happens_once task s t (Dark request) sound once h = starved_once task s t once h.2
happens_once task s t Starved sound once h = starved_once task s t once h

-- One thing after the other.
runs_once : (task : Task) (happenings : List Happening) (s t : State) → IsSound task s → Once task s → Runs task s happenings t → Once task t
runs_once task [] s t sound once runs = subst (Once task) runs once
runs_once task (happening ∷ happenings) s t sound once (u, happens, runs) =
    runs_once task happenings u t (stays_sound task s u happening sound happens) (happens_once task s u happening sound once happens) runs

-- No key stands twice on a worker's path.
pub paths_once : PathsHaveNoRepeats
paths_once task happenings s runs = runs_once task happenings (start task) s (start_sound task) none_twice runs
