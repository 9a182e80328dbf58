-- What is known of the children stays sound through a look and a visit, and none that is looked at
-- or visited is on the path.
use Rattle.std.proofs.Common.{◌≡◌, ◌⊎◌, inl, inr, ℕ, zero, suc, Bool, true, false, cond, List, [], ◌∷◌, All, Contains, map, arith, refl, sym, ap, subst, ◌∙◌, find, is_some, Some, None, Option}
use Rattle.std.specs.Prelude.{slice_get, slice_set}
use Rattle.board_core.specs.Board.{Board}
use Rattle.board_core.specs.Key.{key_of}
use Rattle.board_core.specs.declared.keys.Key.{Key}
use Rattle.board_core.specs.declared.moves.Move.{Move}
use Rattle.notes.specs.Derivation.{Derivation, carried}
use Rattle.notes.specs.declared.words.Seen.{Seen}
use Rattle.notes.specs.declared.words.Seen.TheVariants.{New, Open as Known, Solved as Shown, Lent}
use Rattle.path_tags.specs.Tag.{IsWithin}
use Rattle.pn_numbers.specs.Numbers.{IsOpen}
use Rattle.pn_numbers.specs.declared.node.Node.{Node}
use Rattle.pn_numbers.specs.declared.numbers.Numbers.{Numbers}
use Rattle.shogi_rules.specs.Rules.{after}
use Rattle.std.proofs.lemmas.Bool.{or_left, or_parts, true≢false}
use Rattle.std.proofs.lemmas.List.Elements.{All-head, All-tail}
use Rattle.std.proofs.lemmas.List.Quantifiers.{position-Some}
use Rattle.std.proofs.lemmas.Option.{get_or_from_slice_get, none-some, same_Some, slice_get_within}
use Rattle.visit_log.specs.Children.{IsNewChild, child_is_due, decides, deciding, first_due, first_look, is_due, is_fresh, is_solved, move_to, shows_escape}
use Rattle.visit_log.specs.Frame.{Task, FrameView, attacker_in, node_at}
use Rattle.visit_log.specs.Round.{LooksNext, MayShow, Selects, Tells, staled, staled_look, told, visited}
use Rattle.visit_log.specs.Sound.{IsLookedAt, IsNoteOf, IsOnPath, IsSoundChild}
use Rattle.visit_log.specs.declared.parts.Child.{Child}
use Rattle.visit_log.specs.declared.parts.Left.{Left}
use Rattle.visit_log.specs.declared.parts.Left.TheVariants.{Open, Solved}
use Rattle.visit_log.specs.declared.parts.Look.{Look}
use Rattle.visit_log.specs.declared.parts.Look.TheVariants.{Due, Fresh, Stale}

-- 1. CHILDREN IN THEIR LIST.

-- What holds of all children holds of the one at a place.
pub of_child : (P : Child → Type 0) (children : List Child) (place : ℕ) (child : Child) → All P children → slice_get children place ≡ Some child
    → P child
of_child P children place child all there =
    subst P (get_or_from_slice_get children place child child there) (all place child (slice_get_within children place child there))

-- What holds of all children holds of the one that is found.
pub of_found : (P : Child → Type 0) (test : Child → Bool) (children : List Child) (child : Child) → All P children
    → find test children ≡ Some child → P child
of_found P test [] child all found = absurd (none-some child found)
of_found P test (first ∷ rest) child all found =
    by_test (test first) (of_found P test rest child (All-tail P first rest all)) found
  where
    by_test : (b : Bool) → (find test rest ≡ Some child → P child) → cond b (Some first) (find test rest) ≡ Some child → P child
    by_test true later e = subst P (same_Some first child e) (All-head P first rest all)
    by_test false later e = later e

-- Where none is found, the child at a place isn't such.
pub not_found : (test : Child → Bool) (children : List Child) (place : ℕ) (child : Child) → find test children ≡ None
    → slice_get children place ≡ Some child → test child ≡ false
not_found test [] place child none there = absurd (none-some child there)
not_found test (first ∷ rest) zero child none there = by_test (test first) refl none
  where
    by_test : (b : Bool) → test first ≡ b → cond b (Some first) (find test rest) ≡ None → test child ≡ false
    by_test true e found = absurd (none-some first (sym found))
    by_test false e found = subst (λ (c : Child). test c ≡ false) (same_Some first child there) e
not_found test (first ∷ rest) (suc place) child none there = not_found test rest place child (by_test (test first) none) there
  where
    by_test : (b : Bool) → cond b (Some first) (find test rest) ≡ None → find test rest ≡ None
    by_test true found = absurd (none-some first (sym found))
    by_test false found = found

-- A child of the same move in the place of one leaves the moves as they are.
pub moves_set : (children : List Child) (place : ℕ) (child new : Child) → slice_get children place ≡ Some child → new.by ≡ child.by
    → map move_to (slice_set children place new) ≡ map move_to children
moves_set [] place child new there same = absurd (none-some child there)
moves_set (first ∷ rest) zero child new there same =
    ap (λ (by : Move). by ∷ map move_to rest) (same ∙ ap move_to (sym (same_Some first child there)))
moves_set (first ∷ rest) (suc place) child new there same =
    ap (λ (moves : List Move). first.by ∷ moves) (moves_set rest place child new there same)

-- So does the beginning of a round.
pub moves_staled : (children : List Child) → map move_to (map staled children) ≡ map move_to children
moves_staled [] = refl
moves_staled (first ∷ rest) = ap (λ (moves : List Move). first.by ∷ moves) (moves_staled rest)

-- 2. NONE IS ON THE PATH THAT IS LOOKED AT OR VISITED.

-- No child decides a node that isn't solved.
pub none_decides : (node : Node) (children : List Child) → is_solved node children ≡ false → deciding node children ≡ None
none_decides node children unsolved = by_one (deciding node children) (or_parts (is_some (deciding node children)) _ unsolved).0
  where
    by_one : (one : Option Child) → is_some one ≡ false → one ≡ None
    by_one None e = refl
    by_one (Some child) e = absurd (cc)

-- A child that is on the path decides its node.
on_path_decides : (node : Node) (path : List Key) (child : Child) → IsOnPath node path child → child.on_path ≡ true → decides node child ≡ true
on_path_decides node path child on is =
    subst (λ (n : Node). decides n child ≡ true) (sym on.defends) (or_left child.on_path (shows_escape child.note) is)

-- So none of the children of an unsolved node is on the path.
pub unsolved_off : (task : Task) (b : Board) (path : List Key) (children : List Child) (place : ℕ) (child : Child)
    → All (IsSoundChild task b path) children → is_solved (node_at (attacker_in task) b) children ≡ false
    → slice_get children place ≡ Some child → child.on_path ≡ false
unsolved_off task b path children place child sound unsolved there = by_test child.on_path refl
  where
    node : Node
    node = node_at (attacker_in task) b

    by_test : (on : Bool) → child.on_path ≡ on → child.on_path ≡ false
    by_test false is = is
    by_test true is =
        let known = of_child (IsSoundChild task b path) children place child sound there in
        let decided = on_path_decides node path child (known.on_path is) is in
        let not_decided = not_found (decides node) children place child (none_decides node children unsolved) there in
        absurd (true≢false (sym decided ∙ not_decided))

-- A child that is due isn't on the path.
pub due_off : (node : Node) (path : List Key) (child : Child) → (child.on_path ≡ true → IsOnPath node path child)
    → is_due child.look ≡ true → child.on_path ≡ false
due_off node path child on due = by_test child.on_path refl
  where
    by_test : (is : Bool) → child.on_path ≡ is → child.on_path ≡ false
    by_test false is = is
    by_test true is = absurd (true≢false (sym due ∙ ap is_due (on is).stale))

-- The child that is looked at next isn't on the path, and this round hasn't looked at it.
pub next_off : (task : Task) (f : FrameView) (path : List Key) (place : ℕ) (child : Child)
    → All (IsSoundChild task f.place.position path) f.children → LooksNext task f place child → IsLookedAt f place
next_off task f path place child sound next = by_next next.next
  where
    by_next : (first_due f.children ≡ Some place) ⊎ ((child.look ≡ Stale) × ((second : ℕ) × Selects task f place second)) → IsLookedAt f place
    by_next (inl first) =
        let found = position-Some child_is_due f.children place child first in
        let due : is_due child.look ≡ true =
        subst (λ (c : Child). is_due c.look ≡ true) (get_or_from_slice_get f.children place child child next.there) found.1 in
        let known = of_child (IsSoundChild task f.place.position path) f.children place child sound next.there in
        record {
          child = child;
          there = next.there;
          off_path = due_off (node_at (attacker_in task) f.place.position) path child known.on_path due;
          unseen = due_unseen child.look due;
        }
      where
        due_unseen : (look : Look) → is_due look ≡ true → is_fresh look ≡ false
        due_unseen Due e = refl
        due_unseen Fresh e = absurd (cc)
        due_unseen Stale e = refl
    by_next (inr stale) = record {
      child = child;
      there = next.there;
      off_path = unsolved_off task f.place.position path f.children place child sound stale.1.1.unsolved next.there;
      unseen = ap is_fresh stale.0;
    }

-- 3. WHAT IS KNOWN OF THEM STAYS SOUND.

-- Of a new child nothing is known that could be wrong.
pub new_sound : (task : Task) (b : Board) (path : List Key) (child : Child) → IsNewChild (attacker_in task) b path child
    → IsSoundChild task b path child
new_sound task b path child new = record {
  key = new.key;
  in_range = subst IsOpen (sym new.numbers) (record { least_pn = omega arith; most_pn = omega arith; least_dn = omega arith; most_dn = omega arith });
  note = λ note is. absurd (none-some note (sym new.no_note ∙ is));
  on_path = λ is. let there = new.on_path.0 is in record {
    defends = there.0;
    there = there.1;
    unsolved = new.no_note;
    stale = new.look ∙ ap first_look is;
  };
  off_path = λ is defends there. absurd (true≢false (sym (new.on_path.1 (defends, there)) ∙ is));
}

-- A child that isn't on the path is sound where its numbers and its note are.
pub off_sound : (task : Task) (b : Board) (path : List Key) (child new : Child) → IsSoundChild task b path child → child.on_path ≡ false
    → new.by ≡ child.by → new.key ≡ child.key → new.on_path ≡ child.on_path → IsOpen new.numbers
    → ((note : Derivation) → new.note ≡ Some note → IsNoteOf task (after b child.by) path note) → IsSoundChild task b path new
off_sound task b path child new sound off by key on_path in_range noted = record {
  key = ap (λ (k : Key). k.0) key ∙ (sound.key ∙ ap (λ (m : Move). key_of (after b m)) (sym by));
  in_range = in_range;
  note = λ note is. subst (λ (m : Move). IsNoteOf task (after b m) path note) (sym by) (noted note is);
  on_path = λ is. absurd (true≢false (sym is ∙ (on_path ∙ off)));
  off_path = λ is defends there. sound.off_path off defends (subst (Contains path) key there);
}

-- An empty tag is within each path.
none_within : (path : List Key) → IsWithin [] path
none_within path key at = absurd (let low = at.1 in omega (arith, low))

-- A child is sound after what may be told of it, where it isn't on the path.
pub told_sound : (task : Task) (b : Board) (path : List Key) (child : Child) (seen : Seen) (start : Numbers) → IsSoundChild task b path child
    → child.on_path ≡ false → MayShow (attacker_in task) child.key path seen → Tells (attacker_in task) b child.by seen start
    → IsSoundChild task b path (told (attacker_in task) b child seen start)
told_sound task b path child New start sound off may tells =
    off_sound task b path child (told (attacker_in task) b child New start) sound off refl refl refl tells.in_range sound.note
told_sound task b path child (Known numbers below) start sound off may tells =
    off_sound task b path child (told (attacker_in task) b child (Known numbers below) start) sound off refl refl refl may sound.note
told_sound task b path child (Shown note) start sound off may tells =
    off_sound task b path child (told (attacker_in task) b child (Shown note) start) sound off refl refl refl sound.in_range (λ other is.
    subst (IsNoteOf task (after b child.by) path) (same_Some note other is)
    (record { valid = may.valid; about = tells; same_attacker = may.same_attacker; within = may.within }))
told_sound task b path child (Lent note) start sound off may tells =
    off_sound task b path child (told (attacker_in task) b child (Lent note) start) sound off refl refl refl sound.in_range (λ other is.
    subst (IsNoteOf task (after b child.by) path) (same_Some (carried (attacker_in task) (after b child.by) note) other is)
    (record { valid = tells; about = refl; same_attacker = refl; within = none_within path }))

-- A child is sound after its visit, where it isn't on the path.
pub visited_sound : (task : Task) (b : Board) (path : List Key) (child : Child) (left : Left) → IsSoundChild task b path child
    → child.on_path ≡ false → ((note : Derivation) → left ≡ Solved note → IsNoteOf task (after b child.by) path note)
    → IsSoundChild task b path (visited child left)
visited_sound task b path child (Open numbers) sound off solved =
    off_sound task b path child (visited child (Open numbers)) sound off refl refl refl sound.in_range sound.note
visited_sound task b path child (Solved note) sound off solved =
    off_sound task b path child (visited child (Solved note)) sound off refl refl refl sound.in_range (λ other is.
    subst (IsNoteOf task (after b child.by) path) (same_Some note other is) (solved note refl))

-- So are the children when a round begins.
pub staled_sound : (task : Task) (b : Board) (path : List Key) (child : Child) → IsSoundChild task b path child
    → IsSoundChild task b path (staled child)
staled_sound task b path child sound = record {
  key = sound.key;
  in_range = sound.in_range;
  note = sound.note;
  on_path = λ is. let on = sound.on_path is in record {
    defends = on.defends;
    there = on.there;
    unsolved = on.unsolved;
    stale = ap staled_look on.stale;
  };
  off_path = sound.off_path;
}
