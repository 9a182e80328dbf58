-- A position is found by its key exactly where it is listed.
use Rattle.std.proofs.Common.{◌≡◌, ◌<◌, ◌⊎◌, ◌+◌, ◌++◌, inl, inr, ℕ, List, [], ◌∷◌, length, Contains, arith, ap, sym, refl, ◌∙◌, subst, true, false, ⊎_elim, if◌then◌else◌, cond, Bool}
use Rattle.std.specs.Prelude.{Some, None, Option, IfSome, slice_get, IsSome, is_some, unwrap_or}
use Rattle.std.specs.Ordering.{nat_cmp, is_eq}
use Rattle.std.specs.Cmp.Lexicographic.{slice_cmp}
use Rattle.std.specs.BTreeMap.{is_at}
use Rattle.std.specs.BTreeMap as tree
use Rattle.std.specs.HashMap as table
use Rattle.std.proofs.lemmas.Cmp.{nat_list_cmp_total, tied_itself}
use Rattle.std.proofs.lemmas.Map.Lookups.{exact_bytes}
use Rattle.std.proofs.lemmas.List.Elements.{Contains-push_cases}
use Rattle.std.proofs.lemmas.Option.{get_or_from_slice_get, slice_get_within}
use Rattle.std.proofs.lemmas.List.{length_push}
use Rattle.std.proofs.lemmas.Bool.{cases_Bool}
use Rattle.std.proofs.lemmas.Bool.Decides.{Decides-eqb}
use Rattle.std.proofs.lemmas.Slice.Eq.{slice_eq-Decides}
use Rattle.std.specs.Bool.{Decides}
use Rattle.board_laws.proofs.Keys.{equal_of, position_exact}
use Rattle.list_laws.proofs.Standing.{get_kept, get_last, apart_more, contained}
use Rattle.list_laws.proofs.Mapped.{written, unwritten}
use Rattle.board_core.specs.declared.keys.Key.{Key}
use Rattle.board_core.specs.Board.{Board}
use Rattle.board_core.specs.Kept.{IsKept}
use Rattle.board_core.specs.Key.{key_of}
use Rattle.board_core.specs.KeyOrder.{key_cmp}
use Rattle.position_places.specs.Places.{StandsAt, FindsPlaces, IsPlace, IsPlaceOrNext, IsWith, same_words}

-- 1. What one key more changes.

-- keys are found as one exactly where their words are the same
pub words_at : (a k : Key) → is_at (key_cmp a) k ≡ true → a.0 ≡ k.0
words_at a k h = exact_bytes a.0 k.0 (equal_of (key_cmp a k) h)

at_words : (a k : Key) → a.0 ≡ k.0 → is_at (key_cmp a) k ≡ true
at_words a k e = subst (λ (w : List ℕ). is_eq (slice_cmp nat_cmp a.0 w) ≡ true) e (ap is_eq (tied_itself nat_list_cmp_total a.0))

-- two keys have the same words or not
words_cases : (a k : Key) → (a.0 ≡ k.0) ⊎ (a.0 ≡ k.0 → ⊥)
words_cases a k =
    ⊎_elim (λ (yes : is_at (key_cmp a) k ≡ true). inl (words_at a k yes))
    (λ (other : is_at (key_cmp a) k ≡ false). inr (λ e. let hit = at_words a k e in absurd (cc)))
    (cases_Bool (is_at (key_cmp a) k))

-- two keys are equal exactly where their words are the same
words_tell : (a k : Key) → Decides (same_words a k) (a.0 ≡ k.0)
words_tell a k = slice_eq-Decides Decides-eqb a.0 k.0 (same_words a k) refl

words_alike : (a k : Key) → a.0 ≡ k.0 → same_words a k ≡ true
words_alike a k e = (words_tell a k).1 e

words_apart : (a k : Key) → (a.0 ≡ k.0 → ⊥) → same_words a k ≡ false
words_apart a k e = ⊎_elim (λ (yes : same_words a k ≡ true). absurd (e ((words_tell a k).0 yes))) (λ (no : same_words a k ≡ false). no) (cases_Bool (same_words a k))

-- a place was written for a key: that is found for it, and elsewhere what was found before
pub record IsWritten (old new : Key → Option ℕ) (key : Key) (place : ℕ) : Type 0 where
  pub there : (k : Key) → key.0 ≡ k.0 → new k ≡ Some place
  pub elsewhere : (k : Key) → (key.0 ≡ k.0 → ⊥) → new k ≡ old k

pub tree_written : (old new : tree.BTreeMap Key ℕ) (key : Key) (place : ℕ) → tree.Updates key_cmp old new key (Some place)
    → IsWritten (tree.get key_cmp old) (tree.get key_cmp new) key place
tree_written old new key place updates = record {
  there = λ k e. written key_cmp old new key place updates k (at_words key k e);
  elsewhere = λ k other.
      ⊎_elim (λ (yes : is_at (key_cmp key) k ≡ true). absurd (other (words_at key k yes)))
      (λ (no : is_at (key_cmp key) k ≡ false). unwritten key_cmp old new key place updates k no)
      (cases_Bool (is_at (key_cmp key) k));
}

pub table_written : {S : Type 0} (old new : table.HashMap Key ℕ S) (key : Key) (place : ℕ) → table.Updates same_words old new key (Some place)
    → IsWritten (table.get same_words old) (table.get same_words new) key place
table_written old new key place updates = record {
  there = λ k e. subst (λ (t : Bool). table.get same_words new k ≡ cond t (Some place) (table.get same_words old k)) (words_alike key k e) (updates.0 k);
  elsewhere = λ k other. subst (λ (t : Bool). table.get same_words new k ≡ cond t (Some place) (table.get same_words old k)) (words_apart key k other) (updates.0 k);
}

-- 2. The places with one position more.

some_from : (o : Option ℕ) (place : ℕ) → o ≡ Some place → IsSome o
some_from o place e = subst (λ (x : Option ℕ). IsSome x) (sym e) refl

absurd_some : IsSome {T = ℕ} None → ⊥
absurd_some h = cc

same_place : (place q : ℕ) → Some place ≡ Some q → place ≡ q
same_place place q e = cc

right_after : (old new : Key → Option ℕ) (n : ℕ) (key : Key) (p : Board) (place : ℕ) (positions : List Board) → key.0 ≡ key_of p
    → IsWritten old new key place → FindsPlaces old n positions → place ≡ length positions
    → (k : Key) (q : ℕ) → new k ≡ Some q → StandsAt (positions ++ p ∷ []) q k
right_after old new n key p place positions words updates places last k q h =
    ⊎_elim
    (λ (yes : key.0 ≡ k.0).
    let same = same_place place q (sym (updates.there k yes) ∙ h) in
    record {
      position = p;
      there = subst (λ (n : ℕ). slice_get (positions ++ p ∷ []) n ≡ Some p) (sym last ∙ same) (get_last positions p);
      has_key = sym words ∙ yes;
    })
    (λ (other : key.0 ≡ k.0 → ⊥).
    let s = places.right k q (sym (updates.elsewhere k other) ∙ h) in
    record { position = s.position; there = get_kept positions p q s.position s.there; has_key = s.has_key })
    (words_cases key k)

all_after : (old new : Key → Option ℕ) (n : ℕ) (key : Key) (p : Board) (place : ℕ) (positions : List Board) → key.0 ≡ key_of p
    → IsWritten old new key place → FindsPlaces old n positions
    → (k : Key) (b : Board) → Contains (positions ++ p ∷ []) b → key_of b ≡ k.0 → IsSome (new k)
all_after old new n key p place positions words updates places k b there has =
    ⊎_elim
    (λ (yes : key.0 ≡ k.0). some_from _ place (updates.there k yes))
    (λ (other : key.0 ≡ k.0 → ⊥).
    subst (λ (o : Option ℕ). IsSome o) (sym (updates.elsewhere k other))
    (⊎_elim
    (λ (before : Contains positions b). places.all k b before has)
    (λ (e : p ≡ b). absurd (other (words ∙ (ap key_of e ∙ has))))
    (Contains-push_cases positions p b there)))
    (words_cases key k)

-- one more is counted
count_after : (old new : ℕ) (o : Option ℕ) (positions : List Board) (p : Board) → o ≡ None → new ≡ old + (if is_some o then 0 else 1)
    → old ≡ length positions → new ≡ length (positions ++ p ∷ [])
count_after old new None positions p none more count = let n = length_push positions p in omega arith
count_after old new (Some place) positions p none more count = absurd (cc)

-- a position more is found too
one_more : (old new : Key → Option ℕ) (n m : ℕ) (key : Key) (p : Board) (place : ℕ) (o : Option ℕ) (positions : List Board) → key.0 ≡ key_of p → IsKept p
    → IsWritten old new key place → o ≡ None
    → m ≡ n + (if is_some o then 0 else 1) → FindsPlaces old n positions
    → place ≡ length positions → ¬ Contains positions p → FindsPlaces new m (positions ++ p ∷ [])
one_more old new n m key p place o positions words kept updates none more places last absent = record {
  apart = apart_more positions p places.apart absent;
  kept = λ b there.
      ⊎_elim (λ (before : Contains positions b). places.kept b before) (λ (e : p ≡ b). subst IsKept e kept) (Contains-push_cases positions p b there);
  right = right_after old new n key p place positions words updates places last;
  all = all_after old new n key p place positions words updates places;
  count = count_after _ _ o positions p none more places.count;
}

-- the places after a position's place was written again
right_again : (old new : Key → Option ℕ) (n : ℕ) (key : Key) (p : Board) (place : ℕ) (positions : List Board) → key.0 ≡ key_of p
    → IsWritten old new key place → FindsPlaces old n positions → slice_get positions place ≡ Some p
    → (k : Key) (q : ℕ) → new k ≡ Some q → StandsAt positions q k
right_again old new n key p place positions words updates places there k q h =
    ⊎_elim
    (λ (yes : key.0 ≡ k.0).
    let same = same_place place q (sym (updates.there k yes) ∙ h) in
    record { position = p; there = subst (λ (n : ℕ). slice_get positions n ≡ Some p) same there; has_key = sym words ∙ yes })
    (λ (other : key.0 ≡ k.0 → ⊥). places.right k q (sym (updates.elsewhere k other) ∙ h))
    (words_cases key k)

all_again : (old new : Key → Option ℕ) (n : ℕ) (key : Key) (place : ℕ) (positions : List Board)
    → IsWritten old new key place → FindsPlaces old n positions
    → (k : Key) (b : Board) → Contains positions b → key_of b ≡ k.0 → IsSome (new k)
all_again old new n key place positions updates places k b there has =
    ⊎_elim
    (λ (yes : key.0 ≡ k.0). some_from _ place (updates.there k yes))
    (λ (other : key.0 ≡ k.0 → ⊥). subst (λ (o : Option ℕ). IsSome o) (sym (updates.elsewhere k other)) (places.all k b there has))
    (words_cases key k)

-- what is listed isn't listed again
with_listed : (positions : List Board) (p : Board) (longer : List Board) → Contains positions p → IsWith positions p longer → longer ≡ positions
with_listed positions p longer there (inl old) = old.1
with_listed positions p longer there (inr new) = absurd (new.0 there)

-- what isn't is listed behind the others
with_new : (positions : List Board) (p : Board) (longer : List Board) → ¬ Contains positions p → IsWith positions p longer
    → longer ≡ positions ++ p ∷ []
with_new positions p longer absent (inl old) = absurd (absent old.0)
with_new positions p longer absent (inr new) = new.1

-- 3. What is found.

-- what is found by the key is the place of the position
pub found : (find : Key → Option ℕ) (n : ℕ) (key : Key) (p : Board) (o : Option ℕ) (positions : List Board) → key.0 ≡ key_of p
    → IsKept p → o ≡ find key → FindsPlaces find n positions → IsPlace positions p o
found find n key p None positions words kept e known =
    λ there. let h = subst (λ (o : Option ℕ). IsSome o) (sym e) (known.all key p there (sym words)) in absurd_some h
found find n key p (Some place) positions words kept e known =
    let s = known.right key place (sym e) in
    let inside = slice_get_within positions place s.position s.there in
    let one = known.kept s.position (place, inside, get_or_from_slice_get positions place s.position s.position s.there) in
    s.there ∙ ap (λ (b : Board). Some b) (position_exact s.position p one kept (s.has_key ∙ words))

-- what is found by a key is one of the places
pub found_within : (find : Key → Option ℕ) (n : ℕ) (key : Key) (o : Option ℕ) → o ≡ find key
    → IfSome o (λ place. (positions : List Board) → FindsPlaces find n positions → place < length positions)
found_within find n key None e = tt
found_within find n key (Some place) e = λ positions known.
    let s = known.right key place (sym e) in slice_get_within positions place s.position s.there

-- what the places come to where the position's place is written, the one that is known or the next
pub after_entry : (old new : Key → Option ℕ) (n m : ℕ) (key : Key) (p : Board) (o : Option ℕ) (next place : ℕ) (positions longer : List Board)
    → key.0 ≡ key_of p → IsKept p → IsPlace positions p o → place ≡ unwrap_or o next
    → IsWritten old new key place
    → m ≡ n + (if is_some o then 0 else 1) → next ≡ n
    → FindsPlaces old n positions → IsWith positions p longer → FindsPlaces new m longer
after_entry old new n m key p None next place positions longer words kept absent same updates more last places with =
    subst (FindsPlaces new m) (sym (with_new positions p longer absent with))
    (one_more old new n m key p place None positions words kept updates refl more places (same ∙ (last ∙ places.count)) absent)
after_entry old new n m key p (Some known) next place positions longer words kept at same updates more last places with =
    let there = subst (λ (n : ℕ). slice_get positions n ≡ Some p) (sym same) at in
    subst (FindsPlaces new m) (sym (with_listed positions p longer (contained positions known p at) with))
    (record {
      apart = places.apart;
      kept = places.kept;
      right = right_again old new n key p place positions words updates places there;
      all = all_again old new n key place positions updates places;
      count = omega (arith, more, places.count);
    })

-- that place is the position's, or the next
pub place_of_entry : (positions : List Board) (p : Board) (o : Option ℕ) (next place : ℕ) → IsPlace positions p o → place ≡ unwrap_or o next
    → next ≡ length positions → IsPlaceOrNext positions p place
place_of_entry positions p None next place absent same last = inr (absent, same ∙ last)
place_of_entry positions p (Some known) next place at same last = inl (subst (λ (n : ℕ). slice_get positions n ≡ Some p) (sym same) at)
