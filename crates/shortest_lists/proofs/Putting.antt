-- How a position is put behind others, and what stays where it stood.
use Rattle.std.proofs.Common.{◌≡◌, ◌<◌, ◌≤◌, ◌+◌, ◌++◌, inl, inr, ℕ, zero, suc, List, [], ◌∷◌, length, get_or, Contains, arith, refl, sym, subst, ap, ◌∙◌}
use Rattle.std.specs.Prelude.{Some, slice_get, Result, Ok, Err, IsErr, IsErrAnd, IfErr}
use Rattle.board_core.specs.declared.moves.Move.{Move}
use Rattle.board_core.specs.Order.{Lists}
use Rattle.shortest_lists.specs.declared.ends.ListEnd.{ListEnd}
use Rattle.std.proofs.lemmas.Option.{slice_get_within, slice_get_cases, slice_get_read, same_Some}
use Rattle.std.proofs.lemmas.List.{length-append}
use Rattle.std.proofs.lemmas.List.Elements.{Contains-push_cases}
use Rattle.board_core.specs.Board.{Board}
use Rattle.position_places.specs.declared.places.Places.{Places}
use Rattle.position_places.specs.Places.{ArePlacesOf, IsPlaceOrNext, IsWith}
use Rattle.list_laws.proofs.Standing.{contained, apart_more, get_kept}
use Rattle.mate_facts.specs.Entries.{AreApart}
use Rattle.shortest_lists.specs.Placing.{StandOn}
use Rattle.shortest_lists.specs.Reached.{IsReached, HasMoreThan}

-- 1. Places.

pub is_old : (positions : List Board) (q : Board) (place : ℕ) → IsPlaceOrNext positions q place → place < length positions → Contains positions q
is_old positions q place (inl at) less = contained positions place q at
is_old positions q place (inr new) less = let e = new.1 in absurd (omega arith)

pub is_new : (positions : List Board) (q : Board) (place : ℕ) → IsPlaceOrNext positions q place → length positions ≤ place → ¬ Contains positions q
is_new positions q place (inl at) behind = let inside = slice_get_within positions place q at in absurd (omega arith)
is_new positions q place (inr new) behind = new.0

abbrev pub Adds : Places → Board → Places → Type 0
Adds old q new = (positions longer : List Board) → ArePlacesOf old positions → IsWith positions q longer → ArePlacesOf new longer

pub placed_old : (old new : Places) (q : Board) (positions : List Board) (place count : ℕ) → Adds old q new → ArePlacesOf old positions
    → IsPlaceOrNext positions q place → length positions ≡ count → place < count → Contains positions q × ArePlacesOf new positions
placed_old old new q positions place count adds known at many less =
    let there = is_old positions q place at (omega arith) in
    (there, adds positions positions known (inl (there, refl)))

pub placed_new : (old new : Places) (q : Board) (positions : List Board) (place count most : ℕ) → Adds old q new → ArePlacesOf old positions
    → IsPlaceOrNext positions q place → length positions ≡ count → count ≤ place → count < most
    → (¬ Contains positions q) × (length positions < most) × ArePlacesOf new (positions ++ q ∷ [])
placed_new old new q positions place count most adds known at many behind room =
    let absent = is_new positions q place at (omega arith) in
    (absent, omega arith, adds positions (positions ++ q ∷ []) known (inr (absent, refl)))

-- 2. What stays where it stood.

pub stand_same : {X : Type 0} (xs : List X) → StandOn xs xs
stand_same xs place x at = at

pub stand_more : {X : Type 0} (xs ys zs : List X) (x : X) → zs ≡ ys ++ x ∷ [] → StandOn xs ys → StandOn xs zs
stand_more {X} xs ys zs x e stand place y at = subst (λ (l : List X). slice_get l place ≡ Some y) (sym e) (get_kept ys x place y (stand place y at))

pub stand_on : {X : Type 0} (xs ys zs : List X) → StandOn xs ys → StandOn ys zs → StandOn xs zs
stand_on xs ys zs one other place x at = other place x (one place x at)

pub longer_by : {X : Type 0} (xs ys : List X) (x : X) → ys ≡ xs ++ x ∷ [] → length ys ≡ length xs + 1
longer_by {X} xs ys x e = let long = length-append xs (x ∷ []) in let same = ap (λ (l : List X). length l) e in omega (arith, long, same)

pub some_at : {X : Type 0} (xs : List X) (place : ℕ) → place < length xs → (x : X) × (slice_get xs place ≡ Some x)
some_at xs place inside = elim (slice_get_cases xs place).1 [
  | inl found ↦ (found.0, found.2)
  | inr past ↦ (let behind = past.0 in absurd (omega (arith, behind, inside)))
]

-- what stands there now stood there
pub stood : {X : Type 0} (xs ys : List X) → StandOn xs ys → (place : ℕ) (x : X) → place < length xs → slice_get ys place ≡ Some x
    → slice_get xs place ≡ Some x
stood {X} xs ys stand place x inside at =
    let was = some_at xs place inside in
    subst (λ (y : X). slice_get xs place ≡ Some y) (same_Some was.0 x (sym (stand place was.0 was.1) ∙ at)) was.1

-- 3. What is reached.

pub reached_self : (Step : Board → Board → Type 0) (p : Board) → IsReached Step p p
reached_self Step p = (zero, refl)

pub reached_more : (Step : Board → Board → Type 0) (p b q : Board) → IsReached Step p b → Step b q → IsReached Step p q
reached_more Step p b q r s = (suc r.0, (b, r.1, s))

pub more_reached : (Step : Board → Board → Type 0) (p q : Board) (most : ℕ) (positions : List Board) → AreApart positions → ¬ Contains positions q
    → most ≤ length positions → ((b : Board) → Contains positions b → IsReached Step p b) → IsReached Step p q → HasMoreThan Step p most
more_reached Step p q most positions apart absent full each this = record {
  positions = positions ++ q ∷ [];
  apart = apart_more positions q apart absent;
  more = (let long = length-append positions (q ∷ []) in omega (arith, long, full));
  reached = λ b c. elim (Contains-push_cases positions q b c) [
    | inl before ↦ each b before
    | inr same ↦ subst (IsReached Step p) same this
  ];
}

-- 4. What ends a call ends its caller.

pub ended : {X : Type 0} (Q : ListEnd → Type 0) (result : Result X ListEnd) (end : ListEnd) → IsErr result → IsErrAnd result (λ found. found ≡ end)
    → Q end → IfErr result Q
ended Q (Ok value) end is same h = tt
ended Q (Err found) end is same h = subst Q (sym same) h

-- an item of what is listed has what all have
pub item_at : (P : Move → Type 0) (items moves : List Move) → Lists P moves → items ≡ moves → (i : ℕ) (m : Move) → i < length items
    → m ≡ get_or items i m → P m
item_at P items moves lists same i m inside is = lists.sound m (subst (λ (ms : List Move). Contains ms m) same (i, inside, sym is))

pub read_at : {X : Type 0} (items : List X) (i : ℕ) (x : X) → i < length items → x ≡ get_or items i x → slice_get items i ≡ Some x
read_at items i x inside is = slice_get_read items (length items) i x refl inside is

pub none_in : {X : Type 0} (x : X) → Contains [] x → ⊥
none_in x c = let inside = c.1 in omega arith

pub pushed_first : {X : Type 0} (none xs : List X) (x : X) → none ≡ [] → xs ≡ none ++ x ∷ [] → xs ≡ x ∷ []
pushed_first {X} none xs x empty e = e ∙ ap (λ (l : List X). l ++ x ∷ []) empty

pub none_apart : AreApart []
none_apart i j b at there = absurd (let inside = slice_get_within [] i b at in omega arith)

-- what holds of what stands there, holds of all that do
pub at_only : {X : Type 0} (P : X → Type 0) (xs : List X) (place : ℕ) (here : X) → slice_get xs place ≡ Some here → P here
    → (x : X) → slice_get xs place ≡ Some x → P x
at_only P xs place here at holds x there = subst P (same_Some here x (sym at ∙ there)) holds
