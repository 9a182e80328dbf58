-- The keys of the positions of one board and side are those between two keys, and their places are
-- told apart by them.
use Rattle.std.proofs.Common.{◌≡◌, ◌<◌, ◌≤◌, ◌+◌, ◌-◌, ◌^◌, ◌++◌, ℕ, zero, suc, List, [], ◌∷◌, Option, Bool, true, false, cond, nat_eq, ◌==◌, inl, inr, length, get_or, Contains, arith, ap, sym, refl, ◌∙◌, subst}
use Rattle.std.specs.Prelude.{Some, None, slice_get, slice_set, IsSome}
use Rattle.std.specs.List.{All, filter, IsDistinct}
use Rattle.std.specs.List.Sorted.{IsPermutation, IsSorted}
use Rattle.std.specs.Ordering.{nat_cmp, is_gt, ordering_then}
use Rattle.std.specs.declared.cmp.Ordering.{Ordering}
use Rattle.std.specs.declared.cmp.Ordering.TheVariants.{Less, Equal, Greater}
use Rattle.std.specs.declared.ops.Bound.TheVariants.{Included}
use Rattle.std.specs.Cmp.Lexicographic.{slice_cmp}
use Rattle.std.specs.Map.{values_of, keys_of}
use Rattle.std.specs.BTreeMap.{get, is_at, BTreeMap, IsOrdered}
use Rattle.std.specs.BTreeMap.Range.{IsInRange, IsEntryInRange, range_contains, entries_between, EntryPlaces}
use Rattle.std.proofs.lemmas.Cmp.{nat_list_cmp_total, nat_cmp_total, tied_itself, ranked, nat_eq_equiv}
use Rattle.std.specs.Option.{option_map}
use Rattle.std.proofs.Math.ListN.{length-map}
use Rattle.std.proofs.lemmas.Bool.{cases_Bool}
use Rattle.std.proofs.lemmas.List.Elements.{All-contains}
use Rattle.std.proofs.lemmas.Option.{same_Some, slice_get-map, slice_get-get_or, get_or_from_slice_get, slice_get_within}
use Rattle.std.proofs.lemmas.Map.Entries.{place_from_lookup}
use Rattle.std.proofs.lemmas.Map.Keys.{Less-from_sorted, IsDistinct-from_apart, IsDistinct-IsPermutation, IsStrictlyIncreasing-from_distinct}
use Rattle.std.proofs.lemmas.Map.Views.{range_contains-from_IsInRange, by_place, exact_unsigned_eq}
use Rattle.std.proofs.lemmas.List.Sorted.{IsNonDecreasingBy-from_sort, IsPermutation-sym, Contains-permutation}
use Rattle.bit_boards.specs.declared.piece.Side.{Side}
use Rattle.bit_boards.specs.declared.piece.Side.TheVariants.{Black, White}
use Rattle.board_core.specs.declared.keys.Key.{Key}
use Rattle.board_core.specs.Board.{Board}
use Rattle.board_core.specs.Kept.{IsKept}
use Rattle.board_core.specs.Key.{key_word, hands_word, key_of}
use Rattle.board_laws.proofs.Keys.{cells_exact, position_exact, hand_small, modest_black, modest_white, key_total}
use Rattle.list_laws.proofs.Standing.{contained, at_place, from_map, contains_map}
use Rattle.position_places.specs.declared.by_board.BoardPlaces.{BoardPlaces}
use Rattle.position_places.specs.Places.{AreBoardPlacesOf}
use Rattle.board_core.specs.KeyOrder.{key_cmp}
use Rattle.position_places.specs.Boards.{IsOnBoardOf, StandsOnBoard, ArePlacesOnBoard, AreBoardKeys, least_hands}
use Rattle.position_places.proofs.Finding.{words_at}

-- 1. Lists of words that differ in the last alone.

by_order : (w k : ℕ) (r s : Ordering) → r ≡ nat_cmp w k → s ≡ nat_cmp k w → (o p : Ordering)
    → is_gt (ordering_then r o) ≡ false → is_gt (ordering_then s p) ≡ false → (w ≡ k) × (is_gt o ≡ false) × (is_gt p ≡ false)
by_order w k Less Less e f o p h g = let x = ranked w k Less e in let y = ranked k w Less f in absurd (omega arith)
by_order w k Less Equal e f o p h g = let x = ranked w k Less e in let y = ranked k w Equal f in absurd (omega arith)
by_order w k Less Greater e f o p h g = absurd (cc)
by_order w k Equal Less e f o p h g = let x = ranked w k Equal e in let y = ranked k w Less f in absurd (omega arith)
by_order w k Equal Equal e f o p h g = (ranked w k Equal e, h, g)
by_order w k Equal Greater e f o p h g = absurd (cc)
by_order w k Greater s e f o p h g = absurd (cc)

not_above : (a b : ℕ) (r : Ordering) → r ≡ nat_cmp a b → is_gt (ordering_then r Equal) ≡ false → a ≤ b
not_above a b Less e h = let x = ranked a b Less e in omega arith
not_above a b Equal e h = let x = ranked a b Equal e in omega arith
not_above a b Greater e h = absurd (cc)

not_greater : (a b : ℕ) (r : Ordering) → r ≡ nat_cmp a b → a ≤ b → is_gt (ordering_then r Equal) ≡ false
not_greater a b Less e h = refl
not_greater a b Equal e h = refl
not_greater a b Greater e h = let x = ranked a b Greater e in absurd (omega arith)

-- what lies between two lists that differ in the last word alone differs from them in the last
-- alone
inside : (ws ks : List ℕ) (low high a : ℕ) → length ws ≡ length ks
    → is_gt (slice_cmp nat_cmp (ws ++ low ∷ []) (ks ++ a ∷ [])) ≡ false → is_gt (slice_cmp nat_cmp (ks ++ a ∷ []) (ws ++ high ∷ [])) ≡ false
    → (ws ≡ ks) × (low ≤ a) × (a ≤ high)
inside [] [] low high a long h g = (refl, not_above low a (nat_cmp low a) refl h, not_above a high (nat_cmp a high) refl g)
inside [] (k ∷ ks) low high a long h g = absurd (omega arith)
inside (w ∷ ws) [] low high a long h g = absurd (omega arith)
inside (w ∷ ws) (k ∷ ks) low high a long h g =
    let first = by_order w k (nat_cmp w k) (nat_cmp k w) refl refl _ _ h g in
    let same = first.0 in
    let others = inside ws ks low high a (omega arith) first.1 first.2 in
    let rest = others.0 in
    ((cc), others.1, others.2)

-- and the other way round
rises_last : (ws : List ℕ) (a b : ℕ) → a ≤ b → is_gt (slice_cmp nat_cmp (ws ++ a ∷ []) (ws ++ b ∷ [])) ≡ false
rises_last [] a b h = not_greater a b (nat_cmp a b) refl h
rises_last (w ∷ ws) a b h =
    subst (λ (o : Ordering). is_gt (ordering_then o (slice_cmp nat_cmp (ws ++ a ∷ []) (ws ++ b ∷ []))) ≡ false)
    (sym (tied_itself nat_cmp_total w)) (rises_last ws a b h)

-- 2. The keys of a board's positions.

-- the words of the cells
abbrev cell_words : Board → List ℕ
cell_words b = key_word b.cells 0 ∷ key_word b.cells 1 ∷ key_word b.cells 2 ∷ key_word b.cells 3 ∷ key_word b.cells 4 ∷ key_word b.cells 5
    ∷ key_word b.cells 6 ∷ []

key_parts : (b : Board) → key_of b ≡ cell_words b ++ hands_word b ∷ []
unfolding key_of
key_parts b = refl

end_parts : (b : Board) (word : ℕ) → slice_set (key_of b) 7 word ≡ cell_words b ++ word ∷ []
unfolding key_of
end_parts b word = refl

seven_words : (a b : Board) → length (cell_words a) ≡ length (cell_words b)
seven_words a b = refl

same_cells : (a b : Board) → IsKept a → IsKept b → cell_words a ≡ cell_words b → a.cells ≡ b.cells
same_cells a b kept too e =
    let at = λ (n : ℕ). ap (λ (words : List ℕ). get_or words n 0) e in
    cells_exact a.cells b.cells kept.cells too.cells (at 0) (at 1) (at 2) (at 3) (at 4) (at 5) (at 6)

words_of_cells : (a b : Board) → a.cells ≡ b.cells → cell_words a ≡ cell_words b
words_of_cells a b e = ap (λ cells. key_word cells 0 ∷ key_word cells 1 ∷ key_word cells 2 ∷ key_word cells 3 ∷ key_word cells 4 ∷ key_word cells 5
    ∷ key_word cells 6 ∷ []) e

-- the last word lies between the ends for its side
hands_between : (b : Board) → IsKept b → (least_hands b.side ≤ hands_word b) × (hands_word b ≤ least_hands b.side + (2 ^ 42 - 1))
hands_between b kept =
    let black = hand_small b.black (modest_black b kept) in
    let white = hand_small b.white (modest_white b kept) in
    (omega arith, omega arith)

side_told : (s r : Side) (a : ℕ) → least_hands s ≤ a → a ≤ least_hands s + (2 ^ 42 - 1) → least_hands r ≤ a
    → a ≤ least_hands r + (2 ^ 42 - 1) → s ≡ r
side_told Black Black a h g i j = refl
side_told Black White a h g i j = absurd (omega arith)
side_told White Black a h g i j = absurd (omega arith)
side_told White White a h g i j = refl

-- a key lies between the ends
abbrev pub IsBetween : Key → Key → Key → Type 0
IsBetween least greatest k = IsInRange key_cmp (Included least) (Included greatest) k

on_board_if_between : (p b : Board) (least greatest k : Key) → IsKept p → IsKept b → AreBoardKeys p least greatest → key_of b ≡ k.0
    → IsBetween least greatest k → IsOnBoardOf p b
on_board_if_between p b least greatest k kept too ends words between =
    let low : least.0 ≡ cell_words p ++ least_hands p.side ∷ [] = ends.least_is ∙ end_parts p (least_hands p.side) in
    let high : greatest.0 ≡ cell_words p ++ (least_hands p.side + (2 ^ 42 - 1)) ∷ [] = ends.greatest_is ∙ end_parts p (least_hands p.side + (2 ^ 42 - 1)) in
    let here : k.0 ≡ cell_words b ++ hands_word b ∷ [] = sym words ∙ key_parts b in
    let above = subst (λ (ks : List ℕ). is_gt (slice_cmp nat_cmp (cell_words p ++ least_hands p.side ∷ []) ks) ≡ false) here
    (subst (λ (ls : List ℕ). is_gt (slice_cmp nat_cmp ls k.0) ≡ false) low between.0) in
    let below = subst (λ (ks : List ℕ). is_gt (slice_cmp nat_cmp ks (cell_words p ++ (least_hands p.side + (2 ^ 42 - 1)) ∷ [])) ≡ false) here
    (subst (λ (ls : List ℕ). is_gt (slice_cmp nat_cmp k.0 ls) ≡ false) high between.1) in
    let all = inside (cell_words p) (cell_words b) (least_hands p.side) (least_hands p.side + (2 ^ 42 - 1)) (hands_word b) (seven_words p b) above below in
    let own = hands_between b too in
    (sym (same_cells p b kept too all.0), side_told b.side p.side (hands_word b) own.0 own.1 all.1 all.2)

between_if_on_board : (p b : Board) (least greatest k : Key) → IsKept b → AreBoardKeys p least greatest → key_of b ≡ k.0
    → IsOnBoardOf p b → IsBetween least greatest k
between_if_on_board p b least greatest k too ends words same =
    let cells : cell_words b ≡ cell_words p = words_of_cells b p same.0 in
    let own = hands_between b too in
    let low : least.0 ≡ cell_words b ++ least_hands b.side ∷ [] =
    ends.least_is ∙ (end_parts p (least_hands p.side) ∙ (ap (λ (ws : List ℕ). ws ++ least_hands p.side ∷ []) (sym cells) ∙ ap (λ (s : Side). cell_words b ++ least_hands s ∷ []) (sym same.1))) in
    let high : greatest.0 ≡ cell_words b ++ (least_hands b.side + (2 ^ 42 - 1)) ∷ [] =
    ends.greatest_is ∙ (end_parts p (least_hands p.side + (2 ^ 42 - 1)) ∙ (ap (λ (ws : List ℕ). ws ++ (least_hands p.side + (2 ^ 42 - 1)) ∷ []) (sym cells) ∙ ap (λ (s : Side). cell_words b ++ (least_hands s + (2 ^ 42 - 1)) ∷ []) (sym same.1))) in
    let here : k.0 ≡ cell_words b ++ hands_word b ∷ [] = sym words ∙ key_parts b in (
      subst (λ (ls : List ℕ). is_gt (slice_cmp nat_cmp ls k.0) ≡ false) (sym low)
          (subst (λ (ks : List ℕ). is_gt (slice_cmp nat_cmp (cell_words b ++ least_hands b.side ∷ []) ks) ≡ false) (sym here)
          (rises_last (cell_words b) (least_hands b.side) (hands_word b) own.0)),
      subst (λ (ls : List ℕ). is_gt (slice_cmp nat_cmp k.0 ls) ≡ false) (sym high)
          (subst (λ (ks : List ℕ). is_gt (slice_cmp nat_cmp ks (cell_words b ++ (least_hands b.side + (2 ^ 42 - 1)) ∷ [])) ≡ false) (sym here)
          (rises_last (cell_words b) (hands_word b) (least_hands b.side + (2 ^ 42 - 1)) own.1)),
    )

-- the ends are in order
pub ends_in_order : (p : Board) (least greatest : Key) → AreBoardKeys p least greatest → is_gt (key_cmp least greatest) ≡ false
ends_in_order p least greatest ends =
    subst (λ (ls : List ℕ). is_gt (slice_cmp nat_cmp ls greatest.0) ≡ false) (sym (ends.least_is ∙ end_parts p (least_hands p.side)))
    (subst (λ (ls : List ℕ). is_gt (slice_cmp nat_cmp (cell_words p ++ least_hands p.side ∷ []) ls) ≡ false) (sym (ends.greatest_is ∙ end_parts p (least_hands p.side + (2 ^ 42 - 1))))
    (rises_last (cell_words p) (least_hands p.side) (least_hands p.side + (2 ^ 42 - 1)) (omega arith)))

-- 3. The places between the ends.

-- what passes a test is among what passes
passes : {X : Type 0} (test : X → Bool) (xs : List X) (i : ℕ) (x : X) → slice_get xs i ≡ Some x → test x ≡ true → Contains (filter test xs) x
passes test [] i x e h = absurd (cc)
passes {X} test (y ∷ ys) zero x e h =
    let same : y ≡ x = same_Some y x e in
    let yes : test y ≡ true = ap test same ∙ h in
    subst (λ (b : Bool). Contains (cond b (y ∷ filter test ys) (filter test ys)) x) (sym yes) (0, omega arith, same)
passes {X} test (y ∷ ys) (suc i) x e h = later (test y) (passes test ys i x e h)
  where
    later : (b : Bool) → Contains (filter test ys) x → Contains (cond b (y ∷ filter test ys) (filter test ys)) x
    later false c = c
    later true c = let w = c.1 in (suc c.0, omega arith, c.2)

-- the entries are the map's between the ends
pub record AreBetween (m : BTreeMap Key ℕ) (least greatest : Key) (entries : List (Key × ℕ)) : Type 0 where
  pub are : entries ≡ entries_between key_cmp (Included least) (Included greatest) m.entries
  pub in_map : (i : ℕ) (k : Key) (place : ℕ) → slice_get entries i ≡ Some (k, place) → IsBetween least greatest k × (get key_cmp m k ≡ Some place)
  pub apart : (i j : ℕ) (e f : Key × ℕ) → i < j → slice_get entries i ≡ Some e → slice_get entries j ≡ Some f → key_cmp e.0 f.0 ≡ Less

right_place : (places : BoardPlaces) (p : Board) (least greatest : Key) (entries : List (Key × ℕ)) (positions : List Board) → IsKept p
    → AreBoardKeys p least greatest → AreBetween places.by_key least greatest entries → AreBoardPlacesOf places positions
    → (place : ℕ) → Contains (values_of entries) place → StandsOnBoard positions p place
right_place places p least greatest entries positions kept ends are known place c =
    let e = from_map (λ (e : Key × ℕ). e.1) entries c.0 place (at_place (values_of entries) place c) in
    let found = are.in_map c.0 e.0.0 e.0.1 e.1 in
    let s = known.right e.0.0 e.0.1 found.1 in
    let too = known.kept s.position (contained positions e.0.1 s.position s.there) in
    subst (StandsOnBoard positions p) e.2
    (record { other = s.position; there = s.there; same = on_board_if_between p s.position least greatest e.0.0 kept too ends s.has_key found.0 })

listed_key : (places : BoardPlaces) (positions : List Board) (place : ℕ) (b : Board) → AreBoardPlacesOf places positions → slice_get positions place ≡ Some b
    → (key : Key) → key_of b ≡ key.0 → (o : Option ℕ) → o ≡ get key_cmp places.by_key key → IsSome o → o ≡ Some place
listed_key places positions place b known there key words None e some = absurd (cc)
listed_key places positions place b known there key words (Some other) e some =
    let s = known.right key other (sym e) in
    let kept = known.kept b (contained positions place b there) in
    let too = known.kept s.position (contained positions other s.position s.there) in
    let same : s.position ≡ b = position_exact s.position b too kept (s.has_key ∙ sym words) in
    ap Some (known.apart other place b (s.there ∙ ap (λ (x : Board). Some x) same) there)

all_places : (places : BoardPlaces) (p : Board) (least greatest : Key) (entries : List (Key × ℕ)) (positions : List Board)
    → AreBoardKeys p least greatest → AreBetween places.by_key least greatest entries → AreBoardPlacesOf places positions
    → (place : ℕ) → StandsOnBoard positions p place → Contains (values_of entries) place
all_places places p least greatest entries positions ends are known place stands =
    let b = stands.other in
    let key : Key = record { 0 = key_of b } in
    let c = contained positions place b stands.there in
    let too = known.kept b c in
    let at = listed_key places positions place b known stands.there key refl _ refl (known.all key b c refl) in
    let e = place_from_lookup (is_at (key_cmp key)) places.by_key.entries place at in
    let between = between_if_on_board p b least greatest e.1 too ends (words_at key e.1 e.3) stands.same in
    let yes = range_contains-from_IsInRange key_total (Included least) (Included greatest) e.1 between in
    let there = passes (λ (x : Key × ℕ). range_contains key_cmp (Included least) (Included greatest) x.0) places.by_key.entries e.0 (e.1, place) e.2 yes in
    contains_map (λ (x : Key × ℕ). x.1) entries (e.1, place) (subst (λ (es : List (Key × ℕ)). Contains es (e.1, place)) (sym are.are) there)

-- no two of them have one place
one_key : (places : BoardPlaces) (least greatest : Key) (entries : List (Key × ℕ)) (positions : List Board)
    → AreBetween places.by_key least greatest entries → AreBoardPlacesOf places positions
    → (i j : ℕ) (e f : Key × ℕ) → slice_get entries i ≡ Some e → slice_get entries j ≡ Some f → e.1 ≡ f.1 → e.0.0 ≡ f.0.0
one_key places least greatest entries positions are known i j e f h g same =
    let s = known.right e.0 e.1 ((are.in_map i e.0 e.1 h).1) in
    let t = known.right f.0 f.1 ((are.in_map j f.0 f.1 g).1) in
    let one : s.position ≡ t.position = same_Some s.position t.position (sym s.there ∙ (ap (slice_get positions) same ∙ t.there)) in
    sym s.has_key ∙ (ap key_of one ∙ t.has_key)

differ : (places : BoardPlaces) (least greatest : Key) (entries : List (Key × ℕ)) (positions : List Board)
    → AreBetween places.by_key least greatest entries → AreBoardPlacesOf places positions
    → (i j : ℕ) (e f : Key × ℕ) → i < j → slice_get entries i ≡ Some e → slice_get entries j ≡ Some f → e.1 ≡ f.1 → ⊥
differ places least greatest entries positions are known i j e f less h g same =
    let words = one_key places least greatest entries positions are known i j e f h g same in
    let tied = tied_itself nat_list_cmp_total e.0.0 in
    let below = subst (λ (ws : List ℕ). slice_cmp nat_cmp e.0.0 ws ≡ Less) (sym words) (are.apart i j e f less h g) in
    absurd (cc)

not_equal : (a b : ℕ) → (a ≡ b → ⊥) → (a == b) ≡ false
not_equal a b h = elim (cases_Bool (a == b)) [ inl same ↦ absurd (h (exact_unsigned_eq a b same)) | inr other ↦ other ]

all_differ : (places : BoardPlaces) (least greatest : Key) (entries : List (Key × ℕ)) (positions : List Board)
    → AreBetween places.by_key least greatest entries → AreBoardPlacesOf places positions → IsDistinct nat_eq (values_of entries)
all_differ places least greatest entries positions are known =
    IsDistinct-from_apart nat_eq (values_of entries) (λ i j d less within.
    let value : (n : ℕ) → n < length (values_of entries) → (e : Key × ℕ) × (slice_get entries n ≡ Some e) × (e.1 ≡ get_or (values_of entries) n d) =
    λ n h. from_map (λ (e : Key × ℕ). e.1) entries n (get_or (values_of entries) n d) (slice_get-get_or (values_of entries) n d h) in
    let e = value i (omega arith) in
    let f = value j within in
    not_equal (get_or (values_of entries) i d) (get_or (values_of entries) j d)
    (λ same. differ places least greatest entries positions are known i j e.0 f.0 less e.1 f.1 (e.2 ∙ (same ∙ sym f.2))))

-- in order they are the places of the board's positions
pub on_board : (places : BoardPlaces) (p : Board) (least greatest : Key) (entries : List (Key × ℕ)) (found : List ℕ) (positions : List Board) → IsKept p
    → AreBoardKeys p least greatest → AreBetween places.by_key least greatest entries → IsPermutation (values_of entries) found
    → IsSorted nat_cmp found → AreBoardPlacesOf places positions → ArePlacesOnBoard positions p found
on_board places p least greatest entries found positions kept ends are moved sorted known = record {
  right = λ place c.
      right_place places p least greatest entries positions kept ends are known place
      (Contains-permutation found (values_of entries) place (IsPermutation-sym (values_of entries) found moved) c);
  all = λ place stands.
      Contains-permutation (values_of entries) found place moved (all_places places p least greatest entries positions ends are known place stands);
  rising =
      IsStrictlyIncreasing-from_distinct found (IsNonDecreasingBy-from_sort (λ (n : ℕ). n) found sorted)
      (IsDistinct-IsPermutation nat_eq flipped (values_of entries) found moved (all_differ places least greatest entries positions are known));
}
  where
    flipped : (x y : ℕ) → nat_eq x y ≡ nat_eq y x
    flipped x y = nat_eq_equiv.symm x y

-- 4. What the range of a map is.

key_at : (entries : List (Key × ℕ)) (i : ℕ) (e : Key × ℕ) (d : Key) → slice_get entries i ≡ Some e → get_or (keys_of entries) i d ≡ e.0
key_at entries i e d h =
    get_or_from_slice_get (keys_of entries) i e.0 d (slice_get-map (λ (x : Key × ℕ). x.0) entries i ∙ ap (option_map (λ (x : Key × ℕ). x.0)) h)

in_order : (m : BTreeMap Key ℕ) (entries : List (Key × ℕ)) → IsOrdered key_cmp m → EntryPlaces m.entries entries
    → (i j : ℕ) (e f : Key × ℕ) → i < j → slice_get entries i ≡ Some e → slice_get entries j ≡ Some f → key_cmp e.0 f.0 ≡ Less
in_order m entries ordered stands i j e f less h g =
    let d = e.0 in
    let n = length-map entries (λ (x : Key × ℕ). x.0) in
    let wi = slice_get_within entries i e h in
    let wj = slice_get_within entries j f g in
    let here = stands.keys i d by_place (omega arith) in
    let there = stands.keys j d by_place (omega arith) in
    let below = Less-from_sorted key_cmp (keys_of m.entries) (stands.start + i) (stands.start + j) d ordered (omega arith) there.0 in
    subst (λ (k : Key). key_cmp k f.0 ≡ Less) (sym here.1 ∙ key_at entries i e d h)
    (subst (λ (k : Key). key_cmp (get_or (keys_of m.entries) (stands.start + i) d) k ≡ Less) (sym there.1 ∙ key_at entries j f d g) below)

pub between : (m : BTreeMap Key ℕ) (least greatest : Key) (entries : List (Key × ℕ))
    → entries ≡ entries_between key_cmp (Included least) (Included greatest) m.entries
    → All (IsEntryInRange key_cmp (Included least) (Included greatest) m) entries → IsOrdered key_cmp m → EntryPlaces m.entries entries
    → AreBetween m least greatest entries
between m least greatest entries are ranged ordered stands = record {
  are = are;
  in_map = λ i k place e. All-contains (IsEntryInRange key_cmp (Included least) (Included greatest) m) entries (k, place) ranged (contained entries i (k, place) e);
  apart = in_order m entries ordered stands;
}

-- ends that are the same
pub same_ends : (p : Board) (least greatest start end : Key) → start ≡ least → end ≡ greatest → AreBoardKeys p least greatest
    → AreBoardKeys p start end
same_ends p least greatest start end e f ends = record {
  least_is = ap (λ (k : Key). k.0) e ∙ ends.least_is;
  greatest_is = ap (λ (k : Key). k.0) f ∙ ends.greatest_is;
}
