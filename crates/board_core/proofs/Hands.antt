use Rattle.std.proofs.Common.{◌≡◌, ◌≢◌, ◌<◌, ◌+◌, ◌-◌, ℕ, List, true, false, length, arith, subst, sym, inl, inr, get_or-set_same, get_or-set_other}
use Rattle.std.proofs.lemmas.Grind.{common_steps}
use Rattle.std.proofs.lemmas.Bool.{cases_Bool}
use Rattle.std.proofs.lemmas.Bool.Decides.{eqb_tells}
use Rattle.bit_boards.specs.declared.piece.Kind.{Kind}
use Rattle.bit_boards.specs.declared.piece.Kind.TheVariants.{King}
use Rattle.bit_boards.specs.declared.piece.Side.{Side}
use Rattle.bit_boards.specs.declared.piece.Side.TheVariants.{Black, White}
use Rattle.bit_boards.specs.Kind.{place_of, same_kind}
use Rattle.board_core.specs.Board.{Board, hand_count, with_more, with_less, hand_of, with_hand, count_of, one_if}
use Rattle.board_core.specs.Kept.{IsKept}
use Rattle.board_core.proofs.EachKind.{same_kind_is, same_kind_refl, place_below}

one_if_same : (q k : Kind) → same_kind q k ≡ true → one_if (same_kind q k) ≡ 1
one_if_same q k h = rw h (cc)

one_if_other : (q k : Kind) → same_kind q k ≡ false → one_if (same_kind q k) ≡ 0
one_if_other q k h = rw h (cc)

-- a hand with one more of a kind counts one more of it, and as many of the others
hand_count-with_more : (hand : List ℕ) (q k : Kind) → length hand ≡ 7 → q ≢ King
    → hand_count (with_more hand q) k ≡ hand_count hand k + one_if (same_kind q k)
hand_count-with_more hand q k long king = grind (
  arith,
  place_below q king,
  one_if_same q k,
  one_if_other q k,
  eqb_tells (place_of q) (place_of k),
  get_or-set_same hand (place_of q) (hand_count hand q + 1) 0,
  get_or-set_other hand (place_of q) (place_of k) (hand_count hand q + 1) 0,
)

hand_count-with_less : (hand : List ℕ) (q k : Kind) → length hand ≡ 7 → q ≢ King → 0 < hand_count hand q
    → hand_count (with_less hand q) k + one_if (same_kind q k) ≡ hand_count hand k
hand_count-with_less hand q k long king some = grind (
  arith,
  place_below q king,
  one_if_same q k,
  one_if_other q k,
  eqb_tells (place_of q) (place_of k),
  get_or-set_same hand (place_of q) (hand_count hand q - 1) 0,
  get_or-set_other hand (place_of q) (place_of k) (hand_count hand q - 1) 0,
)

other_kind : (q k : Kind) → k ≢ q → same_kind q k ≡ false
other_kind q k n = elim (cases_Bool (same_kind q k)) [ inl same ↦ absurd (n (sym (same_kind_is q k same))) | inr differ ↦ differ ]

-- what a side's hand with one more changes in the counts
pub count_of-more : (b : Board) (side : Side) (q k : Kind) → IsKept b → q ≢ King
    → count_of (with_hand b side (with_more (hand_of b side) q)) k ≡ count_of b k + one_if (same_kind q k)
count_of-more b Black q k kept king = let e = hand_count-with_more b.black q k kept.black king in omega arith
count_of-more b White q k kept king = let e = hand_count-with_more b.white q k kept.white king in omega arith

-- what a side's hand with one less changes in the counts
pub count_of-less : (b : Board) (side : Side) (q k : Kind) → IsKept b → q ≢ King → 0 < hand_count (hand_of b side) q
    → count_of (with_hand b side (with_less (hand_of b side) q)) k + one_if (same_kind q k) ≡ count_of b k
count_of-less b Black q k kept king some = let e = hand_count-with_less b.black q k kept.black king some in omega arith
count_of-less b White q k kept king some = let e = hand_count-with_less b.white q k kept.white king some in omega arith

-- no hand holds a king
pub no_king_held : (hand : List ℕ) (k : Kind) → length hand ≡ 7 → 0 < hand_count hand k → k ≢ King
no_king_held hand k long some is =
    let past : 0 < hand_count hand King = subst (λ (q : Kind). 0 < hand_count hand q) is some in
    grind (arith, common_steps)

-- the counts of the side's own hand with one less
pub held_less : (b : Board) (side : Side) (q : Kind) → IsKept b → q ≢ King → 0 < hand_count (hand_of b side) q
    → hand_count (hand_of (with_hand b side (with_less (hand_of b side) q)) side) q + 1 ≡ hand_count (hand_of b side) q
held_less b Black q kept king some = let e = hand_count-with_less b.black q q kept.black king some in let s = one_if_same q q (same_kind_refl q) in omega arith
held_less b White q kept king some = let e = hand_count-with_less b.white q q kept.white king some in let s = one_if_same q q (same_kind_refl q) in omega arith
