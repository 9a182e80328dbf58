-- What is covered by closed positions: the defender escapes from it, in both versions. The finite
-- list that shows it has each position that one of them dominates, with no more pieces than a set.
use Rattle.std.proofs.Common.{◌≡◌, ◌≢◌, ◌<◌, ◌≤◌, ◌⊎◌, inl, inr, ℕ, zero, suc, List, [], ◌∷◌, get_or, length, map, Contains, arith, ap, sym, refl, ◌∙◌, subst}
use Rattle.std.specs.Prelude.{flat_map}
use Rattle.std.proofs.lemmas.List.Elements.{Contains-append_left, Contains-append_right, Contains-append_cases}
use Rattle.bit_boards.specs.declared.piece.Kind.{Kind}
use Rattle.bit_boards.specs.declared.piece.Kind.TheVariants.{Pawn, Lance, Knight, Silver, Gold, Bishop, Rook, King}
use Rattle.bit_boards.specs.declared.piece.Side.{Side}
use Rattle.bit_boards.specs.declared.piece.Side.TheVariants.{Black, White}
use Rattle.bit_boards.specs.Kind.{other, place_of, total_of}
use Rattle.board_core.specs.Board.{Board, count_of, hand_count, hand_of}
use Rattle.board_core.specs.Kept.{IsKept}
use Rattle.board_core.proofs.EachKind.{of_each, each_kind}
use Rattle.list_laws.proofs.Standing.{contains_map, none_in_none}
use Rattle.mate_def.specs.Mate.{after_both, IsClosed, Escapes}
use Rattle.mate_def.proofs.Offered.{in_front, later, first}
use Rattle.hand_dominance.specs.declared.version.Version.{Version}
use Rattle.hand_dominance.specs.declared.version.Version.TheVariants.{Two}
use Rattle.hand_dominance.specs.Dominance.{Dominates}
use Rattle.hand_dominance.specs.BorneOut.{AreClosed, AreKept, IsCovered}
use Rattle.hand_dominance.proofs.Hands.{Fits, kind_at}
use Rattle.hand_dominance.proofs.Moves.{handed, same_board}
use Rattle.hand_dominance.proofs.Carried.{can_fit, put_if, put_first, put_cases, fits_hands, hand_long}
use Rattle.hand_dominance.proofs.Listed.{answered_below, dominates}

-- 1. LISTS OF LISTS.

-- what is in the list of one element is in all the lists joined
in_joined : {X Y : Type 0} (f : X → List Y) (xs : List X) (x : X) (y : Y) → Contains xs x → Contains (f x) y → Contains (flat_map f xs) y
in_joined f [] x y there here = absurd (none_in_none x there)
in_joined {X} {Y} f (z ∷ xs) x y there here = elim (in_front z xs x there) [
  | inl same ↦ Contains-append_left (f z) (flat_map f xs) y (subst (λ (w : X). Contains (f w) y) (sym same) here)
  | inr rest ↦ Contains-append_right (f z) (flat_map f xs) y (in_joined f xs x y rest here)
]

-- and what is in these is in that of one element
from_joined : {X Y : Type 0} (f : X → List Y) (xs : List X) (y : Y) → Contains (flat_map f xs) y → (x : X) × Contains xs x × Contains (f x) y
from_joined f [] y there = absurd (none_in_none y there)
from_joined f (x ∷ xs) y there = elim (Contains-append_cases (f x) (flat_map f xs) y there) [
  | inl here ↦ (x, first x xs, here)
  | inr rest ↦ let from = from_joined f xs y rest in (from.0, later x xs from.0 from.1, from.2)
]

-- 2. ALL HANDS.

-- the numbers up to this one
up_to : ℕ → List ℕ
up_to zero = zero ∷ []
up_to (suc n) = suc n ∷ up_to n

counts_up : (most n : ℕ) → n ≤ most → Contains (up_to most) n
unfolding up_to
counts_up zero zero low = first zero []
counts_up zero (suc n) low = absurd (omega (arith, low))
counts_up (suc most) n low = elim (same_or_less n most low) [
  | inl same ↦ subst (Contains (suc most ∷ up_to most)) (sym same) (first (suc most) (up_to most))
  | inr less ↦ later (suc most) (up_to most) n (counts_up most n less)
]
  where
    same_or_less : (n most : ℕ) → n ≤ suc most → (n ≡ suc most) ⊎ (n ≤ most)
    same_or_less zero most low = inr (omega arith)
    same_or_less (suc n) zero low = inl (omega (arith, low))
    same_or_less (suc n) (suc most) low = elim (same_or_less n most (omega (arith, low))) [
      | inl same ↦ inl (ap suc same)
      | inr less ↦ inr (omega (arith, less))
    ]

-- the hands of so many kinds with at most so many of each
hands : ℕ → ℕ → List (List ℕ)
hands most zero = [] ∷ []
hands most (suc kinds) = flat_map (λ count. map (λ hand. count ∷ hand) (hands most kinds)) (up_to most)

-- such a hand is one of them
one_of_hands : (most kinds : ℕ) (hand : List ℕ) → length hand ≡ kinds → ((i : ℕ) → i < kinds → get_or hand i 0 ≤ most) → Contains (hands most kinds) hand
unfolding hands
one_of_hands most zero [] long low = first [] []
one_of_hands most (suc kinds) [] long low = absurd (omega (arith, long))
one_of_hands most zero (h ∷ hand) long low = absurd (omega (arith, long))
one_of_hands most (suc kinds) (h ∷ hand) long low =
    in_joined (λ count. map (λ (it : List ℕ). count ∷ it) (hands most kinds)) (up_to most) h (h ∷ hand) (counts_up most h (low zero (omega arith)))
    (contains_map (λ (it : List ℕ). h ∷ it) (hands most kinds) hand
    (one_of_hands most kinds hand (omega (arith, long)) (λ i below. low (suc i) (omega (arith, below)))))

-- the hands of a position that keeps what every position keeps are of them
few_held : (side : Side) (b : Board) → IsKept b → (i : ℕ) → i < 7 → get_or (hand_of b side) i 0 ≤ 18
few_held side b kept i below =
    let at = kind_at i below in
    let no_king : at.0 ≢ King = λ is. (let place = ap place_of is in let e = at.1 in omega (arith, place, e, below)) in
    let most = kept.totals at.0 no_king in
    let total = of_each (λ k. total_of k ≤ 18) (omega arith) (omega arith) (omega arith) (omega arith) (omega arith) (omega arith) (omega arith) (omega arith) at.0 in
    let own = held_at_most side b at.0 in
    subst (λ (place : ℕ). get_or (hand_of b side) place 0 ≤ 18) at.1 (omega (arith, most, total, own))
  where
    held_at_most : (side : Side) (b : Board) (k : Kind) → hand_count (hand_of b side) k ≤ count_of b k
    held_at_most Black b k = omega arith
    held_at_most White b k = omega arith

of_hands : (side : Side) (b : Board) → IsKept b → Contains (hands 18 7) (hand_of b side)
of_hands side b kept = one_of_hands 18 7 (hand_of b side) (hand_long b side kept) (few_held side b kept)

-- 3. ALL POSITIONS THAT ONE DOMINATES.

-- how many there are of each kind but the king, and how many a set has
abbrev counts : Board → List ℕ
counts b = count_of b Pawn ∷ count_of b Lance ∷ count_of b Knight ∷ count_of b Silver ∷ count_of b Gold ∷ count_of b Bishop ∷ count_of b Rook ∷ []

abbrev totals : List ℕ
totals = total_of Pawn ∷ total_of Lance ∷ total_of Knight ∷ total_of Silver ∷ total_of Gold ∷ total_of Bishop ∷ total_of Rook ∷ []

-- of two boards that differ in the hands alone: the attacker has no more in the lower, the
-- defender no less, and it has no more pieces than a set
record IsLower (attacker : Side) (high low : Board) : Type 0 where
  own : Fits (hand_of low attacker) (hand_of high attacker)
  its : Fits (hand_of high (other attacker)) (hand_of low (other attacker))
  few : Fits (counts low) totals

-- whether it is so
tell_lower : (attacker : Side) (high low : Board) → IsLower attacker high low ⊎ (IsLower attacker high low → ⊥)
tell_lower attacker high low = elim (can_fit (hand_of low attacker) (hand_of high attacker)) [
  | inr isnt ↦ inr (λ l. isnt l.own)
  | inl own ↦ elim (can_fit (hand_of high (other attacker)) (hand_of low (other attacker))) [
    | inr isnt ↦ inr (λ l. isnt l.its)
    | inl its ↦ elim (can_fit (counts low) totals) [
      | inr isnt ↦ inr (λ l. isnt l.few)
      | inl few ↦ inl (record { own = own; its = its; few = few })
    ]
  ]
]

-- the board with each pair of such hands that makes it lower
abbrev with_hands : Side → Board → List ℕ → List ℕ → List Board
with_hands attacker b black white = put_if (tell_lower attacker b (handed b black white)) (handed b black white) []

abbrev lower_ones : Side → List (List ℕ) → Board → List Board
lower_ones attacker all b = flat_map (λ black. flat_map (λ white. with_hands attacker b black white) all) all

abbrev all_lower : Side → List (List ℕ) → List Board → List Board
all_lower attacker all s = flat_map (lower_ones attacker all) s

lower_in : (attacker : Side) (all : List (List ℕ)) (s : List Board) (b : Board) (black white : List ℕ) → Contains s b → Contains all black → Contains all white
    → IsLower attacker b (handed b black white) → Contains (all_lower attacker all s) (handed b black white)
lower_in attacker all s b black white inside of_black of_white low =
    let q = handed b black white in
    in_joined (lower_ones attacker all) s b q inside
    (in_joined (λ one. flat_map (λ two. with_hands attacker b one two) all) all black q of_black
    (in_joined (λ two. with_hands attacker b black two) all white q of_white
    (put_first (tell_lower attacker b q) q [] low)))

-- where one of them comes from
record IsUnder (attacker : Side) (s : List Board) (q : Board) : Type 0 where
  board : Board
  black : List ℕ
  white : List ℕ
  inside : Contains s board
  lower : IsLower attacker board (handed board black white)
  is : handed board black white ≡ q

lower_from : (attacker : Side) (all : List (List ℕ)) (s : List Board) (q : Board) → Contains (all_lower attacker all s) q → IsUnder attacker s q
lower_from attacker all s q there =
    let of = from_joined (lower_ones attacker all) s q there in
    let b = of.0 in
    let one = from_joined (λ black. flat_map (λ white. with_hands attacker b black white) all) all q of.2 in
    let two = from_joined (λ white. with_hands attacker b one.0 white) all q one.2 in
    let at = handed b one.0 two.0 in
    elim (put_cases (tell_lower attacker b at) at q [] two.2) [
      | inl here ↦ record { board = b; black = one.0; white = two.0; inside = of.1; lower = here.0; is = here.1 }
      | inr none ↦ absurd (none_in_none q none)
    ]

-- 4. THEY KEEP WHAT EVERY POSITION KEEPS, AND ARE DOMINATED.

fits_long : (low high : List ℕ) → Fits low high → length low ≡ length high
fits_long [] [] f = refl
fits_long (l ∷ low) (h ∷ high) f = ap suc (fits_long low high f.1)
fits_long [] (h ∷ high) f = absurd f
fits_long (l ∷ low) [] f = absurd f

fits_at : (low high : List ℕ) → Fits low high → (i : ℕ) → get_or low i 0 ≤ get_or high i 0
fits_at [] [] f i = omega arith
fits_at (l ∷ low) (h ∷ high) f zero = f.0
fits_at (l ∷ low) (h ∷ high) f (suc i) = fits_at low high f.1 i
fits_at [] (h ∷ high) f i = absurd f
fits_at (l ∷ low) [] f i = absurd f

both_long : (attacker : Side) (high low : Board) → IsLower attacker high low → IsKept high → (length low.black ≡ 7) × (length low.white ≡ 7)
both_long Black high low l kept = (fits_long low.black high.black l.own ∙ kept.black, sym (fits_long high.white low.white l.its) ∙ kept.white)
both_long White high low l kept = (sym (fits_long high.black low.black l.its) ∙ kept.black, fits_long low.white high.white l.own ∙ kept.white)

lower_kept : (attacker : Side) (b : Board) (black white : List ℕ) → IsKept b → IsLower attacker b (handed b black white) → IsKept (handed b black white)
lower_kept attacker b black white kept l =
    let q = handed b black white in
    let long = both_long attacker b q l kept in
    let few = l.few in
    record {
      cells = kept.cells;
      black = long.0;
      white = long.1;
      totals = each_kind (λ k. count_of q k ≤ total_of k) few.0 few.1.0 few.1.1.0 few.1.1.1.0 few.1.1.1.1.0 few.1.1.1.1.1.0 few.1.1.1.1.1.1.0;
      kings = kept.kings;
      alive = kept.alive;
      pawns = kept.pawns;
    }

lower_dominated : (attacker : Side) (b : Board) (black white : List ℕ) → IsLower attacker b (handed b black white) → Dominates attacker b (handed b black white)
lower_dominated attacker b black white l =
    let q = handed b black white in
    record {
      cells = refl;
      turn = refl;
      more = λ k. fits_at (hand_of q attacker) (hand_of b attacker) l.own (place_of k);
      less = λ k. fits_at (hand_of b (other attacker)) (hand_of q (other attacker)) l.its (place_of k);
    }

-- and what keeps what every position keeps and is dominated is lower
lower_is : (attacker : Side) (b q : Board) → IsKept b → IsKept q → Dominates attacker b q → IsLower attacker b q
lower_is attacker b q high low d = record {
  own = fits_hands (hand_of q attacker) (hand_of b attacker) (hand_long q attacker low) (hand_long b attacker high) d.more;
  its = fits_hands (hand_of b (other attacker)) (hand_of q (other attacker)) (hand_long b (other attacker) high) (hand_long q (other attacker) low) d.less;
  few = (
    low.totals Pawn (λ is. absurd (cc)),
    (
      low.totals Lance (λ is. absurd (cc)),
      (
        low.totals Knight (λ is. absurd (cc)),
        (
          low.totals Silver (λ is. absurd (cc)),
          (
            low.totals Gold (λ is. absurd (cc)),
            (
              low.totals Bishop (λ is. absurd (cc)),
              (
                low.totals Rook (λ is. absurd (cc)),
                record {},
              ),
            ),
          ),
        ),
      ),
    ),
  );
}

-- 5. THE FINITE CLOSED LIST.

-- a position that is covered is one of them
covered_in : (attacker : Side) (s : List Board) (position : Board) → AreKept s → IsKept position → IsCovered Two s attacker position
    → Contains (all_lower attacker (hands 18 7) s) position
covered_in attacker s position all kept c =
    let b = c.listed in
    let same = same_board b position c.covers.cells c.covers.turn in
    subst (Contains (all_lower attacker (hands 18 7) s)) (sym same)
    (lower_in attacker (hands 18 7) s b position.black position.white c.inside (of_hands Black position kept) (of_hands White position kept)
    (subst (IsLower attacker b) same (lower_is attacker b position (all b c.inside) kept c.covers)))

-- and each of them is covered
in_covered : (attacker : Side) (s : List Board) (q : Board) → AreKept s → IsUnder attacker s q → IsKept q × IsCovered Two s attacker q
in_covered attacker s q all under =
    let b = under.board in (
      subst IsKept under.is (lower_kept attacker b under.black under.white (all b under.inside) under.lower),
      record {
        listed = b;
        inside = under.inside;
        covers = subst (Dominates attacker b) under.is (lower_dominated attacker b under.black under.white under.lower);
      },
    )

closed_under : (version : Version) (attacker : Side) (s : List Board) → AreKept s → AreClosed version s attacker
    → IsClosed attacker (all_lower attacker (hands 18 7) s) []
closed_under version attacker s all closed = record {
  turn = λ q there.
      let under = lower_from attacker (hands 18 7) s q there in
      ap (λ (b : Board). b.side) (sym under.is) ∙ closed.turn under.board under.inside;
  answered = λ q check there is.
      let c = in_covered attacker s q all (lower_from attacker (hands 18 7) s q there) in
      let e = answered_below version attacker s all closed q c.0 c.1 check is in
      record {
        evasion = e.evasion;
        is_evasion = e.is_evasion;
        leads = inl (covered_in attacker s (after_both q check e.evasion) all e.leads.0 e.leads.1);
      };
}

pub escapes_covered : (version : Version) (attacker : Side) (s : List Board) (position : Board) → AreKept s → AreClosed version s attacker
    → IsKept position → IsCovered version s attacker position → Escapes attacker position
escapes_covered version attacker s position all closed kept c =
    let two : IsCovered Two s attacker position = record {
      listed = c.listed;
      inside = c.inside;
      covers = dominates version attacker c.listed position c.covers;
    } in
    (all_lower attacker (hands 18 7) s, covered_in attacker s position all kept two, closed_under version attacker s all closed)
