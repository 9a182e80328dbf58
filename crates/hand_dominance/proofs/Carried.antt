-- What carries over to a position that dominates another, and to one that is dominated.
use Rattle.std.proofs.Common.{◌≡◌, ◌≤◌, ◌⊎◌, inl, inr, ℕ, zero, suc, List, [], ◌∷◌, get_or, length, Contains, arith, ap, sym, refl, ◌∙◌, subst}
use Rattle.bit_boards.specs.declared.piece.Kind.{Kind}
use Rattle.bit_boards.specs.declared.piece.Side.{Side}
use Rattle.bit_boards.specs.declared.piece.Side.TheVariants.{Black, White}
use Rattle.bit_boards.specs.Kind.{other, place_of}
use Rattle.board_core.specs.declared.moves.Move.{Move}
use Rattle.board_core.specs.Board.{Board, hand_count, hand_of, by_side}
use Rattle.board_core.specs.Kept.{IsKept}
use Rattle.list_laws.proofs.Standing.{in_first, none_in_none}
use Rattle.shogi_rules.specs.Rules.{after, IsInCheck}
use Rattle.shogi_rules.specs.Tsume.{IsCheck, IsEvasion}
use Rattle.mate_def.specs.Mate.{RankAtMost, IsMatedWithin, IsClosed, HasEvasionTo, Escapes, CanEvadeTo}
use Rattle.mate_def.proofs.Offered.{in_front, later, first}
use Rattle.hand_dominance.specs.Dominance.{Dominates}
use Rattle.hand_dominance.proofs.Hands.{less_by, more_by, Fits, back_down, back_up, left_fits, fits_by, kind_at, less_count, more_count}
use Rattle.hand_dominance.proofs.Moves.{handed, same_board, legal_as, own_after, its_after, kept_after, after_handed, Could, could, hand_by, hand_less, hand_fits, hand_more}

-- 1. SO MANY LESS FOR THE ATTACKER, SO MANY MORE FOR THE DEFENDER.

-- with these hands the attacker has so many less than in the position, and the defender so many
-- more
pub record IsShifted (attacker : Side) (less more : List ℕ) (b : Board) (black white : List ℕ) : Type 0 where
  pub own : by_side attacker black white ≡ less_by (hand_of b attacker) less
  pub fits : Fits less (hand_of b attacker)
  pub its : by_side (other attacker) black white ≡ more_by (hand_of b (other attacker)) more

none_below : (hand low by : List ℕ) (kind : Kind) → low ≡ less_by hand by → hand_count hand kind ≡ 0 → hand_count low kind ≡ 0
none_below hand low by kind is none =
    let less = less_count hand by (place_of kind) in
    let e : hand_count low kind ≡ get_or (less_by hand by) (place_of kind) 0 = ap (λ (h : List ℕ). hand_count h kind) is in
    omega (arith, less, e, none)

none_above : (hand high by : List ℕ) (kind : Kind) → high ≡ more_by hand by → hand_count high kind ≡ 0 → hand_count hand kind ≡ 0
none_above hand high by kind is none =
    let more = more_count hand by (place_of kind) in
    let e : hand_count high kind ≡ get_or (more_by hand by) (place_of kind) 0 = ap (λ (h : List ℕ). hand_count h kind) is in
    omega (arith, more, e, none)

-- 2. ONE MOVE.

-- a check with less in hand is one with more
pub check_up : (attacker : Side) (less more : List ℕ) (b : Board) (black white : List ℕ) (move : Move) → IsShifted attacker less more b black white
    → IsCheck attacker (handed b black white) move → IsCheck attacker b move
check_up attacker less more b black white move s is = record {
  mover = is.mover;
  legal = legal_as b black white move
      (λ kind. subst (λ (side : Side). hand_count (hand_of b side) kind ≡ 0 → hand_count (by_side side black white) kind ≡ 0) (sym is.mover)
      (none_below (hand_of b attacker) (by_side attacker black white) less kind s.own)) is.legal;
  check = subst (λ (it : Board). IsInCheck it.cells (other attacker)) (after_handed b black white move) is.check;
}

-- an evasion with less in hand is one with more
pub evasion_down : (attacker : Side) (less more : List ℕ) (b : Board) (black white : List ℕ) (move : Move) → IsShifted attacker less more b black white
    → IsEvasion attacker b move → IsEvasion attacker (handed b black white) move
evasion_down attacker less more b black white move s is = record {
  mover = is.mover;
  legal = legal_as (handed b black white) b.black b.white move
      (λ kind. subst (λ (side : Side). hand_count (by_side side black white) kind ≡ 0 → hand_count (hand_of b side) kind ≡ 0) (sym is.mover)
      (none_above (hand_of b (other attacker)) (by_side (other attacker) black white) more kind s.its)) is.legal;
}

-- after a check the attacker has as many less as before, and the defender as many more
pub shifted_check : (attacker : Side) (less more : List ℕ) (b : Board) (black white : List ℕ) (move : Move) → IsShifted attacker less more b black white
    → IsCheck attacker (handed b black white) move
    → IsShifted attacker less more (after b move) (after (handed b black white) move).black (after (handed b black white) move).white
shifted_check attacker less more b black white move s is =
    let can : Could move (less_by (hand_of b attacker) less) =
    subst (Could move) s.own (subst (λ (side : Side). Could move (by_side side black white)) is.mover (could (handed b black white) move is.legal)) in
    record {
      own = own_after (handed b black white) move attacker is.mover
          ∙ (ap (hand_by b.cells move) s.own
          ∙ (hand_less b.cells move (hand_of b attacker) less s.fits can
          ∙ ap (λ (hand : List ℕ). less_by hand less) (sym (own_after b move attacker is.mover))));
      fits = subst (Fits less) (sym (own_after b move attacker is.mover)) (hand_fits b.cells move (hand_of b attacker) less s.fits can);
      its = its_after (handed b black white) move attacker is.mover
          ∙ (s.its ∙ ap (λ (hand : List ℕ). more_by hand more) (sym (its_after b move attacker is.mover)));
    }

-- and so it is after an evasion
pub shifted_evasion : (attacker : Side) (less more : List ℕ) (b : Board) (black white : List ℕ) (move : Move) → IsShifted attacker less more b black white
    → IsEvasion attacker b move
    → IsShifted attacker less more (after b move) (after (handed b black white) move).black (after (handed b black white) move).white
shifted_evasion attacker less more b black white move s is =
    let can : Could move (hand_of b (other attacker)) = subst (λ (side : Side). Could move (hand_of b side)) is.mover (could b move is.legal) in
    record {
      own = kept_after (handed b black white) move attacker is.mover
          ∙ (s.own ∙ ap (λ (hand : List ℕ). less_by hand less) (sym (kept_after b move attacker is.mover)));
      fits = subst (Fits less) (sym (kept_after b move attacker is.mover)) s.fits;
      its = own_after (handed b black white) move (other attacker) is.mover
          ∙ (ap (hand_by b.cells move) s.its
          ∙ (hand_more b.cells move (hand_of b (other attacker)) more can
          ∙ ap (λ (hand : List ℕ). more_by hand more) (sym (own_after b move (other attacker) is.mover))));
    }

-- 3. MATES.

mated_by : (attacker : Side) (less more : List ℕ) (n : ℕ)
    → ((b : Board) (black white : List ℕ) → IsShifted attacker less more b black white → RankAtMost attacker n (handed b black white) → RankAtMost attacker n b)
    → (b : Board) (black white : List ℕ) → IsShifted attacker less more b black white → IsMatedWithin attacker n (handed b black white)
    → IsMatedWithin attacker n b
mated_by attacker less more n up b black white s mated = λ evasion is.
    up (after b evasion) (after (handed b black white) evasion).black (after (handed b black white) evasion).white
    (shifted_evasion attacker less more b black white evasion s is)
    (subst (RankAtMost attacker n) (after_handed b black white evasion) (mated evasion (evasion_down attacker less more b black white evasion s is)))

pub rank_up : (attacker : Side) (less more : List ℕ) (n : ℕ) (b : Board) (black white : List ℕ) → IsShifted attacker less more b black white
    → RankAtMost attacker n (handed b black white) → RankAtMost attacker n b
rank_up attacker less more zero b black white s h = h
rank_up attacker less more (suc n) b black white s h = (
  h.0,
  check_up attacker less more b black white h.0 s h.1,
  mated_by attacker less more n (λ c its_black its_white. rank_up attacker less more n c its_black its_white)
      (after b h.0) (after (handed b black white) h.0).black (after (handed b black white) h.0).white
      (shifted_check attacker less more b black white h.0 s h.1)
      (subst (IsMatedWithin attacker n) (after_handed b black white h.0) h.2),
)

pub mated_up : (attacker : Side) (less more : List ℕ) (n : ℕ) (b : Board) (black white : List ℕ) → IsShifted attacker less more b black white
    → IsMatedWithin attacker n (handed b black white) → IsMatedWithin attacker n b
mated_up attacker less more n b black white s mated =
    mated_by attacker less more n (λ c its_black its_white. rank_up attacker less more n c its_black its_white) b black white s mated

-- 4. ESCAPES.

-- the position with so many less, and more
abbrev moved : Side → List ℕ → List ℕ → Board → Board
moved attacker less more b =
    handed b (by_side attacker (less_by b.black less) (more_by b.black more)) (by_side attacker (more_by b.white more) (less_by b.white less))

moved_shifted : (attacker : Side) (less more : List ℕ) (b : Board) → Fits less (hand_of b attacker)
    → IsShifted attacker less more b (moved attacker less more b).black (moved attacker less more b).white
moved_shifted Black less more b f = record { own = refl; fits = f; its = refl }
moved_shifted White less more b f = record { own = refl; fits = f; its = refl }

moved_is : (attacker : Side) (less more : List ℕ) (b : Board) (black white : List ℕ) → IsShifted attacker less more b black white
    → handed b black white ≡ moved attacker less more b
moved_is Black less more b black white s = ap (λ (hand : List ℕ). handed b hand white) s.own ∙ ap (λ (hand : List ℕ). handed b (less_by b.black less) hand) s.its
moved_is White less more b black white s = ap (λ (hand : List ℕ). handed b hand white) s.its ∙ ap (λ (hand : List ℕ). handed b (more_by b.black more) hand) s.own

-- whether so many are there
at_most : (m n : ℕ) → (m ≤ n) ⊎ (m ≤ n → ⊥)
at_most zero n = inl (omega arith)
at_most (suc m) zero = inr (λ h. omega (arith, h))
at_most (suc m) (suc n) = elim (at_most m n) [ inl low ↦ inl (omega (arith, low)) | inr high ↦ inr (λ h. high (omega (arith, h))) ]

pub can_fit : (by hand : List ℕ) → Fits by hand ⊎ (Fits by hand → ⊥)
can_fit [] [] = inl (record {})
can_fit [] (h ∷ hand) = inr (λ f. f)
can_fit (b ∷ by) [] = inr (λ f. f)
can_fit (b ∷ by) (h ∷ hand) = elim (at_most b h) [
  | inl low ↦ elim (can_fit by hand) [ inl rest ↦ inl (low, rest) | inr isnt ↦ inr (λ f. isnt f.1) ]
  | inr high ↦ inr (λ f. high f.0)
]

abbrev pub put_if : {A : Type 0} → A ⊎ (A → ⊥) → Board → List Board → List Board
put_if (inl is) b s = b ∷ s
put_if (inr isnt) b s = s

-- those of some positions in which the attacker has so many, with so many less, and more
abbrev all_moved : Side → List ℕ → List ℕ → List Board → List Board
all_moved attacker less more [] = []
all_moved attacker less more (b ∷ s) = put_if (can_fit less (hand_of b attacker)) (moved attacker less more b) (all_moved attacker less more s)

put_later : {A : Type 0} (c : A ⊎ (A → ⊥)) (b q : Board) (s : List Board) → Contains s q → Contains (put_if c b s) q
put_later (inl is) b q s h = later b s q h
put_later (inr isnt) b q s h = h

pub put_first : {A : Type 0} (c : A ⊎ (A → ⊥)) (b : Board) (s : List Board) → A → Contains (put_if c b s) b
put_first (inl is) b s a = first b s
put_first (inr isnt) b s a = absurd (isnt a)

pub put_cases : {A : Type 0} (c : A ⊎ (A → ⊥)) (b q : Board) (s : List Board) → Contains (put_if c b s) q → (A × (b ≡ q)) ⊎ Contains s q
put_cases (inl is) b q s h = elim (in_front b s q h) [ inl e ↦ inl (is, e) | inr there ↦ inr there ]
put_cases (inr isnt) b q s h = inr h

moved_in : (attacker : Side) (less more : List ℕ) (s : List Board) (b : Board) → Contains s b → Fits less (hand_of b attacker)
    → Contains (all_moved attacker less more s) (moved attacker less more b)
moved_in attacker less more [] b h f = absurd (none_in_none b h)
moved_in attacker less more (c ∷ s) b h f = elim (in_front c s b h) [
  | inl e ↦
      subst (λ (q : Board). Contains (all_moved attacker less more (c ∷ s)) (moved attacker less more q)) e
      (put_first (can_fit less (hand_of c attacker)) (moved attacker less more c) (all_moved attacker less more s)
      (subst (λ (q : Board). Fits less (hand_of q attacker)) (sym e) f))
  | inr there ↦
      put_later (can_fit less (hand_of c attacker)) (moved attacker less more c) (moved attacker less more b) (all_moved attacker less more s)
      (moved_in attacker less more s b there f)
]

-- where one of them comes from
record ComesFrom (attacker : Side) (less more : List ℕ) (s : List Board) (q : Board) : Type 0 where
  pub board : Board
  pub inside : Contains s board
  pub fits : Fits less (hand_of board attacker)
  pub is : moved attacker less more board ≡ q

comes_from : (attacker : Side) (less more : List ℕ) (s : List Board) (q : Board) → Contains (all_moved attacker less more s) q
    → ComesFrom attacker less more s q
comes_from attacker less more [] q h = absurd (none_in_none q h)
comes_from attacker less more (c ∷ s) q h =
    elim (put_cases (can_fit less (hand_of c attacker)) (moved attacker less more c) q (all_moved attacker less more s) h) [
      | inl here ↦ record { board = c; inside = first c s; fits = here.0; is = here.1 }
      | inr there ↦
          let from = comes_from attacker less more s q there in
          record { board = from.board; inside = later c s from.board from.inside; fits = from.fits; is = from.is }
    ]

-- the answer to a check with more in hand answers it with less
answered_down : (attacker : Side) (less more : List ℕ) (s : List Board) (b : Board) (check : Move) → IsClosed attacker s [] → Contains s b
    → Fits less (hand_of b attacker) → IsCheck attacker (moved attacker less more b) check
    → HasEvasionTo attacker (λ q. Contains (all_moved attacker less more s) q ⊎ Contains [] q) (moved attacker less more b) check
answered_down attacker less more s b check closed inside fits is =
    let at = moved attacker less more b in
    let begun = moved_shifted attacker less more b fits in
    let e = closed.answered b check inside (check_up attacker less more b at.black at.white check begun is) in
    let mid = after b check in
    let low = after at check in
    let same : low ≡ handed mid low.black low.white = after_handed b at.black at.white check in
    let between = shifted_check attacker less more b at.black at.white check begun is in
    let last = shifted_evasion attacker less more mid low.black low.white e.evasion between e.is_evasion in
    let there = moved_in attacker less more s (after mid e.evasion) (in_first s (after mid e.evasion) e.leads) last.fits in
    let ends = after (handed mid low.black low.white) e.evasion in
    let leads : after low e.evasion ≡ moved attacker less more (after mid e.evasion) =
    ap (λ (q : Board). after q e.evasion) same ∙ (after_handed mid low.black low.white e.evasion
    ∙ moved_is attacker less more (after mid e.evasion) ends.black ends.white last) in
    record {
      evasion = e.evasion;
      is_evasion = subst (λ (q : Board). IsEvasion attacker q e.evasion) (sym same)
          (evasion_down attacker less more mid low.black low.white e.evasion between e.is_evasion);
      leads = inl (subst (Contains (all_moved attacker less more s)) (sym leads) there);
    }

closed_down : (attacker : Side) (less more : List ℕ) (s : List Board) → IsClosed attacker s [] → IsClosed attacker (all_moved attacker less more s) []
closed_down attacker less more s closed = record {
  turn = λ q there. let from = comes_from attacker less more s q there in ap (λ (b : Board). b.side) (sym from.is) ∙ closed.turn from.board from.inside;
  answered = λ q check there is.
      let from = comes_from attacker less more s q there in
      subst (λ (b : Board). HasEvasionTo attacker (λ r. Contains (all_moved attacker less more s) r ⊎ Contains [] r) b check) from.is
      (answered_down attacker less more s from.board check closed from.inside from.fits (subst (λ (b : Board). IsCheck attacker b check) (sym from.is) is));
}

pub escape_down : (attacker : Side) (less more : List ℕ) (b : Board) (black white : List ℕ) → IsShifted attacker less more b black white
    → Escapes attacker b → Escapes attacker (handed b black white)
escape_down attacker less more b black white s e = (
  all_moved attacker less more e.0,
  subst (Contains (all_moved attacker less more e.0)) (sym (moved_is attacker less more b black white s)) (moved_in attacker less more e.0 b e.1 s.fits),
  closed_down attacker less more e.0 e.2,
)

pub evade_down : (attacker : Side) (less more : List ℕ) (b : Board) (black white : List ℕ) → IsShifted attacker less more b black white
    → CanEvadeTo attacker (Escapes attacker) b → CanEvadeTo attacker (Escapes attacker) (handed b black white)
evade_down attacker less more b black white s e = record {
  evasion = e.evasion;
  is_evasion = evasion_down attacker less more b black white e.evasion s e.is_evasion;
  leads =
      let ends = after (handed b black white) e.evasion in
      subst (Escapes attacker) (sym (after_handed b black white e.evasion))
      (escape_down attacker less more (after b e.evasion) ends.black ends.white (shifted_evasion attacker less more b black white e.evasion s e.is_evasion) e.leads);
}

-- 5. A POSITION THAT DOMINATES ANOTHER.

pub hand_long : (b : Board) (side : Side) → IsKept b → length (hand_of b side) ≡ 7
hand_long b Black k = k.black
hand_long b White k = k.white

pub fits_hands : (low high : List ℕ) → length low ≡ 7 → length high ≡ 7 → ((kind : Kind) → hand_count low kind ≤ hand_count high kind) → Fits low high
fits_hands low high of_low of_high most = fits_by low high (of_low ∙ sym of_high) (λ i below.
    let k = kind_at i (omega (arith, below, of_low)) in
    subst (λ (place : ℕ). get_or low place 0 ≤ get_or high place 0) k.1 (most k.0))

-- by how many the attacker has less, and the defender more
abbrev pub less_in : Side → Board → Board → List ℕ
less_in attacker over under = less_by (hand_of over attacker) (hand_of under attacker)

abbrev pub more_in : Side → Board → Board → List ℕ
more_in attacker over under = less_by (hand_of under (other attacker)) (hand_of over (other attacker))

pub shifted_under : (attacker : Side) (over under : Board) → IsKept over → IsKept under → Dominates attacker over under
    → IsShifted attacker (less_in attacker over under) (more_in attacker over under) over under.black under.white
shifted_under attacker over under high low d =
    let own = fits_hands (hand_of under attacker) (hand_of over attacker) (hand_long under attacker low) (hand_long over attacker high) d.more in
    let its = fits_hands (hand_of over (other attacker)) (hand_of under (other attacker)) (hand_long over (other attacker) high) (hand_long under (other attacker) low) d.less in
    record {
      own = sym (back_down (hand_of under attacker) (hand_of over attacker) own);
      fits = left_fits (hand_of under attacker) (hand_of over attacker) own;
      its = sym (back_up (hand_of over (other attacker)) (hand_of under (other attacker)) its);
    }

-- what carries up to a board with more carries up to what dominates
pub carries_up : (P : Side → Board → Type 0)
    → ((attacker : Side) (less more : List ℕ) (b : Board) (black white : List ℕ) → IsShifted attacker less more b black white → P attacker (handed b black white) → P attacker b)
    → (attacker : Side) (over under : Board) → IsKept over → IsKept under → Dominates attacker over under → P attacker under → P attacker over
carries_up P up attacker over under high low d h =
    up attacker (less_in attacker over under) (more_in attacker over under) over under.black under.white (shifted_under attacker over under high low d)
    (subst (P attacker) (same_board over under d.cells d.turn) h)

pub carries_down : (P : Side → Board → Type 0)
    → ((attacker : Side) (less more : List ℕ) (b : Board) (black white : List ℕ) → IsShifted attacker less more b black white → P attacker b → P attacker (handed b black white))
    → (attacker : Side) (over under : Board) → IsKept over → IsKept under → Dominates attacker over under → P attacker over → P attacker under
carries_down P down attacker over under high low d h =
    subst (P attacker) (sym (same_board over under d.cells d.turn))
    (down attacker (less_in attacker over under) (more_in attacker over under) over under.black under.white (shifted_under attacker over under high low d) h)
