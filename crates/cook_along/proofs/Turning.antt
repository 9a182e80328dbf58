-- The attacker's turns along a line, one after the other.
use Rattle.std.proofs.Common.{◌≡◌, ◌≢◌, ◌<◌, ◌-◌, ◌*◌, ◌∙◌, ◌++◌, ◌∷◌, [], inl, inr, ℕ, zero, suc, List, length, take, drop, arith, ap, refl, sym, subst}
use Rattle.std.specs.Prelude.{IsTrue, Some, nat_lt, slice_get}
use Rattle.std.proofs.lemmas.Bool.{lt-ltb}
use Rattle.std.proofs.lemmas.Option.{same_Some}
use Rattle.bit_boards.specs.declared.piece.Side.{Side}
use Rattle.bit_boards.specs.declared.piece.Side.TheVariants.{Black, White}
use Rattle.bit_boards.specs.Kind.{other}
use Rattle.board_core.specs.declared.moves.Move.{Move}
use Rattle.board_core.specs.Board.{Board}
use Rattle.board_core.specs.Order.{Lists}
use Rattle.shogi_rules.specs.Rules.{after}
use Rattle.shogi_rules.specs.Tsume.{IsCheck, IsEvasion}
use Rattle.shogi_rules.proofs.Offered.{after_check, after_evasion}
use Rattle.mate_def.specs.Mate.{after_both}
use Rattle.kif_moves.specs.Playing.{AreInTurn, IsInTurn, after_all}
use Rattle.cook_along.specs.Inside.{IsAtTurn}

-- 1. One move more.

after_last : (b : Board) (ms : List Move) (m : Move) → after_all b (ms ++ m ∷ []) ≡ after (after_all b ms) m
after_last b [] m = refl
after_last b (n ∷ ms) m = after_last (after b n) ms m

take_one : (ms : List Move) (k : ℕ) (m : Move) → slice_get ms k ≡ Some m → take (suc k) ms ≡ take k ms ++ m ∷ []
take_one [] k m at = absurd (cc)
take_one (n ∷ ms) zero m at = ap (λ (x : Move). x ∷ []) (same_Some n m at)
take_one (n ∷ ms) (suc k) m at = ap (λ (xs : List Move). n ∷ xs) (take_one ms k m at)

drop_one : (ms : List Move) (k : ℕ) (m : Move) → slice_get ms k ≡ Some m → drop k ms ≡ m ∷ drop (suc k) ms
drop_one [] k m at = absurd (cc)
drop_one (n ∷ ms) zero m at = ap (λ (x : Move). x ∷ ms) (same_Some n m at)
drop_one (n ∷ ms) (suc k) m at = drop_one ms k m at

after_one : (p : Board) (ms : List Move) (k : ℕ) (m : Move) → slice_get ms k ≡ Some m → after_all p (take (suc k) ms) ≡ after (after_all p (take k ms)) m
after_one p ms k m at = ap (after_all p) (take_one ms k m at) ∙ after_last p (take k ms) m

-- 2. Whose turn it is.

other_apart : (s : Side) → other s ≢ s
other_apart Black same = cc
other_apart White same = cc

checks : (attacker : Side) (b : Board) (m : Move) → b.side ≡ attacker → IsInTurn attacker b m → IsCheck attacker b m
checks attacker b m side (inl check) = check
checks attacker b m side (inr evasion) = absurd (other_apart attacker (sym evasion.mover ∙ side))

evades : (attacker : Side) (b : Board) (m : Move) → b.side ≡ other attacker → IsInTurn attacker b m → IsEvasion attacker b m
evades attacker b m side (inl check) = absurd (other_apart attacker (sym side ∙ check.mover))
evades attacker b m side (inr evasion) = evasion

module _ (p : Board) (moves : List Move) (turn : ℕ) (b : Board) (at : IsAtTurn p moves turn b) (check : Move) (there : slice_get moves (2 * turn) ≡ Some check) where
  here : AreInTurn p.side b (check ∷ drop (suc (2 * turn)) moves)
  here = subst (AreInTurn p.side b) (drop_one moves (2 * turn) check there) at.in_turn

  -- the line's move at a turn is a check
  checks_there : IsCheck p.side b check
  checks_there = checks p.side b check at.attacks here.0

  pub checks_own : IsCheck b.side b check
  checks_own = subst (λ (s : Side). IsCheck s b check) (sym at.attacks) checks_there

  module _ (evasion : Move) (then : slice_get moves (suc (2 * turn)) ≡ Some evasion) where
    there_on : AreInTurn p.side (after b check) (evasion ∷ drop (suc (suc (2 * turn))) moves)
    there_on = subst (AreInTurn p.side (after b check)) (drop_one moves (suc (2 * turn)) evasion then) here.1

    evades_there : IsEvasion p.side (after b check) evasion
    evades_there = evades p.side (after b check) evasion (after_check p.side b check checks_there) there_on.0

    pub evades_own : IsEvasion b.side (after b check) evasion
    evades_own = subst (λ (s : Side). IsEvasion s (after b check) evasion) (sym at.attacks) evades_there

    -- and so to the next turn
    pub next_turn : IsAtTurn p moves (suc turn) (after_both b check evasion)
    next_turn =
        let two : suc (suc (2 * turn)) ≡ 2 * suc turn = omega arith in
        record {
          is_position = ap (λ (c : Board). after_both c check evasion) at.is_position
              ∙ (ap (λ (c : Board). after c evasion) (sym (after_one p moves (2 * turn) check there)) ∙ sym (after_one p moves (suc (2 * turn)) evasion then))
              ∙ ap (λ (n : ℕ). after_all p (take n moves)) two;
          attacks = after_evasion p.side (after b check) evasion evades_there;
          in_turn = subst (λ (n : ℕ). AreInTurn p.side (after_both b check evasion) (drop n moves)) two there_on.1;
        }

-- the first turn is at the problem
pub first_turn : (p : Board) (moves : List Move) → AreInTurn p.side p moves → IsAtTurn p moves 0 p
first_turn p moves in_turn = record { is_position = refl; attacks = refl; in_turn = in_turn }

-- 3. Where the moves of the turn before this one stand.

some : (n : ℕ) → n ≢ 0 → 0 < n
some zero later = absurd (later refl)
some (suc n) later = omega arith

pub check_before : (moves : List Move) (turn : ℕ) (m : Move) → slice_get moves (2 * turn - 2) ≡ Some m → slice_get moves (2 * (turn - 1)) ≡ Some m
check_before moves turn m at =
    let same : 2 * turn - 2 ≡ 2 * (turn - 1) = omega arith in
    subst (λ (n : ℕ). slice_get moves n ≡ Some m) same at

pub evasion_before : (moves : List Move) (turn : ℕ) (m : Move) → turn ≢ 0 → slice_get moves (2 * turn - 1) ≡ Some m
    → slice_get moves (suc (2 * (turn - 1))) ≡ Some m
evasion_before moves turn m later at =
    let past = some turn later in
    let same : 2 * turn - 1 ≡ suc (2 * (turn - 1)) = omega (arith, past) in
    subst (λ (n : ℕ). slice_get moves n ≡ Some m) same at

pub this_turn : (p : Board) (moves : List Move) (turn : ℕ) (b c : Board) → turn ≢ 0 → IsAtTurn p moves (suc (turn - 1)) b → c ≡ b
    → IsAtTurn p moves turn c
this_turn p moves turn b c later at same =
    let past = some turn later in
    let is : suc (turn - 1) ≡ turn = omega (arith, past) in
    subst (λ (n : ℕ). IsAtTurn p moves n c) is (subst (IsAtTurn p moves (suc (turn - 1))) (sym same) at)

-- 4. Whether there is an evasion.

pub some_listed : (P : Move → Type 0) (ms : List Move) → Lists P ms
    → (IsTrue (nat_lt 0 (length ms)) → (m : Move) × P m) × ((m : Move) × P m → IsTrue (nat_lt 0 (length ms)))
some_listed P [] lists = (
  (λ yes. absurd (cc)),
  (λ is. let there = lists.complete is.0 is.1 in let inside = there.1 in absurd (omega (arith, inside))),
)
some_listed P (m ∷ ms) lists = ((λ yes. (m, lists.sound m (0, omega arith, refl))), (λ is. lt-ltb 0 (length (m ∷ ms)) (omega arith)))
