-- The moves are made again, one after the other; and a list without moves says that there are none.
use Rattle.std.proofs.Common.{◌≡◌, ◌<◌, ◌+◌, ◌%◌, ◌∷◌, [], ℕ, suc, Bool, List, inl, inr, length, drop, get_or, drop-cons, refl, sym, ap, ◌∙◌, subst, arith, eqb-true}
use Rattle.std.specs.Prelude.{IsTrue, nat_eq}
use Rattle.bit_boards.specs.declared.piece.Side.{Side}
use Rattle.board_core.specs.declared.moves.Move.{Move}
use Rattle.board_core.specs.Board.{Board}
use Rattle.board_core.specs.Order.{Lists}
use Rattle.shogi_rules.specs.Rules.{IsLegal, after}
use Rattle.shogi_rules.specs.Tsume.{IsEvasion}
use Rattle.kif_moves.specs.Playing.{IsInTurn, AreInTurn, after_all}
use Rattle.cmd_solution.specs.Verdict.{IsTrueOf}

from_move : (moves : List Move) (at : ℕ) (m : Move) → at < length moves → m ≡ get_or moves at m → drop at moves ≡ m ∷ drop (at + 1) moves
from_move moves at m h is =
    let more : suc at ≡ at + 1 = omega arith in
    drop-cons moves at m h ∙ ap (λ (k : ℕ). get_or moves at m ∷ drop k moves) more ∙ ap (λ (x : Move). x ∷ drop (at + 1) moves) (sym is)

legal_in_turn : (attacker : Side) (b : Board) (m : Move) → IsInTurn attacker b m → IsLegal b m
legal_in_turn attacker b m (inl h) = h.legal
legal_in_turn attacker b m (inr h) = h.legal

module _ (attacker : Side) (b : Board) (moves : List Move) (at : ℕ) (m : Move) (h : at < length moves) (is : m ≡ get_or moves at m)
    (turn : AreInTurn attacker b (drop at moves)) where
  here : AreInTurn attacker b (m ∷ drop (at + 1) moves)
  here = subst (λ (l : List Move). AreInTurn attacker b l) (from_move moves at m h is) turn

  pub legal_here : IsLegal b m
  legal_here = legal_in_turn attacker b m here.0

  pub turn_on : AreInTurn attacker (after b m) (drop (at + 1) moves)
  turn_on = here.1

pub after_on : (b : Board) (moves : List Move) (at : ℕ) (m : Move) → at < length moves → m ≡ get_or moves at m
    → after_all b (drop at moves) ≡ after_all (after b m) (drop (at + 1) moves)
after_on b moves at m h is = ap (λ (l : List Move). after_all b l) (from_move moves at m h is)

pub none_listed : (P : Move → Type 0) (ms : List Move) → Lists P ms
    → (IsTrue (nat_eq (length ms) 0) → (e : Move) → P e → ⊥) × (((e : Move) → ¬ P e) → IsTrue (nat_eq (length ms) 0))
none_listed P [] l = (
  (λ t e p. let there = l.complete e p in let lt = there.1 in absurd (omega arith)),
  (λ none. refl),
)
none_listed P (m ∷ ms) l = (
  (λ t e p. let none : length (m ∷ ms) ≡ 0 = eqb-true (length (m ∷ ms)) 0 t in absurd (omega arith)),
  (λ none. absurd (none m (l.sound m (0, omega arith, refl)))),
)

-- an odd number of moves ends in mate where the defender has no evasion at the last position
pub judged_odd : (p : Board) (moves : List Move) (last : Board) (stuck : Bool) → last ≡ after_all p moves → length moves % 2 ≡ 1
    → (IsTrue stuck → (e : Move) → IsEvasion p.side last e → ⊥) × (((e : Move) → ¬ IsEvasion p.side last e) → IsTrue stuck)
    → IsTrueOf p moves (record { moves = length moves; mate = stuck })
judged_odd p moves last stuck there odd known = record {
  count = refl;
  mate = (
    (λ t. record { odd = odd; no_evasion = λ e is. known.0 t e (subst (λ (b : Board). IsEvasion p.side b e) (sym there) is) }),
    (λ ends. known.1 (λ e is. ends.no_evasion e (subst (λ (b : Board). IsEvasion p.side b e) there is))),
  );
}
