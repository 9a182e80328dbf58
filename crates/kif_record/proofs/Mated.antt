-- When the defender is mated.
use Rattle.std.proofs.Common.{◌≡◌, List, [], ◌∷◌, Bool, IsTrue, length, ◌==◌, refl, sym, ◌∙◌, arith}
use Rattle.std.proofs.lemmas.Bool.{eqb-true}
use Rattle.bit_boards.specs.declared.piece.Side.{Side}
use Rattle.bit_boards.specs.declared.piece.Side.TheVariants.{Black, White}
use Rattle.bit_boards.specs.Kind.{other}
use Rattle.board_core.specs.declared.moves.Move.{Move}
use Rattle.board_core.specs.Board.{Board}
use Rattle.board_core.specs.Order.{Lists}
use Rattle.shogi_rules.specs.Tsume.{IsEvasion}
use Rattle.list_laws.proofs.Standing.{contained}
use Rattle.kif_record.specs.Mated.{IsMated}

-- Who isn't to move is the other.
pub other_side : (a b : Side) → (a ≡ b → ⊥) → a ≡ other b
other_side Black Black apart = absurd (apart refl)
other_side Black White apart = refl
other_side White Black apart = refl
other_side White White apart = absurd (apart refl)

-- He is mated exactly where the list of his evasions is empty.
pub mated_where_none : (attacker : Side) (b : Board) (moves : List Move) (empty : Bool) → b.side ≡ other attacker → Lists (IsEvasion attacker b) moves
    → empty ≡ (length moves == 0) → (IsTrue empty → IsMated attacker b) × (IsMated attacker b → IsTrue empty)
mated_where_none attacker b [] empty turn lists is = (
  (λ none. record { turn = turn; none = λ evasion may. let within = (lists.complete evasion may).1 in absurd (omega (arith, within)) }),
  (λ mated. is),
)
mated_where_none attacker b (move ∷ moves) empty turn lists is = (
  (λ none. let long : length (move ∷ moves) ≡ 0 = eqb-true (length (move ∷ moves)) 0 (sym is ∙ none) in absurd (omega (arith, long))),
  (λ mated. absurd (mated.none move (lists.sound move (contained (move ∷ moves) 0 move refl)))),
)
