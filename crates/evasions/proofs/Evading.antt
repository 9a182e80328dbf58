-- When a move is an evasion, by the sets of squares that are made of legal moves.
use Rattle.std.proofs.Common.{◌≡◌, ◌<◌, ◌↔◌, ℕ, Bool, refl, ◌∙◌, nat_lt}
use Rattle.std.proofs.lemmas.Bool.{lt-ltb}
use Rattle.board_laws.proofs.Cells.{no_king_in}
use Rattle.list_laws.proofs.Filling.{FromOwn}
use Rattle.bit_boards.specs.declared.square.Square.{Square}
use Rattle.bit_boards.specs.declared.piece.Kind.{Kind}
use Rattle.bit_boards.specs.declared.piece.Kind.TheVariants.{King}
use Rattle.bit_boards.specs.declared.piece.Side.{Side}
use Rattle.bit_boards.specs.declared.piece.Side.TheVariants.{Black, White}
use Rattle.bit_boards.specs.declared.mask.Mask.{Mask}
use Rattle.bit_boards.specs.Kind.{other}
use Rattle.bit_boards.specs.Mask.{holds, Holds}
use Rattle.board_core.specs.declared.moves.Move.{Move}
use Rattle.board_core.specs.declared.moves.Move.TheVariants as moves
use Rattle.board_core.specs.Board.{Board}
use Rattle.board_core.specs.Kept.{IsKept}
use Rattle.shogi_rules.specs.declared.illegal.Illegal.TheVariants.{NotInHand}
use Rattle.shogi_rules.specs.Tsume.{IsEvasion}
use Rattle.legal_moves.specs.Legal.{IsLegalBoard, IsLegalDrop}

twice : (side : Side) → side ≡ other (other side)
twice Black = refl
twice White = refl

-- whoever moves: an evasion is a legal move of the side to move
abbrev pub Evasion : Board → Move → Type 0
Evasion b move = IsEvasion (other b.side) b move

board_evasion : (b : Board) (from to : Square) (promote : Bool) → IsLegalBoard b from.number to.number promote ↔ Evasion b (moves.Board from to promote)
board_evasion b from to promote = (
  (λ legal. record { mover = twice b.side; legal = λ why. legal why }),
  (λ evasion. let legal = evasion.legal in λ why. legal why),
)

drop_evasion : (b : Board) (dropped : Kind) (to : Square) → IsLegalDrop b dropped to.number ↔ Evasion b (moves.Drop dropped to)
drop_evasion b dropped to = (
  (λ legal. record { mover = twice b.side; legal = λ why. legal why }),
  (λ evasion. let legal = evasion.legal in λ why. legal why),
)

-- the squares to which a piece may go, of all squares, are those of its evasions
pub board_exact : (b : Board) (from : Square) (promote : Bool) (full squares : Mask) → ((s : ℕ) → holds full s ≡ nat_lt s 81)
    → ((to : ℕ) → Holds squares to ↔ (Holds full to × IsLegalBoard b from.number to promote))
    → (to : Square) → Holds squares to.number ↔ Evasion b (moves.Board from to promote)
board_exact b from promote full squares all are to = (
  (λ has. (board_evasion b from to promote).0 ((are to.number).0 has).1),
  (λ evasion. (are to.number).1 (all to.number ∙ lt-ltb to.number 81 to.on_board, (board_evasion b from to promote).1 evasion)),
)

pub drops_exact : (b : Board) (dropped : Kind) (full squares : Mask) → ((s : ℕ) → holds full s ≡ nat_lt s 81)
    → ((to : ℕ) → Holds squares to ↔ (Holds full to × IsLegalDrop b dropped to))
    → (to : Square) → Holds squares to.number ↔ Evasion b (moves.Drop dropped to)
drops_exact b dropped full squares all are to = (
  (λ has. (drop_evasion b dropped to).0 ((are to.number).0 has).1),
  (λ evasion. (are to.number).1 (all to.number ∙ lt-ltb to.number 81 to.on_board, (drop_evasion b dropped to).1 evasion)),
)

-- an evasion goes from a square that any legal move may go from
pub evasion_from : (b : Board) (movers : Mask)
    → ((from to : ℕ) (promote : Bool) → from < 81 → to < 81 → IsLegalBoard b from to promote → Holds movers from) → FromOwn (Evasion b) (holds movers)
evasion_from b movers all from to promote evasion =
    all from.number to.number promote from.on_board to.on_board ((board_evasion b from to promote).1 evasion)

-- no evasion drops a king
pub no_king_drop : (b : Board) → IsKept b → (to : Square) → Evasion b (moves.Drop King to) → ⊥
no_king_drop b kept to evasion = let legal = evasion.legal in legal NotInHand (no_king_in b b.side kept)

-- where the attacker is to move there is none
sides_apart : (side attacker : Side) → side ≡ attacker → side ≡ other attacker → ⊥
sides_apart Black Black e f = cc
sides_apart Black White e f = cc
sides_apart White Black e f = cc
sides_apart White White e f = cc

pub none_for : (b : Board) (attacker : Side) → b.side ≡ attacker → (m : Move) → IsEvasion attacker b m → ⊥
none_for b attacker turn m evasion = sides_apart b.side attacker turn evasion.mover

-- where he isn't, the defender is
pub other_turn : (side attacker : Side) → (side ≡ attacker → ⊥) → attacker ≡ other side
other_turn Black Black n = absurd (n refl)
other_turn Black White n = refl
other_turn White Black n = refl
other_turn White White n = absurd (n refl)
