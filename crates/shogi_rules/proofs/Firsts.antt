-- The first reason that holds, from tests made in order.
use Rattle.std.proofs.Common.{◌<◌, ℕ, Bool, arith}
use Rattle.bit_boards.specs.declared.piece.Kind.{Kind}
use Rattle.board_core.specs.Board.{Board}
use Rattle.shogi_rules.specs.declared.illegal.Illegal.{Illegal}
use Rattle.shogi_rules.specs.declared.illegal.Illegal.TheVariants.{NotThere, OwnPiece, NoStep, Blocked, BadPromotion, Occupied, NotInHand, DeadDrop, TwoPawns, KingLeft, PawnMate}
use Rattle.shogi_rules.specs.Rules.{IsOwn, Fits, IsClear, PromotionFits, IsInCheck, after_board, RefusesBoard, RefusesDrop, refusal_order}

-- what was tested of a move on the board speaks for it, up to a place in the order
pub board_sooner : (b : Board) (from to : ℕ) (promote : Bool) (n : ℕ)
    → (0 < n → IsOwn b from) → (1 < n → ¬ IsOwn b to) → (2 < n → Fits b from to) → (3 < n → IsClear b.cells from to)
    → (4 < n → PromotionFits b from to promote) → (9 < n → ¬ IsInCheck (after_board b from to promote).cells b.side)
    → (sooner : Illegal) → refusal_order sooner < n → ¬ RefusesBoard b from to promote sooner
board_sooner b from to promote n own free fit clear turn safe NotThere h = λ r. r (own h)
board_sooner b from to promote n own free fit clear turn safe OwnPiece h = free h
board_sooner b from to promote n own free fit clear turn safe NoStep h = λ r. r (fit h)
board_sooner b from to promote n own free fit clear turn safe Blocked h = λ r. r (clear h)
board_sooner b from to promote n own free fit clear turn safe BadPromotion h = λ r. r (turn h)
board_sooner b from to promote n own free fit clear turn safe Occupied h = λ r. r
board_sooner b from to promote n own free fit clear turn safe NotInHand h = λ r. r
board_sooner b from to promote n own free fit clear turn safe DeadDrop h = λ r. r
board_sooner b from to promote n own free fit clear turn safe TwoPawns h = λ r. r
board_sooner b from to promote n own free fit clear turn safe KingLeft h = safe h
board_sooner b from to promote n own free fit clear turn safe PawnMate h = λ r. r

-- likewise of a drop
pub drop_sooner : (b : Board) (kind : Kind) (to : ℕ) (n : ℕ)
    → (5 < n → ¬ RefusesDrop b kind to Occupied) → (6 < n → ¬ RefusesDrop b kind to NotInHand) → (7 < n → ¬ RefusesDrop b kind to DeadDrop)
    → (8 < n → ¬ RefusesDrop b kind to TwoPawns) → (9 < n → ¬ RefusesDrop b kind to KingLeft) → (10 < n → ¬ RefusesDrop b kind to PawnMate)
    → (sooner : Illegal) → refusal_order sooner < n → ¬ RefusesDrop b kind to sooner
drop_sooner b k to n empty some alive pawn safe mate NotThere h = λ r. r
drop_sooner b k to n empty some alive pawn safe mate OwnPiece h = λ r. r
drop_sooner b k to n empty some alive pawn safe mate NoStep h = λ r. r
drop_sooner b k to n empty some alive pawn safe mate Blocked h = λ r. r
drop_sooner b k to n empty some alive pawn safe mate BadPromotion h = λ r. r
drop_sooner b k to n empty some alive pawn safe mate Occupied h = empty h
drop_sooner b k to n empty some alive pawn safe mate NotInHand h = some h
drop_sooner b k to n empty some alive pawn safe mate DeadDrop h = alive h
drop_sooner b k to n empty some alive pawn safe mate TwoPawns h = pawn h
drop_sooner b k to n empty some alive pawn safe mate KingLeft h = safe h
drop_sooner b k to n empty some alive pawn safe mate PawnMate h = mate h

pub below_eleven : (why : Illegal) → refusal_order why < 11
below_eleven NotThere = omega arith
below_eleven OwnPiece = omega arith
below_eleven NoStep = omega arith
below_eleven Blocked = omega arith
below_eleven BadPromotion = omega arith
below_eleven Occupied = omega arith
below_eleven NotInHand = omega arith
below_eleven DeadDrop = omega arith
below_eleven TwoPawns = omega arith
below_eleven KingLeft = omega arith
below_eleven PawnMate = omega arith
