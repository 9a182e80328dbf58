-- Which moves a check can be: one of an own piece, or the drop of another piece than the king.
use Rattle.std.proofs.Common.{◌≡◌, ◌≢◌, ◌<◌, ℕ, List, [], Bool, true, subst, sym, ap, arith}
use Rattle.board_laws.proofs.Cells.{own_is, no_king_in}
use Rattle.bit_boards.specs.declared.square.Square.{Square}
use Rattle.bit_boards.specs.declared.piece.Kind.{Kind}
use Rattle.bit_boards.specs.declared.piece.Kind.TheVariants.{King}
use Rattle.bit_boards.specs.Kind.{place_of}
use Rattle.board_core.specs.declared.moves.Move.{Move}
use Rattle.board_core.specs.declared.moves.Move.TheVariants as moves
use Rattle.board_core.specs.Order.{Lists}
use Rattle.list_laws.proofs.Adding.{lists_nothing}
use Rattle.board_core.specs.Board.{Board, piece_at}
use Rattle.board_core.specs.Kept.{IsKept}
use Rattle.board_core.specs.Sets.{is_of_side}
use Rattle.shogi_rules.specs.declared.illegal.Illegal.TheVariants.{NotInHand}
use Rattle.shogi_rules.specs.Laws.{LegalBoardMoves}
use Rattle.shogi_rules.specs.Tsume.{IsCheck}

-- a check goes from a square with a piece of the side to move
pub check_from : LegalBoardMoves → (b : Board) (from to : Square) (promote : Bool) → IsCheck b.side b (moves.Board from to promote)
    → is_of_side b.side (piece_at b.cells from.number) ≡ true
check_from laws b from to promote check =
    let legal = check.legal in
    let can = (laws b from.number to.number promote).0 (λ why. legal why) in
    own_is (piece_at b.cells from.number) b.side can.own

-- of the first seven kinds none is the king
pub no_king_among : (kind : Kind) (i : ℕ) → place_of kind ≡ i → i < 7 → kind ≢ King
no_king_among kind i at early is = let last = ap place_of is in omega (arith, at, last, early)

-- no king is dropped
pub no_king_dropped : (b : Board) → IsKept b → (to : Square) → ¬ IsCheck b.side b (moves.Drop King to)
no_king_dropped b kept to check = let legal = check.legal in legal NotInHand (no_king_in b b.side kept)

-- an empty list is that of the moves with a property that none has
pub none_listed : (P : Move → Type 0) (xs : List Move) → xs ≡ [] → ((m : Move) → ¬ P m) → Lists P xs
none_listed P xs empty none = subst (λ (ys : List Move). Lists P ys) (sym empty) (lists_nothing P none)
