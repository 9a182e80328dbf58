-- What a legal move has, in place of what speaks against one.
use Rattle.std.specs.Prelude.{◌≡◌, ◌<◌, ◌↔◌, ℕ, Some, None, Bool, false}
use Rattle.bit_boards.specs.declared.piece.Kind.{Kind}
use Rattle.bit_boards.specs.declared.piece.Kind.TheVariants.{Pawn}
use Rattle.bit_boards.specs.Piece.{is_dead, plain_piece}
use Rattle.board_core.specs.Board.{Board, piece_at, hand_count, hand_of}
use Rattle.shogi_rules.specs.Rules.{IsOwn, Fits, IsClear, PromotionFits, IsInCheck, after_board, after_drop, HasPawnOnFile, IsPawnMate, RefusesBoard, RefusesDrop}
use Rattle.shogi_rules.specs.declared.illegal.Illegal.{Illegal}

-- What a legal move on the board has: a piece of the mover on the origin, none on the destination;
-- the piece goes there, nothing stands between, it may be promoted so, or stay so; and the mover's
-- king isn't attacked after it.
pub record CanGo (b : Board) (from to : ℕ) (promote : Bool) : Type 0 where
  pub own : IsOwn b from
  pub free : ¬ IsOwn b to
  pub fits : Fits b from to
  pub clear : IsClear b.cells from to
  pub promotion : PromotionFits b from to promote
  pub safe : ¬ IsInCheck (after_board b from to promote).cells b.side

-- What a legal drop has: the square is empty, the piece is in hand and could move from there, it is
-- no second pawn on the file; the mover's king isn't attacked after it, and it is no mate by a
-- dropped pawn.
pub record CanDrop (b : Board) (kind : Kind) (to : ℕ) : Type 0 where
  pub empty : piece_at b.cells to ≡ None
  pub in_hand : 0 < hand_count (hand_of b b.side) kind
  pub alive : is_dead to (Some (plain_piece kind b.side)) ≡ false
  pub pawn : ¬ ((kind ≡ Pawn) × HasPawnOnFile b.cells b.side to)
  pub safe : ¬ IsInCheck (after_drop b kind to).cells b.side
  pub no_mate : ¬ IsPawnMate b kind to

-- A law: nothing speaks against a move on the board exactly where it has what a legal one has.
abbrev pub LegalBoardMoves : Type 0
LegalBoardMoves = (b : Board) (from to : ℕ) (promote : Bool) → ((why : Illegal) → ¬ RefusesBoard b from to promote why) ↔ CanGo b from to promote

-- A law: nothing speaks against a drop exactly where it has what a legal one has.
abbrev pub LegalDrops : Type 0
LegalDrops = (b : Board) (kind : Kind) (to : ℕ) → ((why : Illegal) → ¬ RefusesDrop b kind to why) ↔ CanDrop b kind to
