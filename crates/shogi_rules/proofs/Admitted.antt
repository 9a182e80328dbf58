-- Nothing speaks against a move exactly where it has what a legal move has.
use Rattle.std.proofs.Common.{◌≡◌, ◌<◌, ℕ, Bool, arith}
use Rattle.std.proofs.lemmas.Bool.{false_from_ne_true}
use Rattle.board_laws.proofs.Cells.{full_there}
use Rattle.bit_boards.specs.declared.piece.Kind.{Kind}
use Rattle.board_core.specs.Board.{Board, piece_at}
use Rattle.shogi_rules.specs.Rules.{RefusesBoard, RefusesDrop}
use Rattle.shogi_rules.specs.Laws.{CanGo, CanDrop, LegalBoardMoves, LegalDrops}
use Rattle.shogi_rules.specs.declared.illegal.Illegal.{Illegal}
use Rattle.shogi_rules.specs.declared.illegal.Illegal.TheVariants.{NotThere, OwnPiece, NoStep, Blocked, BadPromotion, Occupied, NotInHand, DeadDrop, TwoPawns, KingLeft, PawnMate}
use Rattle.shogi_rules.proofs.Decided.{own_decided, fits_decided, promotion_decided, clear_decided}
use Rattle.shogi_rules.proofs.Moves.{empty_there}

pub can_go : (b : Board) (from to : ℕ) (promote : Bool) → ((why : Illegal) → ¬ RefusesBoard b from to promote why) → CanGo b from to promote
can_go b from to promote h = record {
  own = own_decided b from (λ x. h NotThere x);
  free = λ x. h OwnPiece x;
  fits = fits_decided b from to (λ x. h NoStep x);
  clear = clear_decided b.cells from to (λ x. h Blocked x);
  promotion = promotion_decided b from to promote (λ x. h BadPromotion x);
  safe = λ x. h KingLeft x;
}

may_go : (b : Board) (from to : ℕ) (promote : Bool) → CanGo b from to promote → (why : Illegal) → ¬ RefusesBoard b from to promote why
may_go b from to promote c NotThere h = h c.own
may_go b from to promote c OwnPiece h = c.free h
may_go b from to promote c NoStep h = h c.fits
may_go b from to promote c Blocked h = h c.clear
may_go b from to promote c BadPromotion h = h c.promotion
may_go b from to promote c Occupied h = h
may_go b from to promote c NotInHand h = h
may_go b from to promote c DeadDrop h = h
may_go b from to promote c TwoPawns h = h
may_go b from to promote c KingLeft h = c.safe h
may_go b from to promote c PawnMate h = h

some_held : (n : ℕ) → ¬ (n ≡ 0) → 0 < n
some_held n h = grind arith

pub can_drop : (b : Board) (wanted : Kind) (to : ℕ) → ((why : Illegal) → ¬ RefusesDrop b wanted to why) → CanDrop b wanted to
can_drop b wanted to h = record {
  empty = empty_there (piece_at b.cells to) (λ x. h Occupied x);
  in_hand = some_held _ (λ x. h NotInHand x);
  alive = false_from_ne_true _ (λ x. h DeadDrop x);
  pawn = λ x. h TwoPawns x;
  safe = λ x. h KingLeft x;
  no_mate = λ x. h PawnMate x;
}

may_drop : (b : Board) (wanted : Kind) (to : ℕ) → CanDrop b wanted to → (why : Illegal) → ¬ RefusesDrop b wanted to why
may_drop b wanted to c NotThere h = h
may_drop b wanted to c OwnPiece h = h
may_drop b wanted to c NoStep h = h
may_drop b wanted to c Blocked h = h
may_drop b wanted to c BadPromotion h = h
may_drop b wanted to c Occupied h = full_there (piece_at b.cells to) c.empty h
may_drop b wanted to c NotInHand h = let some = c.in_hand in omega (arith, h, some)
may_drop b wanted to c DeadDrop h = let alive = c.alive in cc
may_drop b wanted to c TwoPawns h = c.pawn h
may_drop b wanted to c KingLeft h = c.safe h
may_drop b wanted to c PawnMate h = c.no_mate h

pub board_legal : LegalBoardMoves
board_legal b from to promote = (can_go b from to promote, may_go b from to promote)

pub drops_legal : LegalDrops
drops_legal b wanted to = (can_drop b wanted to, may_drop b wanted to)
