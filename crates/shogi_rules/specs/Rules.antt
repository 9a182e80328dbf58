-- The rules of shogi, in the order in which one learns them: how the pieces move, what a move on
-- the board and a drop do, promotion, check, why a move may not be made, and the mate by a dropped
-- pawn.
use Rattle.std.specs.Prelude.{◌≡◌, ◌≢◌, ◌<◌, ◌+◌, ◌/◌, ◌&&◌, ◌||◌, ℕ, List, Option, Some, None, Bool, true, false, not, Result, Ok, Err, nat_le, IsTrue, IsSome, IsSomeAnd, refl}
use Rattle.std.specs.Option.{option_map}
use Rattle.bit_boards.specs.declared.piece.Kind.{Kind}
use Rattle.bit_boards.specs.declared.piece.Kind.TheVariants.{Pawn}
use Rattle.bit_boards.specs.declared.piece.Side.{Side}
use Rattle.bit_boards.specs.declared.piece.Piece.{Piece}
use Rattle.board_core.specs.declared.moves.Move.{Move}
use Rattle.board_core.specs.declared.moves.Move.TheVariants as moves
use Rattle.bit_boards.specs.Square.{height}
use Rattle.bit_boards.specs.Kind.{other, can_promote}
use Rattle.bit_boards.specs.Piece.{is_dead, plain_piece}
use Rattle.bit_boards.specs.Movement.{fits, IsBetween}
use Rattle.board_core.specs.Board.{Board, piece_at, hand_count, hand_of, with_more, with_less, is_king_of, is_pawn_of, with_cell, with_hand, with_turn_passed}
use Rattle.shogi_rules.specs.declared.illegal.Illegal.{Illegal}
use Rattle.shogi_rules.specs.declared.illegal.Illegal.TheVariants.{NotThere, OwnPiece, NoStep, Blocked, BadPromotion, Occupied, NotInHand, DeadDrop, TwoPawns, KingLeft, PawnMate}

-- 1. MOVEMENT. How a piece moves on an empty board is said in `bit_boards`; here, over what stands
-- between.

-- Every square strictly between the two is empty.
abbrev pub IsClear : List (Option Piece) → ℕ → ℕ → Type 0
IsClear cells a b = (m : ℕ) → IsBetween a m b → piece_at cells m ≡ None

-- The piece reaches the one square from the other: by a step or a slide, with nothing between.
pub record Reaches (cells : List (Option Piece)) (piece : Piece) (from to : ℕ) : Type 0 where
  pub fit : IsTrue (fits piece from to)
  pub clear : IsClear cells from to

-- 2. WHAT A MOVE DOES.

-- A piece that was promoted, or that its move promotes where its kind can be, is of a kind that can
-- be.
pub promotes_or : (p q c : Bool) → (p ≡ true → c ≡ true) → (p || (q && c)) ≡ true → c ≡ true
promotes_or true q c h e = h refl
promotes_or false true c h e = e
promotes_or false false c h e = absurd (cc)

-- A piece as it stands after its move: promoted if it was, or if the move promotes it and its kind
-- can be.
abbrev pub landed_piece : Bool → Piece → Piece
landed_piece promote piece = record {
  kind = piece.kind;
  promoted = piece.promoted || (promote && can_promote piece.kind);
  side = piece.side;
  promotes = promotes_or piece.promoted promote (can_promote piece.kind) piece.promotes;
}

-- The mover's hand after a move to a square: a piece that was there goes into it, unpromoted.
abbrev pub hand_with_capture : Option Piece → List ℕ → List ℕ
hand_with_capture None hand = hand
hand_with_capture (Some piece) hand = with_more hand piece.kind

-- After a move on the board the origin is empty, the piece stands on the destination, what stood
-- there is in the mover's hand, and the other side is to move.
abbrev pub after_board : Board → ℕ → ℕ → Bool → Board
after_board b from to promote =
    with_turn_passed (with_hand
    (with_cell (with_cell b from None) to (option_map (landed_piece promote) (piece_at b.cells from)))
    b.side
    (hand_with_capture (piece_at b.cells to) (hand_of b b.side)))

-- After a drop the piece stands on the square, the mover's hand has one less of it, and the other
-- side is to move.
abbrev pub after_drop : Board → Kind → ℕ → Board
after_drop b kind to =
    with_turn_passed (with_hand (with_cell b to (Some (plain_piece kind b.side))) b.side (with_less (hand_of b b.side) kind))

-- One cell and one count changed: the piece stands where nothing stood, the mover has one less of
-- its kind, and every other cell, every other count of his hand and the other hand are as they
-- were.
pub record IsDropped (old new : Board) (kind : Kind) (to : ℕ) : Type 0 where
  pub was_empty : piece_at old.cells to ≡ None
  pub stands : piece_at new.cells to ≡ Some (plain_piece kind old.side)
  pub other_cells : (square : ℕ) → square ≢ to → piece_at new.cells square ≡ piece_at old.cells square
  pub one_less : hand_count (hand_of new old.side) kind + 1 ≡ hand_count (hand_of old old.side) kind
  pub other_counts : (k : Kind) → k ≢ kind → hand_count (hand_of new old.side) k ≡ hand_count (hand_of old old.side) k
  pub other_hand : hand_of new (other old.side) ≡ hand_of old (other old.side)

-- The position after a move.
abbrev pub after : Board → Move → Board
after b (moves.Board from to promote) = after_board b from.number to.number promote
after b (moves.Drop kind to) = after_drop b kind to.number

-- 3. PROMOTION.

-- Whether a square lies in the last three rows of a side.
abbrev pub is_in_zone : Side → ℕ → Bool
is_in_zone side square = nat_le 6 (height side square)

-- A piece may be promoted once, where its kind can be, by a move that starts or ends in the last
-- three rows. It may stay unpromoted where it could move again: a pawn and a lance not on the last
-- row, a knight not on the last two.
abbrev pub promotion_fits : Piece → ℕ → ℕ → Bool → Bool
promotion_fits piece from to true = (not piece.promoted && can_promote piece.kind) && (is_in_zone piece.side from || is_in_zone piece.side to)
promotion_fits piece from to false = not (is_dead to (Some piece))

-- 4. CHECK.

-- A piece of the side, on the one square, reaches the other.
abbrev pub AttacksFrom : List (Option Piece) → Side → ℕ → ℕ → Type 0
AttacksFrom cells side from to = IsSomeAnd (piece_at cells from) (λ piece. (piece.side ≡ side) × Reaches cells piece from to)

-- The side attacks the square: one of its pieces reaches it, whatever stands there.
abbrev pub Attacks : List (Option Piece) → Side → ℕ → Type 0
Attacks cells side to = (from : ℕ) × (from < 81) × AttacksFrom cells side from to

-- The king of the side stands on the square, and the other side attacks it.
pub record IsKingAttacked (cells : List (Option Piece)) (side : Side) (square : ℕ) : Type 0 where
  pub king : is_king_of side (piece_at cells square) ≡ true
  pub attacked : Attacks cells (other side) square

-- The side is in check: its king is attacked. A side without a king is never in check.
abbrev pub IsInCheck : List (Option Piece) → Side → Type 0
IsInCheck cells side = (square : ℕ) × (square < 81) × IsKingAttacked cells side square

-- The side not to move isn't in check: so it is in every position that legal moves lead to.
abbrev pub IsQuiet : Board → Type 0
IsQuiet b = ¬ IsInCheck b.cells (other b.side)

-- 5. WHY A MOVE ON THE BOARD MAY NOT BE MADE.

-- A piece of the side to move stands on the square.
abbrev pub IsOwn : Board → ℕ → Type 0
IsOwn b square = IsSomeAnd (piece_at b.cells square) (λ piece. piece.side ≡ b.side)

-- The piece on the origin would go to the destination on an empty board.
abbrev pub Fits : Board → ℕ → ℕ → Type 0
Fits b from to = IsSomeAnd (piece_at b.cells from) (λ piece. IsTrue (fits piece from to))

-- The piece on the origin may be promoted so, or may stay unpromoted so.
abbrev pub PromotionFits : Board → ℕ → ℕ → Bool → Type 0
PromotionFits b from to promote = IsSomeAnd (piece_at b.cells from) (λ piece. IsTrue (promotion_fits piece from to promote))

-- A reason against a move on the board. NotThere: no piece of the mover stands on the origin.
-- OwnPiece: one stands on the destination. NoStep: the piece doesn't go there on an empty board.
-- Blocked: a piece stands between. BadPromotion: it may not be promoted, or has to be. KingLeft:
-- the mover's king would be attacked.
abbrev pub RefusesBoard : Board → ℕ → ℕ → Bool → Illegal → Type 0
RefusesBoard b from to promote NotThere = ¬ IsOwn b from
RefusesBoard b from to promote OwnPiece = IsOwn b to
RefusesBoard b from to promote NoStep = ¬ Fits b from to
RefusesBoard b from to promote Blocked = ¬ IsClear b.cells from to
RefusesBoard b from to promote BadPromotion = ¬ PromotionFits b from to promote
RefusesBoard b from to promote Occupied = ⊥
RefusesBoard b from to promote NotInHand = ⊥
RefusesBoard b from to promote DeadDrop = ⊥
RefusesBoard b from to promote TwoPawns = ⊥
RefusesBoard b from to promote KingLeft = IsInCheck (after_board b from to promote).cells b.side
RefusesBoard b from to promote PawnMate = ⊥

-- 6. WHY A DROP MAY NOT BE MADE.

-- An unpromoted pawn of the side stands on the file of the square.
pub record HasPawnOnFile (cells : List (Option Piece)) (side : Side) (to : ℕ) : Type 0 where
  pub square : ℕ
  pub on_board : square < 81
  pub same_file : square / 9 ≡ to / 9
  pub pawn : is_pawn_of side (piece_at cells square) ≡ true

-- A move on the board that nothing speaks against.
pub record BoardMove (b : Board) : Type 0 where
  pub from : ℕ
  pub to : ℕ
  pub promote : Bool
  pub from_on_board : from < 81
  pub to_on_board : to < 81
  pub stands : (why : Illegal) → ¬ RefusesBoard b from to promote why

-- Mate by a dropped pawn: the piece is a pawn, its drop gives check, and the other side has no move
-- on the board then that leaves its king safe. (Drops needn't be tried: the pawn stands beside the
-- king.)
pub record IsPawnMate (b : Board) (kind : Kind) (to : ℕ) : Type 0 where
  pub pawn : kind ≡ Pawn
  pub check : IsInCheck (after_drop b kind to).cells (other b.side)
  pub no_move : ¬ BoardMove (after_drop b kind to)

-- A reason against a drop. Occupied: the square isn't empty. NotInHand: the mover has none of the
-- kind in hand; he never has a king there. DeadDrop: the piece could never move from there.
-- TwoPawns: it is a pawn, and an unpromoted one of the mover stands on the file. KingLeft: the
-- mover's king would be attacked. PawnMate: it is mate by a dropped pawn.
abbrev pub RefusesDrop : Board → Kind → ℕ → Illegal → Type 0
RefusesDrop b k to NotThere = ⊥
RefusesDrop b k to OwnPiece = ⊥
RefusesDrop b k to NoStep = ⊥
RefusesDrop b k to Blocked = ⊥
RefusesDrop b k to BadPromotion = ⊥
RefusesDrop b k to Occupied = IsSome (piece_at b.cells to)
RefusesDrop b k to NotInHand = hand_count (hand_of b b.side) k ≡ 0
RefusesDrop b k to DeadDrop = is_dead to (Some (plain_piece k b.side)) ≡ true
RefusesDrop b k to TwoPawns = (k ≡ Pawn) × HasPawnOnFile b.cells b.side to
RefusesDrop b k to KingLeft = IsInCheck (after_drop b k to).cells b.side
RefusesDrop b k to PawnMate = IsPawnMate b k to

-- 7. LEGAL MOVES.

-- A reason against a move.
abbrev pub Refuses : Board → Move → Illegal → Type 0
Refuses b (moves.Board from to promote) why = RefusesBoard b from.number to.number promote why
Refuses b (moves.Drop kind to) why = RefusesDrop b kind to.number why

-- The order in which the reasons are asked for.
abbrev pub refusal_order : Illegal → ℕ
refusal_order NotThere = 0
refusal_order OwnPiece = 1
refusal_order NoStep = 2
refusal_order Blocked = 3
refusal_order BadPromotion = 4
refusal_order Occupied = 5
refusal_order NotInHand = 6
refusal_order DeadDrop = 7
refusal_order TwoPawns = 8
refusal_order KingLeft = 9
refusal_order PawnMate = 10

-- Of reasons that hold or don't: the outcome is that none holds, or the first that does.
abbrev pub IsFirst : (Illegal → Type 0) → Result (Unit {0}) Illegal → Type 0
IsFirst Holds (Ok done) = (why : Illegal) → ¬ Holds why
IsFirst Holds (Err why) = Holds why × ((sooner : Illegal) → refusal_order sooner < refusal_order why → ¬ Holds sooner)

-- A move is legal: none of the eleven reasons speaks against it.
abbrev pub IsLegal : Board → Move → Type 0
IsLegal b move = (why : Illegal) → ¬ Refuses b move why

-- The outcome for a move: that it is legal, or the first reason that speaks against it.
abbrev pub IsLegalOutcome : Board → Move → Result (Unit {0}) Illegal → Type 0
IsLegalOutcome b move outcome = IsFirst (Refuses b move) outcome
