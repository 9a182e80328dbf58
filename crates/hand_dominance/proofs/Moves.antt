-- One board with two pairs of hands: which moves are legal on both, and where they lead.
use Rattle.std.proofs.Common.{◌≡◌, ◌<◌, ℕ, zero, suc, List, Option, Some, None, Bool, arith, ap, sym, refl, ◌∙◌}
use Rattle.bit_boards.specs.declared.piece.Kind.{Kind}
use Rattle.bit_boards.specs.declared.piece.Piece.{Piece}
use Rattle.bit_boards.specs.declared.piece.Side.{Side}
use Rattle.bit_boards.specs.declared.piece.Side.TheVariants.{Black, White}
use Rattle.bit_boards.specs.Kind.{other, place_of}
use Rattle.board_core.specs.declared.moves.Move.{Move}
use Rattle.board_core.specs.declared.moves.Move.TheVariants as moves
use Rattle.board_core.specs.Board.{Board, piece_at, hand_count, hand_of, by_side, with_less}
use Rattle.shogi_rules.specs.declared.illegal.Illegal.{Illegal}
use Rattle.shogi_rules.specs.declared.illegal.Illegal.TheVariants.{NotThere, OwnPiece, NoStep, Blocked, BadPromotion, Occupied, NotInHand, DeadDrop, TwoPawns, KingLeft, PawnMate}
use Rattle.shogi_rules.specs.Rules.{after, after_drop, hand_with_capture, RefusesBoard, RefusesDrop, BoardMove, IsPawnMate, IsLegal}
use Rattle.hand_dominance.proofs.Hands.{less_by, more_by, Fits, less_up, fits_up, more_up, less_down, fits_down, more_down}

-- 1. THE SAME BOARD.

-- the board with these hands
abbrev pub handed : Board → List ℕ → List ℕ → Board
handed b black white = record { cells = b.cells; black = black; white = white; side = b.side }

-- a board is what it has
pub same_board : (b c : Board) → b.cells ≡ c.cells → b.side ≡ c.side → c ≡ handed b c.black c.white
same_board b c cells side =
    ap (λ (its_cells : List (Option Piece)). record { cells = its_cells; black = c.black; white = c.white; side = c.side }) (sym cells)
    ∙ ap (λ (its_side : Side). record { cells = b.cells; black = c.black; white = c.white; side = its_side }) (sym side)

-- 2. WHAT SPEAKS AGAINST A MOVE.

-- of a move on the board the hands are no matter
board_as : (b : Board) (black white : List ℕ) (from to : ℕ) (promote : Bool) (why : Illegal) → RefusesBoard b from to promote why
    → RefusesBoard (handed b black white) from to promote why
board_as b black white from to promote NotThere r = r
board_as b black white from to promote OwnPiece r = r
board_as b black white from to promote NoStep r = r
board_as b black white from to promote Blocked r = r
board_as b black white from to promote BadPromotion r = r
board_as b black white from to promote Occupied r = r
board_as b black white from to promote NotInHand r = r
board_as b black white from to promote DeadDrop r = r
board_as b black white from to promote TwoPawns r = r
board_as b black white from to promote KingLeft r = r
board_as b black white from to promote PawnMate r = r

goes_as : (b : Board) (black white : List ℕ) → BoardMove (handed b black white) → BoardMove b
goes_as b black white m = record {
  from = m.from;
  to = m.to;
  promote = m.promote;
  from_on_board = m.from_on_board;
  to_on_board = m.to_on_board;
  stands = λ why r. m.stands why (board_as b black white m.from m.to m.promote why r);
}

-- nor are they for the mate by a dropped pawn
pawn_as : (b : Board) (black white : List ℕ) (dropped : Kind) (to : ℕ) → IsPawnMate b dropped to → IsPawnMate (handed b black white) dropped to
pawn_as b black white dropped to m = record {
  pawn = m.pawn;
  check = m.check;
  no_move = λ go. m.no_move (goes_as (after_drop b dropped to) (after_drop (handed b black white) dropped to).black (after_drop (handed b black white) dropped to).white go);
}

-- of a drop they are where the piece isn't in hand
drop_as : (b : Board) (black white : List ℕ) (dropped : Kind) (to : ℕ) (why : Illegal)
    → (hand_count (hand_of b b.side) dropped ≡ 0 → hand_count (by_side b.side black white) dropped ≡ 0)
    → RefusesDrop b dropped to why → RefusesDrop (handed b black white) dropped to why
drop_as b black white dropped to NotThere none r = r
drop_as b black white dropped to OwnPiece none r = r
drop_as b black white dropped to NoStep none r = r
drop_as b black white dropped to Blocked none r = r
drop_as b black white dropped to BadPromotion none r = r
drop_as b black white dropped to Occupied none r = r
drop_as b black white dropped to NotInHand none r = none r
drop_as b black white dropped to DeadDrop none r = r
drop_as b black white dropped to TwoPawns none r = r
drop_as b black white dropped to KingLeft none r = r
drop_as b black white dropped to PawnMate none r = pawn_as b black white dropped to r

-- a move that is legal with these hands is legal with others, where no kind is out of hand that
-- these have
pub legal_as : (b : Board) (black white : List ℕ) (move : Move)
    → ((dropped : Kind) → hand_count (hand_of b b.side) dropped ≡ 0 → hand_count (by_side b.side black white) dropped ≡ 0)
    → IsLegal (handed b black white) move → IsLegal b move
legal_as b black white (moves.Board from to promote) none legal why r = legal why (board_as b black white from.number to.number promote why r)
legal_as b black white (moves.Drop dropped to) none legal why r = legal why (drop_as b black white dropped to.number why (none dropped) r)

-- 3. WHERE A MOVE LEADS.

-- what a move does to the mover's hand
abbrev pub hand_by : List (Option Piece) → Move → List ℕ → List ℕ
hand_by cells (moves.Board from to promote) hand = hand_with_capture (piece_at cells to.number) hand
hand_by cells (moves.Drop dropped to) hand = with_less hand dropped

-- what a side has in hand after a move of this mover
abbrev hand_then : Side → Side → (List ℕ → List ℕ) → List ℕ → List ℕ → List ℕ
hand_then side mover does black white = by_side side (by_side mover (does (by_side mover black white)) black) (by_side mover white (does (by_side mover black white)))

own_then : (mover : Side) (does : List ℕ → List ℕ) (black white : List ℕ) → hand_then mover mover does black white ≡ does (by_side mover black white)
own_then Black does black white = refl
own_then White does black white = refl

others_then : (mover : Side) (does : List ℕ → List ℕ) (black white : List ℕ) → hand_then (other mover) mover does black white ≡ by_side (other mover) black white
others_then Black does black white = refl
others_then White does black white = refl

kept_then : (mover : Side) (does : List ℕ → List ℕ) (black white : List ℕ) → hand_then mover (other mover) does black white ≡ by_side mover black white
kept_then Black does black white = refl
kept_then White does black white = refl

hand_after : (b : Board) (move : Move) (side : Side) → hand_of (after b move) side ≡ hand_then side b.side (hand_by b.cells move) b.black b.white
hand_after b (moves.Board from to promote) side = refl
hand_after b (moves.Drop dropped to) side = refl

-- the mover's hand, and the other's
pub own_after : (b : Board) (move : Move) (side : Side) → b.side ≡ side → hand_of (after b move) side ≡ hand_by b.cells move (hand_of b side)
own_after b move side turn =
    hand_after b move side
    ∙ (ap (λ (mover : Side). hand_then side mover (hand_by b.cells move) b.black b.white) turn ∙ own_then side (hand_by b.cells move) b.black b.white)

pub its_after : (b : Board) (move : Move) (side : Side) → b.side ≡ side → hand_of (after b move) (other side) ≡ hand_of b (other side)
its_after b move side turn =
    hand_after b move (other side)
    ∙ (ap (λ (mover : Side). hand_then (other side) mover (hand_by b.cells move) b.black b.white) turn ∙ others_then side (hand_by b.cells move) b.black b.white)

pub kept_after : (b : Board) (move : Move) (side : Side) → b.side ≡ other side → hand_of (after b move) side ≡ hand_of b side
kept_after b move side turn =
    hand_after b move side
    ∙ (ap (λ (mover : Side). hand_then side mover (hand_by b.cells move) b.black b.white) turn ∙ kept_then side (hand_by b.cells move) b.black b.white)

-- the board after a move is the same, with whatever hands
pub after_handed : (b : Board) (black white : List ℕ) (move : Move)
    → after (handed b black white) move ≡ handed (after b move) (after (handed b black white) move).black (after (handed b black white) move).white
after_handed b black white (moves.Board from to promote) = refl
after_handed b black white (moves.Drop dropped to) = refl

-- 4. SO MANY LESS, OR MORE, OF EACH KIND.

-- what a dropped piece wants
abbrev pub Could : Move → List ℕ → Type 0
Could (moves.Board from to promote) hand = Unit {0}
Could (moves.Drop dropped to) hand = 0 < hand_count hand dropped

pub could : (b : Board) (move : Move) → IsLegal b move → Could move (hand_of b b.side)
could b (moves.Board from to promote) legal = record {}
could b (moves.Drop dropped to) legal = some (hand_count (hand_of b b.side) dropped) (λ none. legal NotInHand none)
  where
    some : (n : ℕ) → (n ≡ 0 → ⊥) → 0 < n
    some zero f = absurd (f refl)
    some (suc n) f = omega arith

capture_less : (cell : Option Piece) (hand by : List ℕ) → Fits by hand → hand_with_capture cell (less_by hand by) ≡ less_by (hand_with_capture cell hand) by
capture_less None hand by f = refl
capture_less (Some piece) hand by f = less_up hand by (place_of piece.kind) f

capture_fits : (cell : Option Piece) (hand by : List ℕ) → Fits by hand → Fits by (hand_with_capture cell hand)
capture_fits None hand by f = f
capture_fits (Some piece) hand by f = fits_up hand by (place_of piece.kind) f

capture_more : (cell : Option Piece) (hand by : List ℕ) → hand_with_capture cell (more_by hand by) ≡ more_by (hand_with_capture cell hand) by
capture_more None hand by = refl
capture_more (Some piece) hand by = more_up hand by (place_of piece.kind)

pub hand_less : (cells : List (Option Piece)) (move : Move) (hand by : List ℕ) → Fits by hand → Could move (less_by hand by)
    → hand_by cells move (less_by hand by) ≡ less_by (hand_by cells move hand) by
hand_less cells (moves.Board from to promote) hand by f can = capture_less (piece_at cells to.number) hand by f
hand_less cells (moves.Drop dropped to) hand by f can = less_down hand by (place_of dropped) f can

pub hand_fits : (cells : List (Option Piece)) (move : Move) (hand by : List ℕ) → Fits by hand → Could move (less_by hand by) → Fits by (hand_by cells move hand)
hand_fits cells (moves.Board from to promote) hand by f can = capture_fits (piece_at cells to.number) hand by f
hand_fits cells (moves.Drop dropped to) hand by f can = fits_down hand by (place_of dropped) f can

pub hand_more : (cells : List (Option Piece)) (move : Move) (hand by : List ℕ) → Could move hand → hand_by cells move (more_by hand by) ≡ more_by (hand_by cells move hand) by
hand_more cells (moves.Board from to promote) hand by can = capture_more (piece_at cells to.number) hand by
hand_more cells (moves.Drop dropped to) hand by can = more_down hand by (place_of dropped) can
