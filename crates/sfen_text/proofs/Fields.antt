-- Fields one after the other.
use Rattle.std.proofs.Common.{◌≡◌, ℕ, List, Option, Ok, Err, refl}
use Rattle.bit_boards.specs.declared.piece.Piece.{Piece}
use Rattle.bit_boards.specs.declared.piece.Side.{Side}
use Rattle.sfen_text.specs.declared.fault.TextFault.{TextFault}
use Rattle.sfen_text.specs.Hands.{hands_of}
use Rattle.sfen_text.specs.Reading.{field_of, next_of, cells_at, side_at, end_outcome, fields_at}
use Rattle.sfen_text.specs.Fields.{Field}

pub bad_cells : (at : ℕ) (text : List ℕ) (board : Field) (fault : TextFault) → board ≡ field_of at text → cells_at board.at board.text ≡ Err fault → fields_at at text ≡ Err fault
unfolding fields_at
bad_cells at text board fault one e = rw (← one, e) refl

pub bad_side : (at : ℕ) (text : List ℕ) (board turn : Field) (cells : List (Option Piece)) (fault : TextFault)
    → board ≡ field_of at text → cells_at board.at board.text ≡ Ok cells → turn ≡ next_of board → side_at turn.at turn.text ≡ Err fault → fields_at at text ≡ Err fault
unfolding fields_at
bad_side at text board turn cells fault one c two e = rw (← one, c, ← two, e) refl

pub bad_hands : (at : ℕ) (text : List ℕ) (board turn hands_field : Field) (cells : List (Option Piece)) (side : Side) (fault : TextFault)
    → board ≡ field_of at text → cells_at board.at board.text ≡ Ok cells → turn ≡ next_of board → side_at turn.at turn.text ≡ Ok side
    → hands_field ≡ next_of turn → hands_of hands_field.at hands_field.text ≡ Err fault → fields_at at text ≡ Err fault
unfolding fields_at
bad_hands at text board turn hands_field cells side fault one c two s three e = rw (← one, c, ← two, s, ← three, e) refl

pub bad_end : (at : ℕ) (text : List ℕ) (board turn hands_field last : Field) (cells : List (Option Piece)) (side : Side) (hands : List ℕ × List ℕ) (fault : TextFault)
    → board ≡ field_of at text → cells_at board.at board.text ≡ Ok cells → turn ≡ next_of board → side_at turn.at turn.text ≡ Ok side
    → hands_field ≡ next_of turn → hands_of hands_field.at hands_field.text ≡ Ok hands → last ≡ next_of hands_field → end_outcome last ≡ Err fault → fields_at at text ≡ Err fault
unfolding fields_at
bad_end at text board turn hands_field last cells side hands fault one c two s three h four e = rw (← one, c, ← two, s, ← three, h, ← four, e) refl

pub all_good : (at : ℕ) (text : List ℕ) (board turn hands_field last : Field) (cells : List (Option Piece)) (side : Side) (hands : List ℕ × List ℕ)
    → board ≡ field_of at text → cells_at board.at board.text ≡ Ok cells → turn ≡ next_of board → side_at turn.at turn.text ≡ Ok side
    → hands_field ≡ next_of turn → hands_of hands_field.at hands_field.text ≡ Ok hands → last ≡ next_of hands_field → end_outcome last ≡ Ok last
    → fields_at at text ≡ Ok (record { cells = cells; black = hands.0; white = hands.1; side = side })
unfolding fields_at
all_good at text board turn hands_field last cells side hands one c two s three h four e = rw (← one, c, ← two, s, ← three, h, ← four, e) refl
