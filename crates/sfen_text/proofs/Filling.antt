-- Signs fill the squares in order.
use Rattle.std.proofs.Common.{◌≡◌, ◌⊎◌, inl, inr, ℕ, zero, suc, ◌+◌, ◌-◌, ◌*◌, ◌<◌, ◌≤◌, true, List, [], ◌∷◌, ◌++◌, length, take, drop, get_or, set, Option, Some, None, Result, Ok, Err, refl, sym, ap, ◌∙◌, append_assoc, arith}
use Rattle.std.specs.Prelude.{replicate, nat_le, nat_lt, map}
use Rattle.std.proofs.lemmas.Bool.{le-ltb, lt-ltb}
use Rattle.std.proofs.lemmas.Bool.Decides.{eqb_tells, leb_tells}
use Rattle.std.proofs.lemmas.List.{append-nil, take_all, take_more, take_more_set, get_or-set_same, get_or-set_other, get_or_past, length-set}
use Rattle.bit_boards.specs.declared.piece.Kind.{Kind}
use Rattle.bit_boards.specs.declared.piece.Kind.TheVariants.{Pawn, Lance, Knight, Silver, Gold, Bishop, Rook, King}
use Rattle.bit_boards.specs.declared.piece.Side.{Side}
use Rattle.bit_boards.specs.declared.piece.Piece.{Piece}
use Rattle.bit_boards.specs.Kind.{can_promote}
use Rattle.board_core.specs.Board.{piece_at}
use Rattle.sfen_text.specs.declared.fault.TextFault.{TextFault}
use Rattle.sfen_text.specs.declared.squares.Filling.{Filling}
use Rattle.sfen_text.specs.declared.squares.Sign.TheVariants.{Run, Stands}
use Rattle.sfen_text.specs.Pieces.{promoted_of, promoted_piece}
use Rattle.sfen_text.specs.Signs.{plain_sign, sign_of_piece, Signs, sign, signs, in_front, squares, IsFilling, filled_squares, read_count, reading_place, cells_of, square_read, in_order}
use Rattle.std.proofs.lemmas.Bool.Decides.{nat_tests}
use Rattle.std.proofs.lemmas.List.{ext_get_or}
use Rattle.std.proofs.lemmas.List.FromFn.{length-map-range_with_len, get_or-map-range_with_len}
use Rattle.std.specs.List.{range_with_len}
use Rattle.board_laws.proofs.Pieces.{promotes_same}
use Rattle.board_laws.proofs.Cells.{none_everywhere, piece_at_is}

pub promoted_is : (side : Side) (kind : Kind) (h : true ≡ true → can_promote kind ≡ true) → can_promote kind ≡ true
    → Some (record { kind = kind; promoted = true; side = side; promotes = h }) ≡ promoted_piece side kind
promoted_is side Pawn h can = λ i. Some (record { kind = Pawn; promoted = true; side = side; promotes = promotes_same Pawn h (λ _. refl) i })
promoted_is side Lance h can = λ i. Some (record { kind = Lance; promoted = true; side = side; promotes = promotes_same Lance h (λ _. refl) i })
promoted_is side Knight h can = λ i. Some (record { kind = Knight; promoted = true; side = side; promotes = promotes_same Knight h (λ _. refl) i })
promoted_is side Silver h can = λ i. Some (record { kind = Silver; promoted = true; side = side; promotes = promotes_same Silver h (λ _. refl) i })
promoted_is side Gold h can = absurd cc
promoted_is side Bishop h can = λ i. Some (record { kind = Bishop; promoted = true; side = side; promotes = promotes_same Bishop h (λ _. refl) i })
promoted_is side Rook h can = λ i. Some (record { kind = Rook; promoted = true; side = side; promotes = promotes_same Rook h (λ _. refl) i })
promoted_is side King h can = absurd cc

-- ---- signs

-- Only a plus with a byte behind it is read together with that byte.
pub signs_one : (at byte : ℕ) (text : List ℕ) → (length text ≡ 0) ⊎ (byte ≡ 43 → ⊥) → signs at (byte ∷ text) ≡ sign at (plain_sign byte) (signs (at + 1) text)
unfolding signs
signs_one at byte [] h = refl
signs_one at byte (next ∷ text) (inl h) = absurd (omega (arith, h))
signs_one at byte (next ∷ text) (inr h) = elim (eqb_tells byte 43) [ inl t ↦ absurd (h t.1) | inr f ↦ rw f.0 refl ]

pub signs_first : (text : List ℕ) → 0 < length text → (length text < 2) ⊎ (get_or text 0 0 ≡ 43 → ⊥) → (at : ℕ) → signs at text ≡ sign at (plain_sign (get_or text 0 0)) (signs (at + 1) (drop 1 text))
signs_first [] lt h at = absurd (omega arith)
signs_first (byte ∷ text) lt (inl h) at = signs_one at byte text (inl (omega arith))
signs_first (byte ∷ text) lt (inr h) at = signs_one at byte text (inr h)

pub signs_promoted : (text : List ℕ) → 2 ≤ length text → get_or text 0 0 ≡ 43 → (at : ℕ) → signs at text ≡ sign at (sign_of_piece (promoted_of (get_or text 1 0))) (signs (at + 2) (drop 2 text))
unfolding signs
signs_promoted [] lt h at = absurd (omega arith)
signs_promoted (byte ∷ []) lt h at = absurd (omega arith)
signs_promoted (byte ∷ next ∷ text) lt h at = rw h refl

-- ---- squares

pub in_front_twice : (front more : List (Option Piece)) (read : Result (List (Option Piece)) TextFault) → in_front front (in_front more read) ≡ in_front (front ++ more) read
in_front_twice front more (Ok read) = ap (λ (xs : List (Option Piece)). Ok xs) (sym (append_assoc front more read))
in_front_twice front more (Err fault) = refl

pub take_none : (n c : ℕ) (read : List (Option Piece)) → c + n ≤ length read → ((place : ℕ) → c ≤ place → piece_at read place ≡ None) → take (c + n) read ≡ take c read ++ replicate n None
take_none zero c read le ahead = let e : c + 0 ≡ c = omega arith in rw e (sym (append-nil (take c read)))
take_none (suc n) c read le ahead =
    let e : c + suc n ≡ (c + 1) + n = omega arith in
    let again = take_none n (c + 1) read (omega arith) (λ place h. ahead place (omega arith)) in
    let one = take_more read c None (omega arith) in
    let here : get_or read c None ≡ None = sym (piece_at_is read c) ∙ ahead c (omega arith) in
    rw (e, again, one, here) (append_assoc (take c read) (None ∷ []) (replicate n None))

pub le_passes : (a b : ℕ) → a ≤ b → nat_le a b ≡ true
le_passes a b le = let e = le-ltb b a le in grind (arith, nat_tests)

pub in_front_none : (read : Result (List (Option Piece)) TextFault) → in_front [] read ≡ read
in_front_none (Ok read) = refl
in_front_none (Err fault) = refl

pub all_cells : (cells read : List (Option Piece)) → length cells ≡ 81 → ((k : ℕ) → k < 81 → get_or cells k None ≡ piece_at read (reading_place k)) → cells ≡ cells_of read
unfolding cells_of
all_cells cells read size each = ext_get_or None cells (map (λ square. piece_at read (reading_place square)) (range_with_len 0 81)) (size ∙ sym (length-map-range_with_len (λ square. piece_at read (reading_place square)) 0 81))
    (λ i lt. each i (omega arith) ∙ sym (get_or-map-range_with_len (λ square. piece_at read (reading_place square)) 0 81 i i None (omega arith) (omega arith)))

-- ---- the order of reading

-- what stands at a place of that order
in_order_at : (cells : List (Option Piece)) (place : ℕ) → place < 81 → get_or (in_order cells) place None ≡ piece_at cells (square_read place)
unfolding in_order
in_order_at cells place lt = get_or-map-range_with_len (λ p. piece_at cells (square_read p)) 0 81 place place None (omega arith) (omega arith)

pub in_order_size : (cells : List (Option Piece)) → length (in_order cells) ≡ 81
unfolding in_order
in_order_size cells = length-map-range_with_len (λ p. piece_at cells (square_read p)) 0 81

-- no two places are of one square
square_once : (i j : ℕ) → i < 81 → j < 81 → square_read i ≡ square_read j → i ≡ j
square_once i j li lj e = omega arith

-- a piece that is put on a square stands at its place
in_order_set : (cells : List (Option Piece)) (place : ℕ) (cell : Option Piece) → length cells ≡ 81 → place < 81
    → in_order (set cells (square_read place) cell) ≡ set (in_order cells) place cell
in_order_set cells place cell size lt =
    let more = set cells (square_read place) cell in
    let long = in_order_size cells in
    ext_get_or None (in_order more) (set (in_order cells) place cell) (in_order_size more ∙ sym (length-set (in_order cells) place cell ∙ long))
    (λ i here.
    let within : i < 81 = omega (arith, here, in_order_size more) in
    in_order_at more i within ∙ piece_at_is more (square_read i)
    ∙ elim (eqb_tells i place) [
      | inl t ↦ ap (λ k. get_or more (square_read k) None) t.1
          ∙ get_or-set_same cells (square_read place) cell None (omega (arith, size))
          ∙ sym (ap (λ k. get_or (set (in_order cells) place cell) k None) t.1 ∙ get_or-set_same (in_order cells) place cell None (omega (arith, long)))
      | inr f ↦ get_or-set_other cells (square_read place) (square_read i) cell None (λ e. f.1 (square_once i place within lt e))
          ∙ sym (piece_at_is cells (square_read i)) ∙ sym (in_order_at cells i within)
          ∙ sym (get_or-set_other (in_order cells) place i cell None f.1)
    ])

none_in_order : (place : ℕ) → get_or (in_order (replicate 81 None)) place None ≡ None
none_in_order place = elim (leb_tells 81 place) [
  | inl far ↦ get_or_past (in_order (replicate 81 None)) place None (omega (arith, far.1, in_order_size (replicate 81 None)))
  | inr near ↦ in_order_at (replicate 81 None) place near.1 ∙ none_everywhere 81 (square_read place)
]

-- the cells are those that are read in that order
pub cells_read : (cells : List (Option Piece)) → length cells ≡ 81 → cells_of (in_order cells) ≡ cells
cells_read cells size = sym (all_cells cells (in_order cells) size (λ k lt.
    let back : square_read (reading_place k) ≡ k = omega arith in
    sym (piece_at_is (in_order cells) (reading_place k) ∙ in_order_at cells (reading_place k) (omega arith) ∙ ap (piece_at cells) back ∙ piece_at_is cells k)))

pub nothing_filled : IsFilling (record { cells = replicate 81 None; further_rows = 8; left = 9 })
nothing_filled = record {
  size = refl;
  further_rows = omega arith;
  left = omega arith;
  ahead = λ place _. piece_at_is (in_order (replicate 81 None)) place ∙ none_in_order place;
}

pub run_taken : (f : Filling) (count at : ℕ) → IsFilling f → count ≤ f.left
    → IsFilling (record f { left = f.left - count })
    × ((end : ℕ) (rest : Signs) → in_front (filled_squares f) (squares end f.further_rows f.left (sign at (Run count) rest)) ≡ in_front (filled_squares (record f { left = f.left - count })) (squares end f.further_rows (f.left - count) rest))
unfolding squares
run_taken f count at is le =
    let size = is.size in
    let further_rows = is.further_rows in
    let left = is.left in
    let more : 81 - 9 * f.further_rows - (f.left - count) ≡ read_count f + count = omega arith in
    let fits : nat_le count f.left ≡ true = le_passes count f.left le in
    let text : take (81 - 9 * f.further_rows - (f.left - count)) (in_order f.cells) ≡ filled_squares f ++ replicate count None = rw more (take_none count (read_count f) (in_order f.cells) (omega (arith, in_order_size f.cells)) is.ahead) in (
      record { size = size; further_rows = further_rows; left = omega arith; ahead = λ place h. is.ahead place (omega arith) },
      λ end rest. rw (fits, text) (in_front_twice (filled_squares f) (replicate count None) (squares end f.further_rows (f.left - count) rest)),
    )

pub piece_taken : (f : Filling) (piece : Piece) (at : ℕ) → IsFilling f → 0 < f.left
    → IsFilling (record { cells = set f.cells (9 * (f.left - 1) + (8 - f.further_rows)) (Some piece); further_rows = f.further_rows; left = f.left - 1 })
    × ((end : ℕ) (rest : Signs) → in_front (filled_squares f) (squares end f.further_rows f.left (sign at (Stands piece) rest)) ≡ in_front (filled_squares (record { cells = set f.cells (9 * (f.left - 1) + (8 - f.further_rows)) (Some piece); further_rows = f.further_rows; left = f.left - 1 })) (squares end f.further_rows (f.left - 1) rest))
unfolding squares
piece_taken f piece at is lt =
    let size = is.size in
    let further_rows = is.further_rows in
    let left = is.left in
    let read = in_order f.cells in
    let long = in_order_size f.cells in
    let here = 81 - 9 * f.further_rows - f.left in
    let square : square_read here ≡ 9 * (f.left - 1) + (8 - f.further_rows) = omega arith in
    let put : in_order (set f.cells (9 * (f.left - 1) + (8 - f.further_rows)) (Some piece)) ≡ set read here (Some piece) =
    ap (λ k. in_order (set f.cells k (Some piece))) (sym square) ∙ in_order_set f.cells here (Some piece) size (omega arith) in
    let more : 81 - 9 * f.further_rows - (f.left - 1) ≡ here + 1 = omega arith in
    let fits : nat_lt 0 f.left ≡ true = lt-ltb 0 f.left lt in
    let text : take (81 - 9 * f.further_rows - (f.left - 1)) (in_order (set f.cells (9 * (f.left - 1) + (8 - f.further_rows)) (Some piece))) ≡ filled_squares f ++ Some piece ∷ [] =
    rw (put, more) (take_more_set read here (Some piece) (omega (arith, long))) in (
      record {
        size = length-set f.cells (9 * (f.left - 1) + (8 - f.further_rows)) (Some piece) ∙ size;
        further_rows = further_rows;
        left = omega arith;
        ahead = λ place h. ap (λ (cells : List (Option Piece)). piece_at cells place) put ∙ piece_at_is (set read here (Some piece)) place ∙ (let apart : place ≡ here → ⊥ = λ e. omega arith in get_or-set_other read here place (Some piece) None apart) ∙ sym (piece_at_is read place) ∙ is.ahead place (omega arith);
      },
      λ end rest. rw (fits, text) (in_front_twice (filled_squares f) (Some piece ∷ []) (squares end f.further_rows (f.left - 1) rest)),
    )

pub all_read : (f : Filling) (end at : ℕ) (text : List ℕ) → length text ≡ 0 → f.further_rows ≡ 0 → f.left ≡ 0 → in_front (filled_squares f) (squares end f.further_rows f.left (signs at text)) ≡ Ok (in_order f.cells)
unfolding squares signs
all_read f end at [] nothing rows left =
    rw (rows, left) (ap (λ (read : List (Option Piece)). Ok read) (append-nil (take 81 (in_order f.cells)) ∙ take_all 81 (in_order f.cells) (omega (arith, in_order_size f.cells))))
all_read f end at (byte ∷ text) nothing rows left = absurd (omega (arith, nothing))
