-- The whole text is read again.
use Rattle.std.proofs.Common.{◌≡◌, ◌<◌, ◌+◌, ◌^◌, ◌++◌, ℕ, Bool, true, List, [], ◌∷◌, length, drop, Option, Some, None, refl, sym, subst, ap, ap₂, ◌∙◌, arith, append_assoc, codes, IsUtf8}
use Rattle.std.specs.List.{AllByRecursion, take_while}
use Rattle.std.specs.Str.Lines.{lines}
use Rattle.std.proofs.lemmas.List.{append-nil}
use Rattle.std.proofs.lemmas.Str.{IsUtf8-append, IsUtf8-nil}
use Rattle.bit_boards.specs.declared.piece.Kind.{Kind}
use Rattle.bit_boards.specs.declared.piece.Piece.{Piece}
use Rattle.bit_boards.specs.declared.piece.Side.{Side}
use Rattle.bit_boards.specs.declared.piece.Side.TheVariants.{Black, White}
use Rattle.board_core.specs.declared.moves.Move.{Move}
use Rattle.board_core.specs.Board.{Board}
use Rattle.kif_text.specs.Lines.{goes_on, header_lines, utf8, without_mark}
use Rattle.kif_text.specs.Header.{Shows}
use Rattle.kif_text.specs.Reading.{Spells, header_of}
use Rattle.kif_record.specs.Diagram.{board_text, diagram_text, hand_text, line, row_text, rows_text, turn_text}
use Rattle.kif_record.specs.Moves.{moves_text, numbered as numbered_text}
use Rattle.kif_record.specs.Record.{ending_text, record_with}
use Rattle.kif_moves.specs.Lines.{Line, counted, move_lines, numbered}
use Rattle.kif_again.proofs.Hand.{HandAgain}
use Rattle.kif_again.proofs.Header.{black_line, files_line, frame_line, header, header_taken, moves_line, row_written, turn_lines, white_line}
use Rattle.kif_again.proofs.Lines.{lines_again, text-append, text_of}
use Rattle.kif_again.proofs.Moves.{EndAgain}
use Rattle.kif_again.proofs.Play.{Counts, IsWritten, counted_again, move_texts, moves_are}
use Rattle.kif_again.proofs.Shown.{header_shows}
use Rattle.kif_again.proofs.Written.{Written, is_plain, written-append, written_utf8}

-- 1. THE TEXT IN LINES.

pieces : (w f a r s t u v x y z n k e : List ℕ) → (w ++ (((f ++ a) ++ (r ++ (s ++ (t ++ (u ++ (v ++ (x ++ (y ++ (z ++ (n ++ [])))))))))) ++ a) ++ k) ++ e
    ≡ w ++ (f ++ (a ++ (r ++ (s ++ (t ++ (u ++ (v ++ (x ++ (y ++ (z ++ (n ++ (a ++ (k ++ e)))))))))))))
pieces w f a r s t u v x y z n k e = simp append_assoc refl

turn_is : (side : Side) → turn_text side ≡ text_of (turn_lines side)
turn_is Black = refl
turn_is White = sym (append-nil (line (utf8 "後手番")))

diagram_is : (b : Board) → diagram_text b ≡ text_of (header b.cells (hand_text b.white) (hand_text b.black) b.side)
unfolding diagram_text board_text rows_text
diagram_is b =
    rw (turn_is b.side)
    (pieces (line (white_line (hand_text b.white))) (line files_line) (line frame_line) (line (row_text b.cells 1)) (line (row_text b.cells 2)) (line (row_text b.cells 3))
    (line (row_text b.cells 4)) (line (row_text b.cells 5)) (line (row_text b.cells 6)) (line (row_text b.cells 7)) (line (row_text b.cells 8)) (line (row_text b.cells 9))
    (line (black_line (hand_text b.black))) (text_of (turn_lines b.side)))

-- All lines of a record.
abbrev pub head_of : Board → List (List ℕ)
head_of b = header b.cells (hand_text b.white) (hand_text b.black) b.side

abbrev pub end_of : List Move → Bool → List ℕ
end_of moves mated = numbered_text (length moves + 1) ++ ending_text mated

abbrev pub rest_of : Board → List Move → Bool → List (List ℕ)
rest_of b moves mated = move_texts 1 None b moves ++ end_of moves mated ∷ []

abbrev pub record_lines : Board → List Move → Bool → List (List ℕ)
record_lines b moves mated = head_of b ++ moves_line ∷ rest_of b moves mated

rest_is : (b : Board) (moves : List Move) (mated : Bool) → text_of (rest_of b moves mated) ≡ moves_text 1 None b moves ++ line (end_of moves mated)
rest_is b moves mated =
    text-append (move_texts 1 None b moves) (end_of moves mated ∷ []) ∙ ap₂ (λ (s t : List ℕ). s ++ t) (sym (moves_are 1 None b moves)) (append-nil (line (end_of moves mated)))

pub record_is : (b : Board) (moves : List Move) (mated : Bool) → record_with b moves mated ≡ text_of (record_lines b moves mated)
unfolding record_with
record_is b moves mated =
    ap (λ (d : List ℕ). d ++ line moves_line ++ moves_text 1 None b moves ++ line (end_of moves mated)) (diagram_is b)
    ∙ append_assoc (text_of (head_of b) ++ line moves_line) (moves_text 1 None b moves) (line (end_of moves mated))
    ∙ append_assoc (text_of (head_of b)) (line moves_line) (moves_text 1 None b moves ++ line (end_of moves mated))
    ∙ ap (λ (t : List ℕ). text_of (head_of b) ++ (line moves_line ++ t)) (sym (rest_is b moves mated))
    ∙ sym (text-append (head_of b) (moves_line ∷ rest_of b moves mated))

-- 2. EVERY LINE IS CHARACTERS.

all-append : (P : List ℕ → Type 0) (xs ys : List (List ℕ)) → AllByRecursion P xs → AllByRecursion P ys → AllByRecursion P (xs ++ ys)
all-append P [] ys a b = b
all-append P (x ∷ xs) ys a b = (a.0, all-append P xs ys a.1 b)

fixed_files : IsWritten files_line
unfolding lib.Utf8.encode
fixed_files = (codes "  ９ ８ ７ ６ ５ ４ ３ ２ １", record { is = refl; scalars = refl; plain = refl })

fixed_frame : IsWritten frame_line
unfolding lib.Utf8.encode
fixed_frame = (codes "+---------------------------+", record { is = refl; scalars = refl; plain = refl })

fixed_moves : IsWritten moves_line
unfolding lib.Utf8.encode
fixed_moves = (codes "手数----指手---------消費時間--", record { is = refl; scalars = refl; plain = refl })

hand_line : (words hand characters : List ℕ) → IsWritten words → Written hand characters → IsWritten (words ++ hand)
hand_line words hand characters w h = (_, written-append _ _ _ _ w.1 h)

white_words : IsWritten (utf8 "後手の持駒：")
unfolding lib.Utf8.encode
white_words = (codes "後手の持駒：", record { is = refl; scalars = refl; plain = refl })

black_words : IsWritten (utf8 "先手の持駒：")
unfolding lib.Utf8.encode
black_words = (codes "先手の持駒：", record { is = refl; scalars = refl; plain = refl })

turn_written : (side : Side) → AllByRecursion IsWritten (turn_lines side)
unfolding lib.Utf8.encode
turn_written Black = tt
turn_written White = ((codes "後手番", record { is = refl; scalars = refl; plain = refl }), tt)

head_written : (b : Board) → HandAgain (hand_text b.white) b.white → HandAgain (hand_text b.black) b.black → AllByRecursion IsWritten (head_of b)
head_written b w k = (
  hand_line _ _ _ white_words w.written,
  (
    fixed_files,
    (
      fixed_frame,
      (
        row_written b.cells 1 (omega arith) (omega arith),
        (
          row_written b.cells 2 (omega arith) (omega arith),
          (
            row_written b.cells 3 (omega arith) (omega arith),
            (
              row_written b.cells 4 (omega arith) (omega arith),
              (
                row_written b.cells 5 (omega arith) (omega arith),
                (
                  row_written b.cells 6 (omega arith) (omega arith),
                  (
                    row_written b.cells 7 (omega arith) (omega arith),
                    (
                      row_written b.cells 8 (omega arith) (omega arith),
                      (
                        row_written b.cells 9 (omega arith) (omega arith),
                        (fixed_frame, (hand_line _ _ _ black_words k.written, turn_written b.side)),
                      ),
                    ),
                  ),
                ),
              ),
            ),
          ),
        ),
      ),
    ),
  ),
)

plain_all : (texts : List (List ℕ)) → AllByRecursion IsWritten texts → AllByRecursion (λ text. is_plain text ≡ true) texts
plain_all [] all = tt
plain_all (text ∷ texts) all = (all.0.1.plain, plain_all texts all.1)

newline : IsUtf8 (10 ∷ [])
unfolding lib.Utf8.encode
newline = (10 ∷ [], (refl, refl))

text_utf8 : (texts : List (List ℕ)) → AllByRecursion IsWritten texts → IsUtf8 (text_of texts)
text_utf8 [] all = IsUtf8-nil
text_utf8 (text ∷ texts) all = IsUtf8-append _ _ (IsUtf8-append _ _ (written_utf8 text all.0.0 all.0.1) newline) (text_utf8 texts all.1)

-- 3. THE TEXT IS READ.

pub all_written : (b : Board) (moves : List Move) (mated : Bool) → HandAgain (hand_text b.white) b.white → HandAgain (hand_text b.black) b.black
    → AllByRecursion IsWritten (move_texts 1 None b moves) → EndAgain (end_of moves mated) → AllByRecursion IsWritten (record_lines b moves mated)
all_written b moves mated w k all last =
    all-append IsWritten (head_of b) (moves_line ∷ rest_of b moves mated) (head_written b w k)
    (fixed_moves, all-append IsWritten (move_texts 1 None b moves) (end_of moves mated ∷ []) all ((last.characters, last.written), tt))

unmarked : (b : Board) (moves : List Move) (mated : Bool) → without_mark (text_of (record_lines b moves mated)) ≡ text_of (record_lines b moves mated)
unfolding lib.Utf8.encode
unmarked b moves mated = refl

lines_are : (b : Board) (moves : List Move) (mated : Bool) → AllByRecursion IsWritten (record_lines b moves mated)
    → lines (without_mark (text_of (record_lines b moves mated))) ≡ record_lines b moves mated
lines_are b moves mated all = ap lines (unmarked b moves mated) ∙ lines_again (record_lines b moves mated) (plain_all (record_lines b moves mated) all)

header_is : (b : Board) (moves : List Move) (mated : Bool) → AllByRecursion IsWritten (record_lines b moves mated) → header_of (text_of (record_lines b moves mated)) ≡ head_of b
unfolding header_lines
header_is b moves mated all =
    ap (take_while goes_on) (lines_are b moves mated all) ∙ header_taken b.cells (hand_text b.white) (hand_text b.black) b.side (rest_of b moves mated)

behind_head : (cells : List (Option Piece)) (white black : List ℕ) (side : Side) (rest : List (List ℕ))
    → drop (length (header cells white black side) + 1) (header cells white black side ++ moves_line ∷ rest) ≡ rest
behind_head cells white black Black rest = refl
behind_head cells white black White rest = refl

pub move_lines_are : (b : Board) (moves : List Move) (mated : Bool) → AllByRecursion IsWritten (record_lines b moves mated) → AllByRecursion Counts (move_texts 1 None b moves)
    → EndAgain (end_of moves mated) → move_lines (text_of (record_lines b moves mated)) ≡ numbered (length (head_of b) + 2) (move_texts 1 None b moves)
move_lines_are b moves mated all count last =
    let head = header_is b moves mated all in
    ap (λ (h : List (List ℕ)). counted (numbered (length h + 2) (drop (length h + 1) (lines (without_mark (text_of (record_lines b moves mated))))))) head
    ∙ ap (λ (ls : List (List ℕ)). counted (numbered (length (head_of b) + 2) (drop (length (head_of b) + 1) ls))) (lines_are b moves mated all)
    ∙ ap (λ (ls : List (List ℕ)). counted (numbered (length (head_of b) + 2) ls)) (behind_head b.cells (hand_text b.white) (hand_text b.black) b.side (rest_of b moves mated))
    ∙ counted_again (length (head_of b) + 2) (move_texts 1 None b moves) (end_of moves mated) count last

pub spelled : (b : Board) (moves : List Move) (mated : Bool) → length b.cells ≡ 81 → HandAgain (hand_text b.white) b.white → HandAgain (hand_text b.black) b.black
    → AllByRecursion IsWritten (record_lines b moves mated) → Spells (text_of (record_lines b moves mated)) b
spelled b moves mated size w k all = record {
  utf8 = text_utf8 (record_lines b moves mated) all;
  shows = subst (λ (h : List (List ℕ)). Shows h b) (sym (header_is b moves mated all)) (header_shows b (hand_text b.white) (hand_text b.black) size w k);
}
