-- Each written text has bytes, and is one line of bytes from the space on.
use Rattle.std.proofs.Common.{◌≤◌, ◌<◌, ℕ, List, [], ◌∷◌, ◌++◌, length, arith}
use Rattle.std.specs.List.{AllByRecursion}
use Rattle.std.proofs.lemmas.List.{length-append}
use Rattle.bit_boards.specs.declared.piece.Side.{Side}
use Rattle.bit_boards.specs.declared.piece.Side.TheVariants.{Black, White}
use Rattle.board_core.specs.Board.{Board}
use Rattle.board_core.specs.Kept.{IsKept}
use Rattle.sfen_text.specs.Spelling.{sfen_of, board_text, side_letter, hand_text, hands_text, or_dash}
use Rattle.sfen_text.proofs.BytesAgain.{ArePlain, both_plain, board_plain, board_long, hand_plain}
use Rattle.sfen_text.proofs.TextAgain.{small_black, small_white}

-- The bytes may stand on a line: each is a space or comes after it.
abbrev AreOnLine : List ℕ → Type 0
AreOnLine bytes = AllByRecursion (λ byte. 32 ≤ byte) bytes

both_on_line : (xs ys : List ℕ) → AreOnLine xs → AreOnLine ys → AreOnLine (xs ++ ys)
both_on_line [] ys p q = q
both_on_line (x ∷ xs) ys p q = (p.0, both_on_line xs ys p.1 q)

plain_on_line : (xs : List ℕ) → ArePlain xs → AreOnLine xs
plain_on_line [] p = tt
plain_on_line (x ∷ xs) p = (omega (arith, p.0.above), plain_on_line xs p.1)

dash_on_line : (xs : List ℕ) → ArePlain xs → AreOnLine (or_dash xs)
dash_on_line [] p = (omega arith, tt)
dash_on_line (x ∷ xs) p = plain_on_line (x ∷ xs) p

side_on_line : (side : Side) → 32 ≤ side_letter side
side_on_line Black = omega arith
side_on_line White = omega arith

pub text_on_line : (b : Board) → IsKept b → AllByRecursion (λ byte. 32 ≤ byte) (sfen_of b)
unfolding sfen_of
text_on_line b kept =
    let hands = dash_on_line (hand_text Black b.black ++ hand_text White b.white) (both_plain (hand_text Black b.black) (hand_text White b.white) (hand_plain Black b.black (small_black b kept)) (hand_plain White b.white (small_white b kept))) in
    both_on_line (board_text b.cells) (32 ∷ side_letter b.side ∷ 32 ∷ hands_text b.black b.white) (plain_on_line (board_text b.cells) (board_plain b.cells)) (omega arith, (side_on_line b.side, (omega arith, hands)))

pub text_long : (b : Board) → 0 < length (sfen_of b)
unfolding sfen_of
text_long b = omega (arith, board_long b.cells, length-append (board_text b.cells) (32 ∷ side_letter b.side ∷ 32 ∷ hands_text b.black b.white))
