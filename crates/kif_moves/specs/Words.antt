-- What the word of a line says that stands behind the line's number: which move it names. A word is
-- given by its characters, with all that stands behind it in the line.
use Rattle.std.specs.Prelude.{◌≡◌, ◌==◌, ◌&&◌, ◌||◌, ℕ, List, [], ◌∷◌, Bool, true, false, not, Option, Some, None, if◌then◌else◌, option_map, option_and_then}
use Rattle.std.specs.Char.{is_ascii_digit}
use Rattle.bit_boards.specs.declared.piece.Kind.TheVariants.{Lance, Knight, Silver, King}
use Rattle.bit_boards.specs.declared.piece.Side.TheVariants.{Black}
use Rattle.bit_boards.specs.declared.piece.Piece.{Piece}
use Rattle.bit_boards.specs.Kind.{same_kind}
use Rattle.board_core.specs.declared.moves.Move.{Move}
use Rattle.board_core.specs.declared.moves.Move.TheVariants as moves
use Rattle.sfen_text.specs.Pieces.{promoted_piece}
use Rattle.kif_text.specs.Characters.{is, piece_of}
use Rattle.kif_moves.specs.Characters.{is_space, digit_of, file_of, row_of, square_of, past, is_over}

-- 1. THE NUMBER IN FRONT.

-- What stands behind a number's digits: behind a space or more.
abbrev pub behind_gap : List ℕ → Option (List ℕ)
behind_gap [] = None
behind_gap (c ∷ more) = if is_space c then Some (past is_space more) else None

-- What stands behind a number and its spaces, where a digit comes first.
abbrev pub behind_digits : List ℕ → Option (List ℕ)
behind_digits [] = None
behind_digits (c ∷ more) = if is_ascii_digit c then behind_gap (past is_ascii_digit more) else None

-- What stands in a line behind its number: behind perhaps spaces, a digit or more, and a space or
-- more. Which number it is doesn't count.
abbrev pub behind_number : List ℕ → Option (List ℕ)
behind_number line = behind_digits (past is_space line)

-- 2. THE END.

-- Whether the word says that the moves end: 詰み, 投了 or 中断.
abbrev pub is_ending : List ℕ → Bool
is_ending [] = false
is_ending (c ∷ []) = false
is_ending (c ∷ d ∷ more) = ((is c "詰" && is d "み") || ((is c "投" && is d "了") || (is c "中" && is d "断"))) && is_over more

-- 3. WHERE THE MOVE GOES.

-- Something that was named, where it was, and what stands behind its name.
abbrev pub before : {T : Type 0} → Option T → List ℕ → Option (T × List ℕ)
before None rest = None
before (Some x) rest = Some (x, rest)

-- What stands behind 同: a wide space (U+3000) may come first, which doesn't count.
abbrev pub behind_same : List ℕ → List ℕ
behind_same [] = []
behind_same (c ∷ more) = if c == 0x3000 then more else c ∷ more

-- The square of a file's full-width digit and the row's numeral behind it.
abbrev pub square_in : ℕ → List ℕ → Option (ℕ × List ℕ)
square_in file [] = None
square_in file (row ∷ more) = before (square_of (file_of file) (row_of row)) more

-- Where a move goes: to a square, or by 同 to where the last one went, where there was one.
abbrev pub goal_of : Option ℕ → List ℕ → Option (ℕ × List ℕ)
goal_of last [] = None
goal_of last (c ∷ more) = if is c "同" then before last (behind_same more) else square_in c more

-- 4. WHICH PIECE MOVES. A name is the piece as Black's.

-- The piece that 成 and a character name: 成香, 成桂 and 成銀.
abbrev pub long_piece : ℕ → Option Piece
long_piece c =
    if is c "香" then promoted_piece Black Lance else (if is c "桂" then promoted_piece Black Knight else (
    if is c "銀" then promoted_piece Black Silver else None))

-- The long name behind its first character, 成.
abbrev pub long_name : List ℕ → Option (Piece × List ℕ)
long_name [] = None
long_name (c ∷ more) = before (long_piece c) more

-- The piece that is named: by two characters, or by the one that shows it on a board.
abbrev pub name_of : List ℕ → Option (Piece × List ℕ)
name_of [] = None
name_of (c ∷ more) = if is c "成" then long_name more else before (piece_of Black c) more

-- 5. HOW IT MOVES.

-- A piece is put on the board from the hand, or goes from a square and promotes or not.
pub data Way : Type 0 where
  dropped : Way
  gone : ℕ → Bool → Way

-- Whether a piece of this name can be in a hand.
abbrev pub is_in_hand : Piece → Bool
is_in_hand name = not name.promoted && not (same_kind name.kind King)

-- Where the piece comes from: the digits of the file and of the row, in brackets; then the word is
-- over.
abbrev pub origin_of : List ℕ → Option ℕ
origin_of (left ∷ file ∷ row ∷ right ∷ more) =
    if is left "(" && (is right ")" && is_over more) then square_of (digit_of file) (digit_of row) else None
origin_of other = None

-- From a square; the move promotes or not.
abbrev pub gone_from : Bool → Option ℕ → Option Way
gone_from promote None = None
gone_from promote (Some from) = Some (gone from promote)

-- Behind 不: 成, and where the piece comes from.
abbrev pub unpromoted : List ℕ → Option Way
unpromoted [] = None
unpromoted (c ∷ more) = if is c "成" then gone_from false (origin_of more) else None

-- How a piece of this name moves: 打, from the hand; 成, and promotes; 不成 or nothing, and doesn't.
abbrev pub way_of : Piece → List ℕ → Option Way
way_of name [] = None
way_of name (c ∷ more) =
    if is c "打" then (if is_in_hand name && is_over more then Some dropped else None) else (
    if is c "成" then gone_from true (origin_of more) else (
    if is c "不" then unpromoted more else gone_from false (origin_of (c ∷ more))))

-- 6. THE MOVE.

-- A move as a word names it: where it goes, the piece's name, and how it moves.
pub record Spoken : Type 0 where
  pub to : ℕ
  pub name : Piece
  pub way : Way

-- What is named behind the goal.
abbrev pub named_to : ℕ × List ℕ → Option Spoken
named_to goal =
    option_and_then (λ (name : Piece × List ℕ).
    option_map (λ (way : Way). record { to = goal.0; name = name.0; way = way }) (way_of name.0 name.1)) (name_of goal.1)

-- The move that a word names, where the last one went to this square, or none was made.
abbrev pub spoken_of : Option ℕ → List ℕ → Option Spoken
spoken_of last word = option_and_then named_to (goal_of last word)

-- The move goes so to the square: a drop of the kind, or from the square and promoting or not.
abbrev pub IsMoveOf : Spoken → Move → Type 0
IsMoveOf s (moves.Board from to promote) = (s.way ≡ gone from.number promote) × (s.to ≡ to.number)
IsMoveOf s (moves.Drop kind to) = (s.way ≡ dropped) × (s.name.kind ≡ kind) × (s.to ≡ to.number)
