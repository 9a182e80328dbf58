-- The moves of a KIF record.
use Rattle.std.specs.Prelude.{◌+◌, ◌==◌, ◌++◌, ℕ, List, [], ◌∷◌, Bool, true, false, Option, Some, None, nat_lt, if◌then◌else◌}
use Rattle.std.specs.Fmt.{decimal}
use Rattle.bit_boards.specs.declared.piece.Piece.{Piece}
use Rattle.bit_boards.specs.declared.square.Square.{Square}
use Rattle.bit_boards.specs.Square.{file_of, row_of}
use Rattle.board_core.specs.declared.moves.Move.{Move}
use Rattle.board_core.specs.declared.moves.Move.TheVariants as moves
use Rattle.board_core.specs.Board.{Board, piece_at}
use Rattle.shogi_rules.specs.Rules.{after}
use Rattle.kif_text.specs.Lines.{utf8}
use Rattle.kif_record.specs.Characters.{kind_text, name_of, square_text, wide_blank}
use Rattle.kif_record.specs.Diagram.{line}

-- The blanks in front of a number that is to stand right in four places.
abbrev pub blanks_before : ℕ → List ℕ
blanks_before n = if nat_lt n 10 then utf8 "   " else (if nat_lt n 100 then utf8 "  " else (if nat_lt n 1000 then utf8 " " else []))

-- The number of a move, right in four places, and a space.
abbrev pub numbered : ℕ → List ℕ
numbered n = blanks_before n ++ decimal n ++ 32 ∷ []

-- Where a move goes.
abbrev pub goes_to : Move → Square
goes_to (moves.Board from to promote) = to
goes_to (moves.Drop piece to) = to

-- Whether a square is where the move before went.
abbrev pub is_same : Option Square → Square → Bool
is_same None to = false
is_same (Some square) to = square.number == to.number

-- Where a move goes: by a word for where the move before went, else by its square.
abbrev pub place_text : Option Square → Square → List ℕ
place_text last to = if is_same last to then utf8 "同" ++ wide_blank else square_text to.number

-- The name of what stands on a square.
abbrev pub named : Option Piece → List ℕ
named None = []
named (Some piece) = name_of piece

-- What says that a move promotes; nothing says that it doesn't.
abbrev pub promotion_text : Bool → List ℕ
promotion_text true = utf8 "成"
promotion_text false = []

-- Where a piece comes from: file and row in digits, in brackets.
abbrev pub origin_text : ℕ → List ℕ
origin_text square = 40 ∷ (48 + file_of square) ∷ (48 + row_of square) ∷ 41 ∷ []

-- What moves: the piece, whether the move promotes it, and where it comes from; or the kind that is
-- dropped, and that it is.
abbrev pub moved_text : Board → Move → List ℕ
moved_text b (moves.Board from to promote) = named (piece_at b.cells from.number) ++ promotion_text promote ++ origin_text from.number
moved_text b (moves.Drop piece to) = kind_text piece ++ utf8 "打"

-- A move of this number, where the one before went there.
abbrev pub move_line : ℕ → Option Square → Board → Move → List ℕ
move_line number last b move = line (numbered number ++ place_text last (goes_to move) ++ moved_text b move)

-- Moves from a position, of numbers from this one, where the move before went there.
abbrev pub moves_text : ℕ → Option Square → Board → List Move → List ℕ
moves_text number last b [] = []
moves_text number last b (move ∷ more) = move_line number last b move ++ moves_text (number + 1) (Some (goes_to move)) (after b move) more
