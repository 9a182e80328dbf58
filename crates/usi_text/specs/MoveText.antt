-- The texts of squares and moves (USI protocol: moves).
use Rattle.std.specs.Prelude.{◌≡◌, ◌+◌, ℕ, List, [], ◌∷◌, ◌++◌, Bool, true, false, Option, Some, None}
use Rattle.bit_boards.specs.Square.{file_of, row_of}
use Rattle.bit_boards.specs.Text.{kind_letter}
use Rattle.board_core.specs.Text.{HasText}
use Rattle.board_core.specs.declared.moves.Move.{Move}
use Rattle.board_core.specs.declared.moves.Move.TheVariants as moves

-- A square: the digit of its file, 1 to 9, and the small letter of its row, a to i.
abbrev pub square_text : ℕ → List ℕ
square_text square = (48 + file_of square) ∷ (96 + row_of square) ∷ []

-- What ends a board move: a plus where it promotes, else nothing.
abbrev pub promotion_text : Bool → List ℕ
promotion_text true = 43 ∷ []
promotion_text false = []

-- A board move: origin, destination, and a plus where it promotes. A drop: the kind's letter, a
-- star, the square.
abbrev pub move_text : Move → List ℕ
move_text (moves.Board from to promote) = square_text from.number ++ square_text to.number ++ promotion_text promote
move_text (moves.Drop kind to) = kind_letter kind ∷ 42 ∷ square_text to.number

-- What bytes are read as: the move whose text they are; none, where they are the text of no move
-- that has one.
abbrev pub IsRead : List ℕ → Option Move → Type 0
IsRead bytes (Some m) = HasText m × (bytes ≡ move_text m)
IsRead bytes None = (m : Move) → HasText m → bytes ≡ move_text m → ⊥

-- A law: no two moves have one text.
abbrev pub MoveTextsApart : Type 0
MoveTextsApart = (a b : Move) → move_text a ≡ move_text b → a ≡ b
