-- The letters of pieces (SFEN).
use Rattle.std.specs.Prelude.{◌+◌, ◌-◌, ℕ, List, [], ◌∷◌, ◌++◌, Bool, true, false, Option, Some, None, nat_le, if◌then◌else◌, option_and_then, refl}
use Rattle.bit_boards.specs.declared.piece.Kind.{Kind}
use Rattle.bit_boards.specs.declared.piece.Kind.TheVariants.{Pawn, Lance, Knight, Silver, Gold, Bishop, Rook, King}
use Rattle.bit_boards.specs.declared.piece.Side.{Side}
use Rattle.bit_boards.specs.declared.piece.Side.TheVariants.{Black, White}
use Rattle.bit_boards.specs.declared.piece.Piece.{Piece}
use Rattle.bit_boards.specs.Text.{kind_letter, kind_of_letter}
use Rattle.bit_boards.specs.Piece.{plain_piece}

-- The letter of a side's piece of a kind: Black's is a capital letter, White's a small one.
abbrev pub letter_of : Side → Kind → ℕ
letter_of Black kind = kind_letter kind
letter_of White kind = kind_letter kind + 32

-- What stands before the letter of a piece: a plus where it is promoted, else nothing.
abbrev pub plus_text : Bool → List ℕ
plus_text true = 43 ∷ []
plus_text false = []

-- A piece: its letter, behind a plus where it is promoted.
abbrev pub piece_text : Piece → List ℕ
piece_text piece = plus_text piece.promoted ++ letter_of piece.side piece.kind ∷ []

-- A side's promoted piece of a kind; gold and king have none.
abbrev pub promoted_piece : Side → Kind → Option Piece
promoted_piece side Pawn = Some (record { kind = Pawn; promoted = true; side = side; promotes = λ _. refl })
promoted_piece side Lance = Some (record { kind = Lance; promoted = true; side = side; promotes = λ _. refl })
promoted_piece side Knight = Some (record { kind = Knight; promoted = true; side = side; promotes = λ _. refl })
promoted_piece side Silver = Some (record { kind = Silver; promoted = true; side = side; promotes = λ _. refl })
promoted_piece side Gold = None
promoted_piece side Bishop = Some (record { kind = Bishop; promoted = true; side = side; promotes = λ _. refl })
promoted_piece side Rook = Some (record { kind = Rook; promoted = true; side = side; promotes = λ _. refl })
promoted_piece side King = None

-- The side whose letters are like this one: capital letters are Black's, small ones White's.
abbrev pub side_of_letter : ℕ → Side
side_of_letter byte = if nat_le 97 byte then White else Black

-- The capital letter of a letter.
abbrev pub capital_of : ℕ → ℕ
capital_of byte = if nat_le 97 byte then byte - 32 else byte

-- The unpromoted piece of a letter, where there is one.
unfoldable pub piece_of : ℕ → Option Piece
piece_of byte = option_and_then (λ kind. Some (plain_piece kind (side_of_letter byte))) (kind_of_letter (capital_of byte))

-- The promoted piece of a letter, where there is one.
unfoldable pub promoted_of : ℕ → Option Piece
promoted_of byte = option_and_then (λ kind. promoted_piece (side_of_letter byte) kind) (kind_of_letter (capital_of byte))
