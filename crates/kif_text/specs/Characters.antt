-- What the characters of a diagram name. Some pieces have two characters.
use Rattle.std.specs.Prelude.{◌+◌, ◌==◌, ◌&&◌, ◌||◌, ℕ, List, [], ◌∷◌, Bool, Option, Some, None, nat_le, if◌then◌else◌, option_and_then, codes, slice_index}
use Rattle.std.specs.Char.{char_set_contains}
use Prim.Native.String.{String}
use Rattle.bit_boards.specs.declared.piece.Kind.{Kind}
use Rattle.bit_boards.specs.declared.piece.Kind.TheVariants.{Pawn, Lance, Knight, Silver, Gold, Bishop, Rook, King}
use Rattle.bit_boards.specs.declared.piece.Side.{Side}
use Rattle.bit_boards.specs.declared.piece.Side.TheVariants.{Black, White}
use Rattle.bit_boards.specs.declared.piece.Piece.{Piece}
use Rattle.bit_boards.specs.Piece.{plain_piece}
use Rattle.sfen_text.specs.Pieces.{promoted_piece}

-- Whether a character is the one of a text of one character.
abbrev pub is : ℕ → String → Bool
is character text = character == slice_index (codes text) 0

-- The kind that a character names, where it names an unpromoted piece that a hand can hold.
abbrev pub kind_of : ℕ → Option Kind
kind_of c =
    if is c "歩" then Some Pawn else (if is c "香" then Some Lance else (if is c "桂" then Some Knight else (
    if is c "銀" then Some Silver else (if is c "金" then Some Gold else (if is c "角" then Some Bishop else (
    if is c "飛" then Some Rook else None))))))

-- A piece, where there is one, as a kind has it.
abbrev pub plain_of : Side → Option Kind → Option Piece
plain_of side None = None
plain_of side (Some kind) = Some (plain_piece kind side)

-- The piece of a side that a character shows on the board, where it shows one.
abbrev pub piece_of : Side → ℕ → Option Piece
piece_of side c =
    if is c "玉" || is c "王" then Some (plain_piece King side) else (
    if is c "と" then promoted_piece side Pawn else (if is c "杏" then promoted_piece side Lance else (
    if is c "圭" then promoted_piece side Knight else (if is c "全" then promoted_piece side Silver else (
    if is c "馬" then promoted_piece side Bishop else (if is c "龍" || is c "竜" then promoted_piece side Rook else
    plain_of side (kind_of c)))))))

-- The side whose piece a mark announces: a space Black's, a `v` White's.
abbrev pub side_of : ℕ → Option Side
side_of mark = if is mark " " then Some Black else (if is mark "v" then Some White else None)

-- A cell that holds the piece, where there is one.
abbrev pub cell_with : Option Piece → Option (Option Piece)
cell_with None = None
cell_with (Some piece) = Some (Some piece)

-- What stands in a cell of two characters, a mark and what it shows: nothing behind a space, or a
-- piece of the mark's side; where the two are a cell at all.
abbrev pub cell_of : ℕ → ℕ → Option (Option Piece)
cell_of mark shown =
    if is mark " " && is shown "・" then Some None
    else option_and_then (λ side. cell_with (piece_of side shown)) (side_of mark)

-- The number that a character names, one to ten.
abbrev pub number_of : ℕ → Option ℕ
number_of c =
    if is c "一" then Some 1 else (if is c "二" then Some 2 else (if is c "三" then Some 3 else (
    if is c "四" then Some 4 else (if is c "五" then Some 5 else (if is c "六" then Some 6 else (
    if is c "七" then Some 7 else (if is c "八" then Some 8 else (if is c "九" then Some 9 else (
    if is c "十" then Some 10 else None)))))))))

-- Ten and a number up to eight more.
abbrev pub teen : Option ℕ → Option ℕ
teen None = None
teen (Some n) = if nat_le n 8 then Some (10 + n) else None

-- The count that characters name: one where there are none, else one to eighteen.
abbrev pub count_of : List ℕ → Option ℕ
count_of [] = Some 1
count_of (c ∷ []) = number_of c
count_of (c ∷ d ∷ []) = if is c "十" then teen (number_of d) else None
count_of (c ∷ d ∷ e ∷ more) = None

-- Whether a character stands between the items of a hand: a space, or a wide one (U+3000).
abbrev pub is_blank : ℕ → Bool
is_blank c = char_set_contains (32 ∷ 0x3000 ∷ []) c
