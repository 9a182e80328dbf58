-- The characters that a KIF record is written with: of pieces, numbers and squares.
use Rattle.std.specs.Prelude.{◌==◌, ◌+◌, ◌-◌, ◌++◌, ℕ, List, zero, suc, [], ◌∷◌, nat_lt, if◌then◌else◌}
use Rattle.std.specs.Str.{encode_utf8_all}
use Rattle.bit_boards.specs.declared.piece.Kind.{Kind}
use Rattle.bit_boards.specs.declared.piece.Kind.TheVariants.{Pawn, Lance, Knight, Silver, Gold, Bishop, Rook, King}
use Rattle.bit_boards.specs.declared.piece.Side.{Side}
use Rattle.bit_boards.specs.declared.piece.Side.TheVariants.{Black, White}
use Rattle.bit_boards.specs.declared.piece.Piece.{Piece}
use Rattle.bit_boards.specs.Square.{file_of, row_of}
use Rattle.kif_text.specs.Lines.{utf8}

-- The name of a kind.
abbrev pub kind_text : Kind → List ℕ
kind_text Pawn = utf8 "歩"
kind_text Lance = utf8 "香"
kind_text Knight = utf8 "桂"
kind_text Silver = utf8 "銀"
kind_text Gold = utf8 "金"
kind_text Bishop = utf8 "角"
kind_text Rook = utf8 "飛"
kind_text King = utf8 "玉"

-- What a cell of the diagram shows of a promoted piece: one character. Golds and kings don't
-- promote.
abbrev pub promoted_sign : Kind → List ℕ
promoted_sign Pawn = utf8 "と"
promoted_sign Lance = utf8 "杏"
promoted_sign Knight = utf8 "圭"
promoted_sign Silver = utf8 "全"
promoted_sign Bishop = utf8 "馬"
promoted_sign Rook = utf8 "龍"
promoted_sign kind = kind_text kind

-- The name of a promoted piece in a move.
abbrev pub promoted_name : Kind → List ℕ
promoted_name Lance = utf8 "成香"
promoted_name Knight = utf8 "成桂"
promoted_name Silver = utf8 "成銀"
promoted_name kind = promoted_sign kind

-- What a cell of the diagram shows of a piece, whosever it is.
abbrev pub sign_of : Piece → List ℕ
sign_of piece = if piece.promoted then promoted_sign piece.kind else kind_text piece.kind

-- The name of a piece in a move.
abbrev pub name_of : Piece → List ℕ
name_of piece = if piece.promoted then promoted_name piece.kind else kind_text piece.kind

-- A wide blank.
abbrev pub wide_blank : List ℕ
wide_blank = encode_utf8_all (0x3000 ∷ [])

-- The mark in front of a piece of a side: a space for Black's, a `v` for White's.
abbrev pub mark_of : Side → List ℕ
mark_of Black = utf8 " "
mark_of White = utf8 "v"

-- A number from one to ten, as rows and counts have it.
abbrev pub number_text : ℕ → List ℕ
number_text n =
    if n == 1 then utf8 "一" else (if n == 2 then utf8 "二" else (if n == 3 then utf8 "三" else (
    if n == 4 then utf8 "四" else (if n == 5 then utf8 "五" else (if n == 6 then utf8 "六" else (
    if n == 7 then utf8 "七" else (if n == 8 then utf8 "八" else (if n == 9 then utf8 "九" else utf8 "十"))))))))

-- The number of a file, in a wide digit (U+FF11 to U+FF19).
abbrev pub file_text : ℕ → List ℕ
file_text n = 0xEF ∷ 0xBC ∷ (0x90 + n) ∷ []

-- A square: the wide digit of its file, and the number of its row.
abbrev pub square_text : ℕ → List ℕ
square_text square = file_text (file_of square) ++ number_text (row_of square)

-- A count of pieces, one to eighteen: nothing for one; behind ten, the ten first.
abbrev pub count_text : ℕ → List ℕ
count_text n = if n == 1 then [] else (if nat_lt n 11 then number_text n else utf8 "十" ++ number_text (n - 10))

-- What a hand holds of a kind: its name and how many, where there are any.
abbrev pub held_text : Kind → ℕ → List ℕ
held_text piece zero = []
held_text piece (suc n) = kind_text piece ++ count_text (suc n)
