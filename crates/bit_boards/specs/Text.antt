-- What the texts of positions and of moves share (SFEN, the USI protocol).
use Rattle.std.specs.Prelude.{◌==◌, ℕ, Option, Some, None, if◌then◌else◌}
use Rattle.bit_boards.specs.declared.piece.Kind.{Kind}
use Rattle.bit_boards.specs.declared.piece.Kind.TheVariants.{Pawn, Lance, Knight, Silver, Gold, Bishop, Rook, King}

-- The capital letter of a kind: P L N S G B R K.
abbrev pub kind_letter : Kind → ℕ
kind_letter Pawn = 80
kind_letter Lance = 76
kind_letter Knight = 78
kind_letter Silver = 83
kind_letter Gold = 71
kind_letter Bishop = 66
kind_letter Rook = 82
kind_letter King = 75

-- The kind of a capital letter, where there is one.
abbrev pub kind_of_letter : ℕ → Option Kind
kind_of_letter letter =
    if letter == 80 then Some Pawn
    else (if letter == 76 then Some Lance
    else (if letter == 78 then Some Knight
    else (if letter == 83 then Some Silver
    else (if letter == 71 then Some Gold
    else (if letter == 66 then Some Bishop
    else (if letter == 82 then Some Rook
    else (if letter == 75 then Some King
    else None)))))))
