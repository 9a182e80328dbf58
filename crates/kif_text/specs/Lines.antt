-- What each line of a KIF text says, by the first rule that fits.
use Rattle.std.specs.Prelude.{◌||◌, ℕ, List, [], ◌∷◌, length, drop, Bool, not, nat_eq, if◌then◌else◌, codes, take_while}
use Rattle.std.specs.List.{starts_with}
use Rattle.std.specs.Str.{encode_utf8_all, chars}
use Rattle.std.specs.Str.Lines.{lines}
use Prim.Native.String.{String}
use Rattle.bit_boards.specs.declared.piece.Side.{Side}
use Rattle.bit_boards.specs.declared.piece.Side.TheVariants.{Black, White}
use Rattle.kif_text.specs.declared.lines.Line.{Line}
use Rattle.kif_text.specs.declared.lines.Line.TheVariants.{Other, Handicap, InHand, Row, Turn}

-- The bytes of a word in UTF-8.
abbrev pub utf8 : String → List ℕ
utf8 word = encode_utf8_all (codes word)

-- Whether a line begins with a word.
abbrev pub begins : List ℕ → String → Bool
begins line word = starts_with nat_eq line (utf8 word)

-- What stands in a line behind a word.
abbrev pub behind : List ℕ → String → List ℕ
behind line word = drop (length (utf8 word)) line

-- What a line says: nothing that counts, that the game is a handicap game, a side's pieces in hand
-- by the text behind the colon, a row of the diagram by the characters behind the bar, or whose
-- turn it is.
pub data Meaning : Type 0 where
  other : Meaning
  handicap : Meaning
  in_hand : Side → List ℕ → Meaning
  row : List ℕ → Meaning
  turn : Side → Meaning

-- What a line says about the diagram and the turn.
abbrev pub board_meaning : List ℕ → Meaning
board_meaning line =
    if begins line "|" then row (chars (behind line "|")) else (
    if begins line "後手番" || begins line "手番：後手" then turn White else (
    if begins line "先手番" || begins line "手番：先手" then turn Black else other))

-- What a line says, by the first rule that fits.
abbrev pub meaning : List ℕ → Meaning
meaning line =
    if begins line "#" || begins line "*" then other else (
    if begins line "上手" || begins line "下手" then handicap else (
    if begins line "先手の持駒：" then in_hand Black (behind line "先手の持駒：") else (
    if begins line "後手の持駒：" then in_hand White (behind line "後手の持駒：") else board_meaning line)))

-- A line as it was seen says this.
abbrev pub said : Line → Meaning
said Other = other
said Handicap = handicap
said (InHand side text) = in_hand side text.now
said (Row text) = row (chars text.now)
said (Turn side) = turn side

-- A text without the byte-order mark in front.
abbrev pub without_mark : List ℕ → List ℕ
without_mark text = if starts_with nat_eq text (0xEF ∷ 0xBB ∷ 0xBF ∷ []) then drop 3 text else text

-- Whether a line belongs to the header, where the lines in front of it do.
abbrev pub goes_on : List ℕ → Bool
goes_on line = not (begins line "手数----")

-- The lines of the header: those before the first that begins with `手数----`. A line feed ends a
-- line, and a carriage return before it doesn't count.
unfoldable pub header_lines : List ℕ → List (List ℕ)
header_lines text = take_while goes_on (lines text)
