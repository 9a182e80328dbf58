use Rattle.std.specs.Prelude.{◌==◌, ℕ, Bool, true, false}
use Rattle.bit_boards.specs.declared.piece.Kind.{Kind}
use Rattle.bit_boards.specs.declared.piece.Kind.TheVariants.{Pawn, Lance, Knight, Silver, Gold, Bishop, Rook, King}
use Rattle.bit_boards.specs.declared.piece.Side.{Side}
use Rattle.bit_boards.specs.declared.piece.Side.TheVariants.{Black, White}

-- The other side.
abbrev pub other : Side → Side
other Black = White
other White = Black

-- Whether two sides are one.
abbrev pub same_side : Side → Side → Bool
same_side Black Black = true
same_side Black White = false
same_side White Black = false
same_side White White = true

-- Whether pieces of the kind have a promoted side: all but gold and king.
abbrev pub can_promote : Kind → Bool
can_promote Pawn = true
can_promote Lance = true
can_promote Knight = true
can_promote Silver = true
can_promote Gold = false
can_promote Bishop = true
can_promote Rook = true
can_promote King = false

-- The kinds in their order: pawn, lance, knight, silver, gold, bishop, rook, and the king last.
abbrev pub place_of : Kind → ℕ
place_of Pawn = 0
place_of Lance = 1
place_of Knight = 2
place_of Silver = 3
place_of Gold = 4
place_of Bishop = 5
place_of Rook = 6
place_of King = 7

-- Whether two kinds are one.
abbrev pub same_kind : Kind → Kind → Bool
same_kind k l = place_of k == place_of l

-- How many pieces of a kind a set of shogi has, both sides together.
abbrev pub total_of : Kind → ℕ
total_of Pawn = 18
total_of Lance = 4
total_of Knight = 4
total_of Silver = 4
total_of Gold = 4
total_of Bishop = 2
total_of Rook = 2
total_of King = 2

-- How many rows an unpromoted piece of a kind must have ahead of it, to be able to move ever again.
abbrev pub rows_needed : Kind → ℕ
rows_needed Pawn = 1
rows_needed Lance = 1
rows_needed Knight = 2
rows_needed Silver = 0
rows_needed Gold = 0
rows_needed Bishop = 0
rows_needed Rook = 0
rows_needed King = 0
