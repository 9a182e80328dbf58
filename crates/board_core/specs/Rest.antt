use Rattle.std.specs.Prelude.{◌+◌, ◌-◌, ℕ, List, [], ◌∷◌}
use Rattle.bit_boards.specs.declared.piece.Kind.{Kind}
use Rattle.bit_boards.specs.declared.piece.Kind.TheVariants.{Pawn, Lance, Knight, Silver, Gold, Bishop, Rook}
use Rattle.bit_boards.specs.Kind.{other, total_of}
use Rattle.board_core.specs.Board.{Board, hand_count, hand_of, with_hand, count_of}

-- How many pieces of a kind a set has beside those on the board and in the hands.
abbrev pub left_of : Board → Kind → ℕ
left_of b kind = total_of kind - count_of b kind

-- How many of a kind the side not to move holds once it is given what is left.
abbrev pub count_with_rest : Board → Kind → ℕ
count_with_rest b kind = hand_count (hand_of b (other b.side)) kind + left_of b kind

-- The hand of the side not to move once it is given all that is left of each kind but the king.
unfoldable pub hand_with_rest : Board → List ℕ
hand_with_rest b = count_with_rest b Pawn ∷ count_with_rest b Lance ∷ count_with_rest b Knight ∷ count_with_rest b Silver
    ∷ count_with_rest b Gold ∷ count_with_rest b Bishop ∷ count_with_rest b Rook ∷ []

-- The board with all that is left in hand of the side not to move; nothing else changes.
abbrev pub board_with_rest : Board → Board
board_with_rest b = with_hand b (other b.side) (hand_with_rest b)
