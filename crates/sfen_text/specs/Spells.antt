-- Which text spells which position (SFEN): texts and positions side by side, in no order of
-- reading.
use Rattle.std.specs.Prelude.{◌≡◌, ◌≢◌, ◌⊎◌, ◌≤◌, ◌+◌, ◌/◌, ◌%◌, ◌&&◌, ℕ, zero, suc, List, [], ◌∷◌, ◌++◌, map, replicate, length, codes, true, Option, Some, None, nat_lt, if◌then◌else◌}
use Rattle.std.specs.List.{flat_map, range_with_len, list_all}
use Rattle.bit_boards.specs.declared.piece.Kind.{Kind}
use Rattle.bit_boards.specs.declared.piece.Kind.TheVariants.{Pawn, King}
use Rattle.bit_boards.specs.declared.piece.Side.{Side}
use Rattle.bit_boards.specs.declared.piece.Side.TheVariants.{Black, White}
use Rattle.bit_boards.specs.declared.piece.Piece.{Piece}
use Rattle.bit_boards.specs.Kind.{same_side, same_kind, total_of}
use Rattle.board_core.specs.Board.{Board, hand_count}
use Rattle.sfen_text.specs.Pieces.{letter_of, piece_text}
use Rattle.sfen_text.specs.Spelling.{cells_of_row, run_text, or_dash, side_letter}
use Rattle.sfen_text.specs.Bytes.{is_digit, is_space, is_blank}

-- A stretch of a row: so many empty squares side by side, or one piece.
pub data Stretch : Type 0 where
  empty : ℕ → Stretch
  one : Piece → Stretch

-- A stretch is spelled by the number of its empty squares, a digit, or nothing where there are
-- none; a piece is spelled by its letter, behind a plus where it is promoted.
abbrev pub stretch_text : Stretch → List ℕ
stretch_text (empty n) = run_text n
stretch_text (one piece) = piece_text piece

-- What stands on the squares of a stretch.
abbrev pub stretch_squares : Stretch → List (Option Piece)
stretch_squares (empty n) = replicate n None
stretch_squares (one piece) = Some piece ∷ []

-- What stands on the squares of a row of stretches.
abbrev pub row_squares : List Stretch → List (Option Piece)
row_squares row = flat_map stretch_squares row

-- A slash, and a row of stretches.
abbrev pub row_behind_slash : List Stretch → List ℕ
row_behind_slash row = 47 ∷ flat_map stretch_text row

-- A text spells the board: with a slash in front it is rows with a slash in front of each, and
-- these rows are the rows a to i, each from file 9 to file 1.
abbrev pub BoardSpells : List ℕ → List (Option Piece) → Type 0
BoardSpells text cells = (rows : List (List Stretch)) × (47 ∷ text ≡ flat_map row_behind_slash rows) × (map row_squares rows ≡ map (cells_of_row cells) (range_with_len 1 9))

-- The digits of a count below a hundred, without a leading zero.
abbrev pub count_digits : ℕ → List ℕ
count_digits n = if nat_lt n 10 then (48 + n) ∷ [] else (48 + n / 10) ∷ (48 + n % 10) ∷ []

-- An item of the hands: one piece or more of a side's kind, which is no king, and at most as many
-- as there are pawns, 18. Its count may be left out where it is 1.
pub record HandItem : Type 0 where
  pub digits : List ℕ
  pub count : ℕ
  pub side : Side
  pub kind : Kind
  pub some : 1 ≤ count
  pub few : count ≤ total_of Pawn
  pub no_king : kind ≢ King
  pub spelled : (digits ≡ count_digits count) ⊎ ((count ≡ 1) × (digits ≡ []))

-- An item is spelled by its count's digits and its piece's letter.
abbrev pub hand_item_text : HandItem → List ℕ
hand_item_text item = item.digits ++ letter_of item.side item.kind ∷ []

-- The counts that items give for a side's kind.
abbrev pub counts_for : Side → Kind → List HandItem → List ℕ
counts_for side kind items = flat_map (λ item. if same_side item.side side && same_kind item.kind kind then item.count ∷ [] else []) items

-- The one count of a kind that a hand holds so many of; none where it holds none.
abbrev pub one_count : ℕ → List ℕ
one_count zero = []
one_count (suc n) = suc n ∷ []

-- Items hold a side's hand: each kind is counted once, where the hand holds it, by as many as it
-- holds.
abbrev pub ItemsHold : Side → List HandItem → List ℕ → Type 0
ItemsHold side items hand = (kind : Kind) → kind ≢ King → counts_for side kind items ≡ one_count (hand_count hand kind)

-- A text spells both hands: it is items in any order that hold them; a dash where there are none.
abbrev pub HandsSpell : List ℕ → List ℕ → List ℕ → Type 0
HandsSpell text black white = (items : List HandItem) × (text ≡ or_dash (flat_map hand_item_text items)) × ItemsHold Black items black × ItemsHold White items white

-- What may stand in front of the fields: nothing, or `sfen ` or `position sfen `.
abbrev pub IsFrontWord : List ℕ → Type 0
IsFrontWord front = (front ≡ []) ⊎ ((front ≡ codes "sfen ") ⊎ (front ≡ codes "position sfen "))

-- What stands between two fields: one space or more.
abbrev pub IsGap : List ℕ → Type 0
IsGap gap = (gap ≢ []) × (list_all is_space gap ≡ true)

-- One to nine digits.
abbrev pub IsNumber : List ℕ → Type 0
IsNumber digits = (digits ≢ []) × (length digits ≤ 9) × (list_all is_digit digits ≡ true)

-- What may stand behind the hands: nothing, or a gap and a move number.
abbrev pub IsEnd : List ℕ → Type 0
IsEnd end = (end ≡ []) ⊎ ((gap : List ℕ) × (digits : List ℕ) × (end ≡ gap ++ digits) × IsGap gap × IsNumber digits)

-- A text spells a position: the board, the side to move, the hands and perhaps a move number, with
-- gaps between them; in front of them perhaps a word, and spaces; and at both ends any blanks.
pub record Spells (text : List ℕ) (p : Board) : Type 0 where
  pub before : List ℕ
  pub front : List ℕ
  pub spaces : List ℕ
  pub board : List ℕ
  pub gap : List ℕ
  pub next_gap : List ℕ
  pub hands : List ℕ
  pub end : List ℕ
  pub after : List ℕ
  pub parts : text ≡ before ++ front ++ spaces ++ board ++ gap ++ (side_letter p.side ∷ []) ++ next_gap ++ hands ++ end ++ after
  pub is_before : list_all is_blank before ≡ true
  pub is_front : IsFrontWord front
  pub is_spaces : list_all is_space spaces ≡ true
  pub is_board : BoardSpells board p.cells
  pub is_gap : IsGap gap
  pub is_next_gap : IsGap next_gap
  pub is_hands : HandsSpell hands p.black p.white
  pub is_end : IsEnd end
  pub is_after : list_all is_blank after ≡ true
