-- What an input stands for, or its first fault and where it is: relations between whole texts and
-- outcomes, in no order of reading. A fault stands where everything before it is well, and what
-- follows is not.
use Rattle.std.specs.Prelude.{◌≡◌, ◌≢◌, ◌⊎◌, ◌≤◌, ◌<◌, ◌+◌, ℕ, List, [], ◌∷◌, ◌++◌, length, Option, Result, Ok, Err}
use Rattle.std.specs.List.{flat_map, AllByRecursion}
use Rattle.bit_boards.specs.declared.piece.Kind.{Kind}
use Rattle.bit_boards.specs.declared.piece.Side.{Side}
use Rattle.bit_boards.specs.declared.piece.Piece.{Piece}
use Rattle.board_core.specs.Board.{Board}
use Rattle.board_core.specs.Build.{IsBuilt}
use Rattle.sfen_text.specs.declared.fault.TextFault.{TextFault}
use Rattle.sfen_text.specs.declared.fault.TextFault.TheVariants.{BadRow, BadPiece, BadSide, BadHand, HandTwice, Trailing, BadPosition}
use Rattle.sfen_text.specs.Spelling.{side_letter}
use Rattle.sfen_text.specs.Spells.{Stretch, empty, one, stretch_text, stretch_squares, row_squares, BoardSpells, HandItem, hand_item_text, counts_for, HandsSpell, IsNumber, Spells}
use Rattle.sfen_text.specs.Fields.{Field, FieldsOf}

-- ---- the board

-- A stretch that can stand in a text: a run of one to nine empty squares, or a piece.
abbrev pub CanStand : Stretch → Type 0
CanStand (empty n) = (1 ≤ n) × (n ≤ 9)
CanStand (one piece) = Unit {0}

-- A row of stretches, and a slash.
abbrev pub row_before_slash : List Stretch → List ℕ
row_before_slash row = flat_map stretch_text row ++ 47 ∷ []

-- Each row has nine squares.
abbrev pub AreNineEach : List (List Stretch) → Type 0
AreNineEach rows = AllByRecursion (λ row. length (row_squares row) ≡ 9) rows

-- The board's field is well up to a place, where the rest of it stands: at most eight whole rows, a
-- slash behind each, and of the next row at most nine squares.
pub record IsWellUpTo (board : Field) (here : ℕ) (rest : List ℕ) : Type 0 where
  pub rows : List (List Stretch)
  pub row : List Stretch
  pub nine : AreNineEach rows
  pub few : length rows ≤ 8
  pub fits : length (row_squares row) ≤ 9
  pub parts : board.text ≡ (flat_map row_before_slash rows ++ flat_map stretch_text row) ++ rest
  pub place : here ≡ board.at + length (flat_map row_before_slash rows ++ flat_map stretch_text row)

-- A piece or a run stands here that would pass nine squares in its row.
abbrev pub PassesNine : List Stretch → List ℕ → Type 0
PassesNine row rest = (next : Stretch) × (behind : List ℕ) × CanStand next × (rest ≡ stretch_text next ++ behind) × (9 < length (row_squares row) + length (stretch_squares next))

-- A slash stands here, and its row has fewer than nine squares or is the ninth.
abbrev pub IsWrongSlash : List (List Stretch) → List Stretch → List ℕ → Type 0
IsWrongSlash rows row rest = (behind : List ℕ) × (rest ≡ 47 ∷ behind) × ((length (row_squares row) < 9) ⊎ (length rows ≡ 8))

-- The field ends here, and its row has fewer than nine squares or comes before the ninth.
abbrev pub IsWrongEnd : List (List Stretch) → List Stretch → List ℕ → Type 0
IsWrongEnd rows row rest = (rest ≡ []) × ((length (row_squares row) < 9) ⊎ (length rows < 8))

-- The board's field is well up to this place, where a row goes wrong.
pub record HasBadRow (board : Field) (here : ℕ) : Type 0 where
  pub rest : List ℕ
  pub well : IsWellUpTo board here rest
  pub wrong : PassesNine well.row rest ⊎ (IsWrongSlash well.rows well.row rest ⊎ IsWrongEnd well.rows well.row rest)

-- The board's field is well up to this place, where a byte stands that begins no piece, no run and
-- no slash.
pub record HasBadPiece (board : Field) (here : ℕ) : Type 0 where
  pub byte : ℕ
  pub behind : List ℕ
  pub well : IsWellUpTo board here (byte ∷ behind)
  pub no_slash : byte ≢ 47
  pub no_stretch : (next : Stretch) (others : List ℕ) → CanStand next → byte ∷ behind ≡ stretch_text next ++ others → ⊥

-- ---- the side to move

-- The field is no side's letter, and this is its place.
pub record HasBadSide (turn : Field) (here : ℕ) : Type 0 where
  pub no_side : (side : Side) → turn.text ≢ side_letter side ∷ []
  pub place : here ≡ turn.at

-- ---- the hands

-- The hands' field begins with items, no letter twice, up to a place, where the rest of it stands.
pub record AreItemsUpTo (hands : Field) (here : ℕ) (rest : List ℕ) : Type 0 where
  pub items : List HandItem
  pub once : (side : Side) (kind : Kind) → length (counts_for side kind items) ≤ 1
  pub parts : hands.text ≡ flat_map hand_item_text items ++ rest
  pub place : here ≡ hands.at + length (flat_map hand_item_text items)

-- Behind items, no letter twice, no item begins, and something stands there; or there is no field.
-- A dash alone is well.
pub record HasBadHand (hands : Field) (here : ℕ) : Type 0 where
  pub rest : List ℕ
  pub well : AreItemsUpTo hands here rest
  pub no_item : (next : HandItem) (behind : List ℕ) → rest ≢ hand_item_text next ++ behind
  pub some : (rest ≢ []) ⊎ (hands.text ≡ [])
  pub no_dash : hands.text ≢ 45 ∷ []

-- Behind items, no letter twice, comes one more whose letter is among theirs; this is the place of
-- the letter.
pub record HasLetterTwice (hands : Field) (here : ℕ) : Type 0 where
  pub start : ℕ
  pub next : HandItem
  pub behind : List ℕ
  pub well : AreItemsUpTo hands start (hand_item_text next ++ behind)
  pub twice : 1 ≤ length (counts_for next.side next.kind well.items)
  pub place : here ≡ start + length next.digits

-- ---- what stands behind the hands

-- The fourth field is no move number; or it is one, and a fifth comes. This is the place of the
-- fourth, or the fifth.
abbrev pub HasTrailing : Field → Field → ℕ → Type 0
HasTrailing number more here = ((number.text ≢ []) × (IsNumber number.text → ⊥) × (here ≡ number.at)) ⊎ (IsNumber number.text × (more.text ≢ []) × (here ≡ more.at))

-- ---- the whole

-- The field spells the cells of some board.
abbrev pub IsBoardField : Field → Type 0
IsBoardField board = (cells : List (Option Piece)) × BoardSpells board.text cells

-- The field is a side's letter.
abbrev pub IsSideField : Field → Type 0
IsSideField turn = (side : Side) × (turn.text ≡ side_letter side ∷ [])

-- The field spells two hands, of seven counts each.
abbrev pub IsHandsField : Field → Type 0
IsHandsField hands = (black : List ℕ) × (white : List ℕ) × (length black ≡ 7) × (length white ≡ 7) × HandsSpell hands.text black white

-- A text spells these parts, of 81 cells and seven counts in each hand, whether or not they make a
-- position.
pub record SpellsParts (input : List ℕ) (b : Board) : Type 0 where
  pub spells : Spells input b
  pub cells : length b.cells ≡ 81
  pub black : length b.black ≡ 7
  pub white : length b.white ≡ 7

-- The input has the fault, and it is its first one.
abbrev pub HasFirstTextFault : List ℕ → TextFault → Type 0
HasFirstTextFault input (BadRow here) = (fields : FieldsOf input) × HasBadRow fields.board here
HasFirstTextFault input (BadPiece here) = (fields : FieldsOf input) × HasBadPiece fields.board here
HasFirstTextFault input (BadSide here) = (fields : FieldsOf input) × IsBoardField fields.board × HasBadSide fields.side here
HasFirstTextFault input (BadHand here) = (fields : FieldsOf input) × IsBoardField fields.board × IsSideField fields.side × HasBadHand fields.hands here
HasFirstTextFault input (HandTwice here) = (fields : FieldsOf input) × IsBoardField fields.board × IsSideField fields.side × HasLetterTwice fields.hands here
HasFirstTextFault input (Trailing here) = (fields : FieldsOf input) × IsBoardField fields.board × IsSideField fields.side × IsHandsField fields.hands × HasTrailing fields.number fields.more here
HasFirstTextFault input (BadPosition bad) = (b : Board) × SpellsParts input b × IsBuilt b (Err bad)

-- The outcome to an input: the position that it spells; else its first fault.
abbrev pub IsReadingOutcome : List ℕ → Result Board TextFault → Type 0
IsReadingOutcome input (Ok position) = SpellsParts input position × IsBuilt position (Ok position)
IsReadingOutcome input (Err fault) = HasFirstTextFault input fault
