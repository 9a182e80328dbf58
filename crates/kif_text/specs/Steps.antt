-- Serves private functions alone: what one of them says of a part of a text.
use Rattle.std.specs.Prelude.{◌≡◌, ◌≢◌, ◌≤◌, ◌<◌, ◌+◌, ◌-◌, ◌*◌, ◌%◌, ℕ, List, [], ◌∷◌, ◌++◌, length, drop, true, Option, Some, None, Result, Ok, Err, slice_index_or, slice_index, unwrap_or}
use Rattle.std.specs.Str.{chars}
use denote.Ref.{Bor}
use Rattle.bit_boards.specs.declared.piece.Side.TheVariants.{Black, White}
use Rattle.bit_boards.specs.declared.piece.Piece.{Piece}
use Rattle.board_core.specs.Board.{piece_at, content_of}
use Rattle.kif_text.specs.declared.fault.KifFault.{KifFault}
use Rattle.kif_text.specs.declared.fault.KifFault.TheVariants.{BadCell}
use Rattle.kif_text.specs.declared.header.Diagram.{Diagram}
use Rattle.kif_text.specs.First.{HasNone, HasFirst}
use Rattle.kif_text.specs.Characters.{cell_of}
use Rattle.kif_text.specs.Words.{HasWordFault, hand_with, HasHandFault, hand_of}
use Rattle.kif_text.specs.Rows.{cell_in, is_well, HasBadColumn, HasRowFault}
use Rattle.kif_text.specs.Header.{rows_of, hand_said, turn_said, last_said, HasLineFault}

-- The text of a hand in this line was read: it has no fault, and names the hand; or it has the
-- fault.
abbrev pub IsHandRead : ℕ → List ℕ → Result (List ℕ) KifFault → Type 0
IsHandRead line text (Ok hand) = ((fault : KifFault) → HasHandFault line text fault → ⊥) × (hand ≡ hand_of (Some text))
IsHandRead line text (Err fault) = HasHandFault line text fault

-- A word behind these words of the line was read: it has no fault, and the hand has it too; or it
-- has the fault.
abbrev pub IsWordRead : ℕ → List (List ℕ) → List ℕ → Result (List ℕ) KifFault → Type 0
IsWordRead line before word (Ok hand) = ((fault : KifFault) → HasWordFault line before word fault → ⊥) × (hand ≡ hand_with (before ++ word ∷ []))
IsWordRead line before word (Err fault) = HasWordFault line before word fault

-- Two characters were taken for a cell, and these stand behind them; or the first two are none.
abbrev pub IsCellSplit : List ℕ → Option (Option Piece × Bor (List ℕ)) → Type 0
IsCellSplit characters None = cell_of (slice_index characters 0) (slice_index characters 1) ≡ None
IsCellSplit characters (Some split) = (cell_of (slice_index characters 0) (slice_index characters 1) ≡ Some split.0) × (chars split.1.now ≡ drop 2 characters)

-- A row behind so many rows was read: each column is as it must be, and these are its cells; or it
-- has the fault.
abbrev pub IsRowRead : ℕ → List ℕ → Result (List (Option Piece)) KifFault → Type 0
IsRowRead before row (Ok cells) = ((column : ℕ) → 1 ≤ column → column ≤ 10 → is_well row column ≡ true) × ((column : ℕ) → 1 ≤ column → column ≤ 9 → piece_at cells (column - 1) ≡ content_of (cell_in row column))
IsRowRead before row (Err fault) = (column : ℕ) × HasBadColumn row column × (fault ≡ BadCell (before + 1) column)

-- The cells of the next row were put, and nothing else changed.
pub record IsRowPut (old : Diagram) (row : List (Option Piece)) (new : Diagram) : Type 0 where
  pub rows : new.rows ≡ old.rows + 1
  pub size : length new.cells ≡ length old.cells
  pub there : (place : ℕ) → place < 9 → piece_at new.cells (9 * (8 - place) + old.rows) ≡ piece_at row place
  pub elsewhere : (square : ℕ) → square % 9 ≢ old.rows → piece_at new.cells square ≡ piece_at old.cells square
  pub black : new.black ≡ old.black
  pub white : new.white ≡ old.white
  pub side : new.side ≡ old.side

-- One more row was taken: its cells were put; or it has the fault.
abbrev pub IsRowTaken : Diagram → List ℕ → Diagram → Result (Unit {0}) KifFault → Type 0
IsRowTaken old row new (Ok _) = (old.rows < 9) × ((cells : List (Option Piece)) × IsRowRead old.rows row (Ok cells) × IsRowPut old cells new)
IsRowTaken old row new (Err fault) = HasRowFault old.rows row fault

-- What was read from lines without a fault.
pub record IsReadFrom (list : List (List ℕ)) (diagram : Diagram) : Type 0 where
  pub well : HasNone HasLineFault list
  pub rows : diagram.rows ≡ length (rows_of list)
  pub few : diagram.rows ≤ 9
  pub size : length diagram.cells ≡ 81
  pub cells : (number column : ℕ) → number < diagram.rows → 1 ≤ column → column ≤ 9 → piece_at diagram.cells (9 * (9 - column) + number) ≡ content_of (cell_in (slice_index_or (rows_of list) number []) column)
  pub black : diagram.black ≡ hand_of (last_said (hand_said Black) list)
  pub white : diagram.white ≡ hand_of (last_said (hand_said White) list)
  pub side : diagram.side ≡ unwrap_or (last_said turn_said list) Black

-- One more line was read: the lines with it are read; or it has the fault.
abbrev pub IsLineRead : List (List ℕ) → List ℕ → Diagram → Result (Unit {0}) KifFault → Type 0
IsLineRead list line diagram (Ok _) = IsReadFrom (list ++ line ∷ []) diagram
IsLineRead list line diagram (Err fault) = HasLineFault list line fault

-- The lines were read: they have no fault; or this is their first one.
abbrev pub AreLinesRead : List (List ℕ) → Result Diagram KifFault → Type 0
AreLinesRead list (Ok diagram) = IsReadFrom list diagram
AreLinesRead list (Err fault) = HasFirst HasLineFault list fault
