-- What an input stands for, or its first fault.
use Rattle.std.specs.Prelude.{◌≡◌, ◌<◌, ℕ, List, length, Result, Ok, Err}
use Rattle.std.specs.Str.{IsUtf8}
use Rattle.std.specs.Str.Lossy.{utf8_valid_len}
use Rattle.board_core.specs.Board.{Board}
use Rattle.board_core.specs.Build.{IsBuilt}
use Rattle.kif_text.specs.declared.fault.KifFault.{KifFault}
use Rattle.kif_text.specs.declared.fault.KifFault.TheVariants.{NotUtf8, NoDiagram, BadPosition}
use Rattle.kif_text.specs.First.{HasNone, HasFirst}
use Rattle.kif_text.specs.Lines.{without_mark, header_lines}
use Rattle.kif_text.specs.Header.{rows_of, HasLineFault, Shows}

-- The lines of an input's header.
abbrev pub header_of : List ℕ → List (List ℕ)
header_of input = header_lines (without_mark input)

-- An input spells these cells, hands and side, whether or not they make a position.
pub record Spells (input : List ℕ) (b : Board) : Type 0 where
  pub utf8 : IsUtf8 input
  pub shows : Shows (header_of input) b

-- A line of the input's header has the fault, and no line in front of it has any.
pub record HasFirstLineFault (input : List ℕ) (fault : KifFault) : Type 0 where
  pub utf8 : IsUtf8 input
  pub first : HasFirst HasLineFault (header_of input) fault

-- The input has the fault, and it is its first one.
abbrev pub HasFirstFault : List ℕ → KifFault → Type 0
HasFirstFault input (NotUtf8 at) = (IsUtf8 input → ⊥) × (at ≡ utf8_valid_len input)
HasFirstFault input NoDiagram = IsUtf8 input × HasNone HasLineFault (header_of input) × (length (rows_of (header_of input)) < 9)
HasFirstFault input (BadPosition bad) = (b : Board) × Spells input b × IsBuilt b (Err bad)
HasFirstFault input fault = HasFirstLineFault input fault

-- The outcome to an input: the position that it spells; else its first fault.
abbrev pub IsReadingOutcome : List ℕ → Result Board KifFault → Type 0
IsReadingOutcome input (Ok position) = Spells input position × IsBuilt position (Ok position)
IsReadingOutcome input (Err fault) = HasFirstFault input fault

-- A law: no input has two outcomes, be they positions or first faults.
abbrev pub OneReadingOutcome : Type 0
OneReadingOutcome = (input : List ℕ) (one other : Result Board KifFault) → IsReadingOutcome input one → IsReadingOutcome input other → one ≡ other
