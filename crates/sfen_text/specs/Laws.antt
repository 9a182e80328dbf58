-- Laws about the texts of positions.
use Rattle.std.specs.Prelude.{◌≡◌, ◌<◌, ◌≤◌, ℕ, List, length, Result}
use Rattle.std.specs.List.{AllByRecursion}
use Rattle.board_core.specs.Board.{Board}
use Rattle.board_core.specs.Kept.{IsKept}
use Rattle.sfen_text.specs.declared.fault.TextFault.{TextFault}
use Rattle.sfen_text.specs.Spelling.{sfen_of}
use Rattle.sfen_text.specs.Spells.{Spells}
use Rattle.sfen_text.specs.Faults.{IsReadingOutcome}

-- A law: no two positions have one text.
abbrev pub PositionTextsApart : Type 0
PositionTextsApart = (a b : Board) → IsKept a → IsKept b → sfen_of a ≡ sfen_of b → a ≡ b

-- A law: each text has a byte.
abbrev pub TextsHaveBytes : Type 0
TextsHaveBytes = (b : Board) → 0 < length (sfen_of b)

-- A law: each text is one line; each of its bytes is a space or comes after it.
abbrev pub TextsAreLines : Type 0
TextsAreLines = (b : Board) → IsKept b → AllByRecursion (λ byte. 32 ≤ byte) (sfen_of b)

-- A law: no input spells two positions.
abbrev pub OnePositionSpelled : Type 0
OnePositionSpelled = (input : List ℕ) (a b : Board) → IsKept a → IsKept b → Spells input a → Spells input b → a ≡ b

-- A law: no input has two outcomes, be they positions or first faults.
abbrev pub OneReadingOutcome : Type 0
OneReadingOutcome = (input : List ℕ) (one other : Result Board TextFault) → IsReadingOutcome input one → IsReadingOutcome input other → one ≡ other
