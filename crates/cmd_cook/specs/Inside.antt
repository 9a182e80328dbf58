-- What the private functions of this crate say of one another; no public clause cites these.
use Rattle.std.specs.Prelude.{◌≡◌, ℕ, List, Option, Some, None, Vec}
use Rattle.std.specs.Global.{Global}
use Rattle.board_core.specs.declared.moves.Move.{Move}
use Rattle.board_core.specs.Board.{Board}
use Rattle.cook_line.specs.declared.ends.LineEnd.{LineEnd}
use Rattle.cook_line.specs.declared.ends.LineEnd.TheVariants.{BadMove, NoMemory}
use Rattle.cook_line.specs.Moves.{HasBadMove, SaysLine}

-- The moves of the line that the words give were read, where they give one.
abbrev pub IsLineRead : Option (List ℕ) → Board → Option (Vec Move Global) → Type 0
IsLineRead None problem None = Unit {0}
IsLineRead None problem (Some moves) = ⊥
IsLineRead (Some text) problem None = ⊥
IsLineRead (Some text) problem (Some moves) = SaysLine problem text moves.items

-- Why they weren't: the words give a line with a part that is no move; or memory was wanted.
abbrev pub IsLineUnread : Option (List ℕ) → Board → LineEnd → Type 0
IsLineUnread line problem (BadMove number) = (text : List ℕ) × (line ≡ Some text) × HasBadMove problem text number
IsLineUnread line problem NoMemory = Unit {0}
