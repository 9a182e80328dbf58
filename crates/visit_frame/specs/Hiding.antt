-- The squares on which earlier drops hide later ones: it serves private functions alone.
use Rattle.std.specs.Prelude.{◌≡◌, ◌==◌, ◌&&◌, ℕ, Bool, false, not, List}
use Rattle.std.specs.List.{list_any}
use Rattle.bit_boards.specs.declared.mask.Mask.{Mask}
use Rattle.bit_boards.specs.Mask.{holds}
use Rattle.board_core.specs.declared.moves.Move.{Move}
use Rattle.board_core.specs.declared.moves.Move.TheVariants as moves
use Rattle.visit_log.specs.declared.parts.Child.{Child}
use Rattle.visit_log.specs.Children.{has_note}

-- Whether the move is a drop on the square.
abbrev pub drops_on : ℕ → Move → Bool
drops_on square (moves.Board from to promote) = false
drops_on square (moves.Drop dropped to) = square == to.number

-- Whether the child is a drop on the square, and has no note yet.
abbrev pub is_open_drop : ℕ → Child → Bool
is_open_drop square child = not (has_note child) && drops_on square child.by

-- The set has the squares on which these are drops without a note.
abbrev pub AreOpenDrops : Mask → List Child → Type 0
AreOpenDrops drops children = (square : ℕ) → holds drops square ≡ list_any (is_open_drop square) children
