-- Hands compared.
use Rattle.std.specs.Prelude.{◌≤◌, ℕ, List}
use Rattle.bit_boards.specs.declared.piece.Kind.{Kind}
use Rattle.board_core.specs.Board.{hand_count}

-- A hand has, kind by kind, at least as many as another. (A hand of seven counts has no king.)
abbrev pub IsAtLeast : List ℕ → List ℕ → Type 0
IsAtLeast hand other = (kind : Kind) → hand_count other kind ≤ hand_count hand kind
