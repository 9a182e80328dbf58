-- What a look at a child may tell: it serves private functions alone.
use Rattle.std.specs.Prelude.{◌≡◌, ℕ, List, Some, slice_get}
use Rattle.bit_boards.specs.declared.piece.Side.{Side}
use Rattle.board_core.specs.declared.keys.Key.{Key}
use Rattle.board_core.specs.Board.{Board}
use Rattle.board_core.specs.Key.{key_of}
use Rattle.shogi_rules.specs.Rules.{IsLegal, after}
use Rattle.notes.specs.declared.words.Seen.{Seen}
use Rattle.visit_log.specs.declared.parts.Child.{Child}
use Rattle.visit_log.specs.Round.{MayShow}

-- The child at the place is behind a legal move, its key is that of the position there, and what
-- was told of it may be told.
pub record MayTell (attacker : Side) (b : Board) (children : List Child) (place : ℕ) (seen : Seen) : Type 0 where
  pub child : Child
  pub there : slice_get children place ≡ Some child
  pub legal : IsLegal b child.by
  pub key : child.key.0 ≡ key_of (after b child.by)
  pub path : List Key
  pub may : MayShow attacker child.key path seen
