-- What has a text in the USI protocol.
use Rattle.std.specs.Prelude.{◌≢◌}
use Rattle.bit_boards.specs.declared.piece.Kind.TheVariants.{King}
use Rattle.board_core.specs.declared.moves.Move.{Move}
use Rattle.board_core.specs.declared.moves.Move.TheVariants as moves

-- The move has a text in the USI protocol: it is no board move to where it began, and no drop of a
-- king.
abbrev pub HasText : Move → Type 0
HasText (moves.Board from to promote) = from.number ≢ to.number
HasText (moves.Drop kind to) = kind ≢ King
