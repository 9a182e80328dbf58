use Rattle.std.proofs.Common.{◌≡◌, take, Contains}
use Rattle.board_core.specs.Board.{Board}
use Rattle.board_core.specs.Kept.{IsKept}
use Rattle.cert_extract.proofs.known.copied_positions.Given as goal

abbrev pub invariant-loop-position : goal.invariant-loop-position
invariant-loop-position l = (l.copy.items ≡ take l.position-index l.positions) × ((b : Board) → Contains l.copy.items b → IsKept b)
