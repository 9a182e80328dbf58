use Rattle.std.proofs.Common.{◌+◌, ◌*◌}
use Rattle.bit_boards.specs.Kind.{other}
use Rattle.board_core.specs.Order.{Lists}
use Rattle.evasions.specs.Before.{IsEvasionBefore}
use Rattle.evasions.proofs.listing.add_drops.Given as goal

abbrev pub invariant-loop-kind : goal.invariant-loop-kind
invariant-loop-kind l = Lists (IsEvasionBefore (other l.position.side) l.position (13122 + 81 * l.kind-index)) l.moves
