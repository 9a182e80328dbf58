use Rattle.std.proofs.Common.{◌+◌, ◌*◌}
use Rattle.board_core.specs.Order.{Lists}
use Rattle.check_moves.specs.Before.{IsCheckBefore}
use Rattle.check_moves.proofs.listing.add_drop_checks.Given as goal

abbrev pub invariant-loop-kind : goal.invariant-loop-kind
invariant-loop-kind l = Lists (IsCheckBefore l.position.side l.position (13122 + 81 * l.kind-index)) l.moves
