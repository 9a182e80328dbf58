use Rattle.std.proofs.Common.{◌+◌, ◌*◌}
use Rattle.board_core.specs.Order.{Lists}
use Rattle.shogi_rules.specs.Trial.{IsWantedBefore}
use Rattle.shogi_rules.proofs.trial.wanted_moves.Given as goal

abbrev pub invariant-loop-number : goal.invariant-loop-number
invariant-loop-number l = Lists (IsWantedBefore l.wanted l.problem.position.side l.position (162 * l.number)) l.moves.items

abbrev pub invariant-loop-kind : goal.invariant-loop-kind
invariant-loop-kind l = Lists (IsWantedBefore l.wanted l.problem.position.side l.position (13122 + 81 * l.kind-index)) l.moves.items
