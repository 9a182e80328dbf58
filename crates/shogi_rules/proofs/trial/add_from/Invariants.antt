use Rattle.std.proofs.Common.{◌+◌, ◌*◌}
use Rattle.board_core.specs.Order.{Lists}
use Rattle.shogi_rules.specs.Trial.{IsWantedBefore}
use Rattle.shogi_rules.proofs.trial.add_from.Given as goal

abbrev pub invariant-loop-code : goal.invariant-loop-code
invariant-loop-code l = Lists (IsWantedBefore l.wanted l.problem.position.side l.position (162 * l.from.number + l.code)) l.moves.items
