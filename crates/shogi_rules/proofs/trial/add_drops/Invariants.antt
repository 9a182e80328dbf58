use Rattle.std.proofs.Common.{◌+◌, ◌*◌}
use Rattle.bit_boards.specs.Kind.{place_of}
use Rattle.board_core.specs.Order.{Lists}
use Rattle.shogi_rules.specs.Trial.{IsWantedBefore}
use Rattle.shogi_rules.proofs.trial.add_drops.Given as goal

abbrev pub invariant-loop-number : goal.invariant-loop-number
invariant-loop-number l = Lists (IsWantedBefore l.wanted l.problem.position.side l.position (13122 + 81 * place_of l.kind + l.number)) l.moves.items
