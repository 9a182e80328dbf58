use Rattle.std.proofs.Common.{None, nat_lt, if◌then◌else◌}
use Rattle.board_core.specs.Board.{piece_at}
use Rattle.board_core.specs.Sets.{AreSetsOf}
use Rattle.board_core.proofs.sets.Sets.of.Given as goal

abbrev pub invariant-loop-number : goal.invariant-loop-number
invariant-loop-number l = AreSetsOf l.sets (λ s. if nat_lt s l.number then piece_at l.cells s else None)
