use Rattle.std.proofs.Common.{◌<◌, ◌≤◌, ◌+◌}
use Rattle.bit_boards.specs.declared.piece.Kind.{Kind}
use Rattle.bit_boards.specs.Kind.{place_of, total_of}
use Rattle.board_core.specs.Board.{hand_count}
use Rattle.board_core.proofs.build.first_too_many.Given as goal

abbrev pub invariant-loop-kind : goal.invariant-loop-kind
invariant-loop-kind l = (k : Kind) → place_of k < l.kind-index
    → hand_count l.standing k + hand_count l.black k + hand_count l.white k ≤ total_of k
