use Rattle.std.proofs.Common.{◌<◌, ◌+◌, ◌*◌, ℕ, Contains}
use Rattle.bit_boards.specs.Mask.{Holds, count}
use Rattle.board_core.specs.declared.moves.Move.{Move}
use Rattle.board_core.specs.Order.{order_of}
use Rattle.list_laws.specs.Added.{GoesFrom, Adds}
use Rattle.move_lists.proofs.Adding.{IsDone}
use Rattle.move_lists.proofs.moves.Moves.add_board.Given as goal

abbrev pub invariant-loop-to : goal.invariant-loop-to
invariant-loop-to l = Adds (IsDone (GoesFrom l.from l.plain l.promoted) l.left) l.fn.self l.self
    × ((m : Move) (t : ℕ) → Contains l.self m → Holds l.left t → order_of m < 162 * l.from.number + 2 * t)

abbrev pub decreases-loop-to : goal.decreases-loop-to
decreases-loop-to l = count l.left
