use Rattle.std.proofs.Common.{◌<◌, ◌+◌, ◌*◌, ℕ, Contains}
use Rattle.bit_boards.specs.Mask.{Holds, count}
use Rattle.bit_boards.specs.Kind.{place_of}
use Rattle.board_core.specs.declared.moves.Move.{Move}
use Rattle.board_core.specs.Order.{order_of}
use Rattle.list_laws.specs.Added.{IsDropOn, Adds}
use Rattle.move_lists.proofs.Adding.{IsDone}
use Rattle.move_lists.proofs.moves.Moves.add_drops.Given as goal

abbrev pub invariant-loop-to : goal.invariant-loop-to
invariant-loop-to l = Adds (IsDone (IsDropOn l.kind l.fn.squares) l.left) l.fn.self l.self
    × ((m : Move) (t : ℕ) → Contains l.self m → Holds l.left t → order_of m < 13122 + 81 * place_of l.kind + t)
    × ((t : ℕ) → Holds l.left t → Holds l.fn.squares t)

abbrev pub decreases-loop-to : goal.decreases-loop-to
decreases-loop-to l = count l.left
