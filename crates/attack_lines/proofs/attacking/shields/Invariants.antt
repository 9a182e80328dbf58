use Rattle.std.proofs.Common.{◌≡◌, ◌<◌, ℕ, true, false}
use Rattle.bit_boards.specs.Mask.{holds, Holds, count}
use Rattle.board_core.specs.Board.{piece_at}
use Rattle.board_core.specs.Sets.{is_of_side}
use Rattle.attack_lines.specs.Lines.{IsShield}
use Rattle.attack_lines.specs.Parts.{KeepsOff}
use Rattle.attack_lines.proofs.attacking.shields.Given as goal

abbrev pub invariant-loop-from : goal.invariant-loop-from
invariant-loop-from l =
    ((from : ℕ) → Holds l.left from → is_of_side l.fn.by (piece_at l.position.cells from) ≡ true)
    × ((s : ℕ) → Holds l.found s → IsShield l.position.cells l.fn.by s l.to.number)
    × ((s from : ℕ) → from < 81 → holds l.left from ≡ false → KeepsOff l.position.cells l.fn.by s from l.to.number → Holds l.found s)

abbrev pub decreases-loop-from : goal.decreases-loop-from
decreases-loop-from l = count l.left
