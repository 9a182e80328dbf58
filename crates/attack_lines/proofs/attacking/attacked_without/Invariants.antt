use Rattle.std.proofs.Common.{◌≡◌, ◌<◌, ℕ, false}
use Rattle.bit_boards.specs.Mask.{holds, Holds, count}
use Rattle.attack_lines.specs.Lines.{AttacksWithout, IsAttackedWithout}
use Rattle.attack_lines.proofs.attacking.attacked_without.Given as goal

abbrev pub invariant-loop-from : goal.invariant-loop-from
invariant-loop-from l =
    ((to : ℕ) → Holds l.found to → IsAttackedWithout l.position.cells l.by l.lifted.number to)
    × ((from to : ℕ) → from < 81 → holds l.left from ≡ false → Holds l.fn.squares to → AttacksWithout l.position.cells l.by l.lifted.number from to → Holds l.found to)

abbrev pub decreases-loop-from : goal.decreases-loop-from
decreases-loop-from l = count l.left
