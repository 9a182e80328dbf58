use Rattle.std.proofs.Common.{◌≡◌, ◌<◌, ℕ, false}
use Rattle.bit_boards.specs.Mask.{holds, Holds, count}
use Rattle.attack_lines.specs.Lines.{AttacksOver}
use Rattle.attack_lines.proofs.attacking.attackers_over.Given as goal

abbrev pub invariant-loop-from : goal.invariant-loop-from
invariant-loop-from l =
    ((from : ℕ) → Holds l.found from → (from < 81) × AttacksOver (holds l.occupied) l.position.cells l.by from l.to.number)
    × ((from : ℕ) → from < 81 → holds l.left from ≡ false → AttacksOver (holds l.occupied) l.position.cells l.by from l.to.number → Holds l.found from)

abbrev pub decreases-loop-from : goal.decreases-loop-from
decreases-loop-from l = count l.left
