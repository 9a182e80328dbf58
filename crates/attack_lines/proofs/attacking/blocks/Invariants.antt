use Rattle.std.proofs.Common.{◌≡◌, ◌<◌, ◌⊎◌, ℕ, false}
use Rattle.bit_boards.specs.Mask.{holds, Holds, count}
use Rattle.bit_boards.specs.Movement.{IsBetween}
use Rattle.attack_lines.specs.Lines.{StopsAll}
use Rattle.attack_lines.proofs.attacking.blocks.Given as goal

abbrev pub invariant-loop-from : goal.invariant-loop-from
invariant-loop-from l =
    ((from : ℕ) → Holds l.left from → Holds l.fn.attackers from)
    × ((s : ℕ) → Holds l.blocks s → (s < 81) × ((from : ℕ) → Holds l.fn.attackers from → holds l.left from ≡ false → (s ≡ from) ⊎ IsBetween from s l.to.number))
    × ((s : ℕ) → s < 81 → StopsAll l.fn.attackers l.to.number s → Holds l.blocks s)

abbrev pub decreases-loop-from : goal.decreases-loop-from
decreases-loop-from l = count l.left
