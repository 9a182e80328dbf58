use Rattle.std.proofs.Common.{◌≡◌, ◌<◌, ℕ, false}
use Rattle.bit_boards.specs.Mask.{holds, count}
use Rattle.shogi_rules.specs.Rules.{AttacksFrom}
use Rattle.shogi_rules.proofs.checking.attacks.Given as goal

abbrev pub invariant-loop-from : goal.invariant-loop-from
invariant-loop-from l = (from : ℕ) → from < 81 → holds l.left from ≡ false → ¬ AttacksFrom l.position.cells l.side from l.to.number

abbrev pub decreases-loop-from : goal.decreases-loop-from
decreases-loop-from l = count l.left
