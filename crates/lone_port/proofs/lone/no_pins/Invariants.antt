use Rattle.std.proofs.Common.{◌≡◌, ◌≤◌, ◌-◌, length, replicate}
use Rattle.lone_port.proofs.lone.no_pins.Given as goal

-- no visit is below a slot of the rows so far
abbrev pub invariant-loop-pins : goal.invariant-loop-pins
invariant-loop-pins l = (l.pins.items ≡ replicate (length l.pins.items) (replicate 8 0)) × (length l.pins.items ≤ l.rows)

abbrev pub decreases-loop-pins : goal.decreases-loop-pins
decreases-loop-pins l = l.rows - length l.pins.items
