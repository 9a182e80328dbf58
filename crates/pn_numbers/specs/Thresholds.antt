-- Up to which numbers a child is visited.
use Rattle.std.specs.Prelude.{◌+◌, ◌-◌, ◌/◌, ℕ, nat_le, if◌then◌else◌, min, max}
use Rattle.pn_numbers.specs.declared.node.Node.{Node}
use Rattle.pn_numbers.specs.declared.numbers.Numbers.{Numbers}
use Rattle.pn_numbers.specs.declared.numbers.TheConstants.{INFINITE}
use Rattle.pn_numbers.specs.declared.limiting.TheConstants.{SLACK}
use Rattle.pn_numbers.specs.Node.{minimized_number, summed_number, numbers_with}

-- Until the child is above the second best by more than an eighth of it, but no longer than its
-- node is visited.
abbrev pub minimized_threshold : ℕ → ℕ → ℕ
minimized_threshold limit second = min limit (second + 1 + second / SLACK)

-- Until the sum that the child is a part of comes to its node's threshold: the child may grow by
-- what the node may.
abbrev pub summed_threshold : ℕ → ℕ → ℕ → ℕ
summed_threshold limit own child = if nat_le INFINITE limit then INFINITE else limit + child - own

-- The threshold, but above the child's own number, so that it is visited at all, and at most
-- infinite.
abbrev pub bounded : ℕ → ℕ → ℕ
bounded threshold child = min INFINITE (max threshold (child + 1))

-- The thresholds of a child's visit, from those of its node, the node's own numbers, the child's,
-- and the second best selecting number.
abbrev pub thresholds_of : Node → Numbers → Numbers → Numbers → ℕ → Numbers
thresholds_of node limits own child second =
    numbers_with node
    (bounded (minimized_threshold (minimized_number node limits) second) (minimized_number node child))
    (bounded (summed_threshold (summed_number node limits) (summed_number node own) (summed_number node child)) (summed_number node child))
