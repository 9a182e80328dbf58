-- What an unsolved node comes to: it serves private functions alone.
use Rattle.std.specs.Prelude.{◌≡◌, ℕ, true, false, List, IsSome, slice_get}
use Rattle.pn_numbers.specs.declared.node.Node.{Node}
use Rattle.pn_numbers.specs.declared.numbers.Numbers.{Numbers}
use Rattle.pn_numbers.specs.Numbers.{IsOpen}
use Rattle.pn_numbers.specs.Selection.{IsSelected}
use Rattle.visit_log.specs.declared.parts.Child.{Child}
use Rattle.visit_log.specs.Children.{counted, own_numbers, reaches}
use Rattle.visit_frame.specs.declared.reckoning.Reckoned.{Reckoned}
use Rattle.visit_frame.specs.declared.reckoning.Reckoned.TheVariants.{Reached, Chosen}

-- The numbers are the node's own, from 1 to the cap, and have come to a threshold; or they haven't,
-- and the worker selects the child.
abbrev pub IsReckoned : Node → Numbers → ℕ → List Child → Reckoned → Type 0
IsReckoned node limits worker children (Reached own) = (own ≡ own_numbers node children) × (reaches own limits ≡ true) × IsOpen own
IsReckoned node limits worker children (Chosen own place second) = (own ≡ own_numbers node children) × (reaches own limits ≡ false)
    × IsSelected node (counted node children) worker place second × IsSome (slice_get children place)
