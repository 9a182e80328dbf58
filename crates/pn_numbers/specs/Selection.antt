-- Which child is visited next.
use Rattle.std.specs.Prelude.{◌≡◌, ◌≢◌, ◌≤◌, ◌+◌, ◌*◌, ◌-◌, ◌%◌, ◌==◌, ◌&&◌, ◌⊎◌, ℕ, List, Option, Some, None, Bool, nat_lt, if◌then◌else◌, slice_get, count_by, take, option_and_then}
use Rattle.pn_numbers.specs.declared.node.Node.{Node}
use Rattle.pn_numbers.specs.declared.numbers.TheConstants.{INFINITE}
use Rattle.pn_numbers.specs.declared.selecting.Child.{Child}
use Rattle.pn_numbers.specs.declared.selecting.TheConstants.{WEIGHT}
use Rattle.pn_numbers.specs.Node.{minimized_number}

-- The number by which a child is selected: its minimized number, and more for each worker below it.
-- A child of an infinite number has none.
abbrev pub selecting_number : Node → Child → Option ℕ
selecting_number node child =
    if nat_lt (minimized_number node child.numbers) INFINITE then Some (minimized_number node child.numbers + WEIGHT * child.below) else None

-- The selecting number of the child at a place; none where no child is there.
abbrev pub number_at : Node → List Child → ℕ → Option ℕ
number_at node children place = option_and_then (selecting_number node) (slice_get children place)

-- Whether a child has this selecting number.
abbrev pub has_number : Node → ℕ → Child → Bool
has_number node number child =
    nat_lt (minimized_number node child.numbers) INFINITE && (minimized_number node child.numbers + WEIGHT * child.below == number)

-- The least selecting number of the children at other places; infinite where they have none.
pub record IsLeastOfOthers (node : Node) (children : List Child) (place second : ℕ) : Type 0 where
  pub none_less : (other number : ℕ) → other ≢ place → number_at node children other ≡ Some number → second ≤ number
  pub met : ((other : ℕ) × (other ≢ place) × (number_at node children other ≡ Some second))
      ⊎ (((other number : ℕ) → number_at node children other ≡ Some number → other ≡ place) × (second ≡ INFINITE))

-- Of the children with the least selecting number the worker takes the one whose turn it is: worker
-- 1 the first, worker 2 the second, and so on, round and round. Beside it stands the least
-- selecting number of the others.
pub record IsSelected (node : Node) (children : List Child) (worker place second : ℕ) : Type 0 where
  pub least : ℕ
  pub number : number_at node children place ≡ Some least
  pub none_less : (other number : ℕ) → number_at node children other ≡ Some number → least ≤ number
  pub turn : count_by (has_number node least) (take place children) ≡ (worker - 1) % count_by (has_number node least) children
  pub others : IsLeastOfOthers node children place second
