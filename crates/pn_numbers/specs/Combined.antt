-- The numbers of a node from those of its children.
use Rattle.std.specs.Prelude.{◌==◌, ℕ, List, Bool, if◌then◌else◌, min, fold, sum_by}
use Rattle.std.specs.List.{list_any, list_all}
use Rattle.pn_numbers.specs.declared.node.Node.{Node}
use Rattle.pn_numbers.specs.declared.numbers.Numbers.{Numbers}
use Rattle.pn_numbers.specs.declared.numbers.TheConstants.{CAP, INFINITE}
use Rattle.pn_numbers.specs.Node.{minimized_number, summed_number, numbers_with}

-- Whether numbers say that who moves at the node has what he wants: proved for the attacker,
-- disproved for the defender.
abbrev pub is_won : Node → Numbers → Bool
is_won node numbers = minimized_number node numbers == 0

-- Whether numbers say that the other side has what it wants.
abbrev pub is_lost : Node → Numbers → Bool
is_lost node numbers = summed_number node numbers == 0

-- The least of the children's minimized numbers; infinite where there is no child.
abbrev pub least_of : Node → List Numbers → ℕ
least_of node children = fold (λ least child. min least (minimized_number node child)) INFINITE children

-- The sum of the children's summed numbers, at most the cap.
abbrev pub sum_of : Node → List Numbers → ℕ
sum_of node children = min CAP (sum_by (summed_number node) children)

-- The numbers of a node with these children: won where a child is won; else lost where all are;
-- else the least and the sum.
abbrev pub numbers_at : Node → List Numbers → Numbers
numbers_at node children =
    if list_any (is_won node) children then numbers_with node 0 INFINITE
    else (if list_all (is_lost node) children then numbers_with node INFINITE 0
    else numbers_with node (least_of node children) (sum_of node children))
