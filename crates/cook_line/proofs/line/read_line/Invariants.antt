use Rattle.std.proofs.Common.{ℕ, ◌+◌, List, length}
use Rattle.std.specs.Prelude.{Option, Some, None}
use denote.Ref.{Bor}
use Rattle.cook_line.specs.Inside.{parts_in}
use Rattle.cook_line.proofs.Reading.{IsReadTo}
use Rattle.cook_line.proofs.line.read_line.Given as goal

-- the parts so far are said
abbrev pub invariant-loop-rest : goal.invariant-loop-rest
invariant-loop-rest l = IsReadTo l.problem.position l.text l.position l.moves.items (parts_in l.rest)

-- how much is left
abbrev left_of : Option (Bor (List ℕ)) → ℕ
left_of None = 0
left_of (Some text) = length text.now + 1

abbrev pub decreases-loop-rest : goal.decreases-loop-rest
decreases-loop-rest l = left_of l.rest
