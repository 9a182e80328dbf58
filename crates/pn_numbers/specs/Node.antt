-- The two numbers of a node, by what is done with them. A defender's node is an attacker's with
-- proof and disproof numbers in each other's place.
use Rattle.std.specs.Prelude.{ℕ}
use Rattle.pn_numbers.specs.declared.node.Node.{Node}
use Rattle.pn_numbers.specs.declared.node.Node.TheVariants.{Attacker, Defender}
use Rattle.pn_numbers.specs.declared.numbers.Numbers.{Numbers}

-- The number of which a node takes the least of its children's: the proof number where the attacker
-- moves, since one proved child proves his node; the disproof number where the defender moves.
abbrev pub minimized_number : Node → Numbers → ℕ
minimized_number Attacker numbers = numbers.pn
minimized_number Defender numbers = numbers.dn

-- The number of which a node takes the sum of its children's: the disproof number where the
-- attacker moves, since all of his children have to be disproved; the proof number where the
-- defender moves.
abbrev pub summed_number : Node → Numbers → ℕ
summed_number Attacker numbers = numbers.dn
summed_number Defender numbers = numbers.pn

-- The numbers of which these are the minimized and the summed one.
abbrev pub numbers_with : Node → ℕ → ℕ → Numbers
numbers_with Attacker minimized summed = record { pn = minimized; dn = summed }
numbers_with Defender minimized summed = record { pn = summed; dn = minimized }
