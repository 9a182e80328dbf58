-- Serves the model of a note, which no public clause names: the notes under a step have fewer
-- steps.
use Rattle.std.proofs.Common.{◌≤◌, ◌+◌, List, [], ◌∷◌, arith}
use denote.Param.Weighed.{most}
use Rattle.notes.specs.Derivation.{Derivation, derivations, steps_of, steps_under}

-- A lemma: no note under a step has as many steps as it and they have.
pub most_le-steps : (notes : List Derivation) → most (λ note. steps_of note + 1) notes ≤ steps_under (derivations notes) + 1
most_le-steps [] = omega arith
most_le-steps (note ∷ notes) = omega (arith, most_le-steps notes)
