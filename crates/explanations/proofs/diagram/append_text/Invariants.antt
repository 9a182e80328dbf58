-- What is written stays readable.
use Rattle.explanations.specs.Shown.{IsReadable}
use Rattle.explanations.proofs.diagram.append_text.Given as goal

abbrev pub invariant-loop-character : goal.invariant-loop-character
invariant-loop-character l = (goal.iterator-loop-character).can_next l.character-iterator × (goal.iterator-loop-character).is_finite l.character-iterator × IsReadable l.out.items
