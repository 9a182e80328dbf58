-- What is written stays plain.
use Rattle.explanations.specs.Shown.{IsPlain}
use Rattle.explanations.proofs.line.append_part.Given as goal

abbrev pub invariant-loop-byte : goal.invariant-loop-byte
invariant-loop-byte l = (goal.iterator-loop-byte).can_next l.byte-iterator × (goal.iterator-loop-byte).is_finite l.byte-iterator × IsPlain l.out.items
