-- What is written stays plain.
use Rattle.explanations.specs.Shown.{IsPlain}
use Rattle.explanations.proofs.line.append_mark.Given as goal

abbrev pub invariant-loop : goal.invariant-loop
invariant-loop l = IsPlain l.out.items
