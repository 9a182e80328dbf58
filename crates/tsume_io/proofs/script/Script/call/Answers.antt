use Rattle.std.proofs.Common.{inl, inr, refl, rules}
use Rattle.tsume_io.proofs.script.Script.call.Goals as goal
use Rattle.tsume_io.proofs.script.Script.call.Goals.{then-refuses-via-then-refuses, then-refuses-via-else-refuses+then-contains}

pub returns-then-refuses-clause-fails : goal.returns-then-refuses-clause-fails
returns-then-refuses-clause-fails c = elim c.then-refuses.branch [
  | then-refuses-via-then-refuses w ↦ (λ _. inr w.if-refuses.true, λ _. refl)
  | then-refuses-via-else-refuses+then-contains w ↦ (λ _. inl (search rules), λ _. refl)
]
