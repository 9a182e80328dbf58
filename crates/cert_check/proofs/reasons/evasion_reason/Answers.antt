use Rattle.std.proofs.Common.{ℕ, Option, refl, subst}
use Rattle.cert_check.specs.Reached.{IsFoundFor}
use Rattle.cert_check.proofs.Entries.{found_lower, found_not_lower, none_found}
use Rattle.cert_check.proofs.reasons.evasion_reason.Goals as goal

pub returns-in-None : goal.returns-in-None
returns-in-None c = λ version attacker position found. (
  refl,
  none_found version c.args.entries.now attacker position
      (subst (λ (o : Option ℕ). IsFoundFor version c.args.entries.now attacker c.args.rank position o) c.in-None.is found),
)

pub returns-then-entries-place : goal.returns-then-entries-place
returns-then-entries-place c = λ version attacker position found.
    found_lower version c.args.entries.now attacker position c.in-Some.place c.args.rank c.index-entries-place.result
    (subst (λ (o : Option ℕ). IsFoundFor version c.args.entries.now attacker c.args.rank position o) c.in-Some.is found)
    c.if-entries-place.true

pub returns-else-entries-place : goal.returns-else-entries-place
returns-else-entries-place c = λ version attacker position found. (
  refl,
  found_not_lower version c.args.entries.now attacker position c.in-Some.place c.args.rank c.index-entries-place.result
      (subst (λ (o : Option ℕ). IsFoundFor version c.args.entries.now attacker c.args.rank position o) c.in-Some.is found)
      c.if-entries-place.false,
)
