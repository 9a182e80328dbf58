use Rattle.std.proofs.Common.{◌≡◌, true, false, IsSome, subst}
use Rattle.shogi_rules.proofs.checking.in_check.Goals as goal

pub returns-in-None-clause-check : goal.returns-in-None-clause-check
returns-in-None-clause-check c = (
  (λ t. absurd (cc)),
  (λ k. absurd (let no : false ≡ true = subst IsSome c.in-None.is (c.king_square.ensures.standing k.0 k.2.king) in cc)),
)
