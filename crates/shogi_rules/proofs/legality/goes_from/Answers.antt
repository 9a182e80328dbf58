use Rattle.std.proofs.Common.{below_more, arith, inl, inr}
use Rattle.shogi_rules.specs.declared.illegal.Illegal.TheVariants.{NotThere}
use Rattle.shogi_rules.proofs.legality.goes_from.Goals as goal

pub returns-then-not-owns : goal.returns-then-not-owns
returns-then-not-owns c = (
  (λ f. absurd (cc)),
  (λ g. elim g.goes.either [
    | inl stands ↦ absurd (stands NotThere (λ own. let t = c.owns.ensures.1 own in cc))
    | inr stands ↦ absurd (stands NotThere (λ own. let t = c.owns.ensures.1 own in cc))
  ]),
)

pub loop-number-preserved : goal.loop-number-preserved
loop-number-preserved c = below_more _ _ c.loop-number.invariant (λ w. let t = c.goes_to.ensures.1 w in cc)

pub returns : goal.returns
returns c = ((λ f. absurd (cc)), (λ g. absurd (c.loop-number.invariant g.to (omega (arith, g.on_board)) g.goes)))
