use Rattle.std.proofs.Common.{◌≤◌, ◌<◌, ℕ, List, get_or, subst, arith}
use Rattle.std.specs.Prelude.{slice_index}
use Rattle.hand_dominance.proofs.Hands.{kind_at}
use Rattle.dominance_places.proofs.hands.is_at_least.Goals as goal

pub returns-then-one-place : goal.returns-then-one-place
returns-then-one-place c = (
  (λ e. absurd cc),
  (λ all.
      let kind = kind_at c.loop-place.place (omega arith) in
      let few = subst (λ (k : ℕ). slice_index c.args.other k ≤ slice_index c.args.hand k) kind.1 (all kind.0) in
      let less = subst (λ (xs : List ℕ). get_or xs c.loop-place.place 0 < get_or c.counts-two.result c.loop-place.place 0) c.counts-one.ensures.counts c.if-one-place.true in
      let less = subst (λ (xs : List ℕ). get_or c.args.hand c.loop-place.place 0 < get_or xs c.loop-place.place 0) c.counts-two.ensures.counts less in
      absurd (omega (arith, few, less))),
)
