use Rattle.std.proofs.Common.{◌≡◌, ◌⊎◌, sym, subst, ◌∙◌, inl, inr, eq-eqb}
use Rattle.std.proofs.lemmas.Bool.{cases_eq, eqb-true, and_parts, and_from, or_left, or_right, or_cases}
use Rattle.bit_boards.specs.Mask.{holds}
use Rattle.bit_boards.specs.Movement.{IsBetween}
use Rattle.attack_lines.proofs.Shielded.{was_gone}
use Rattle.attack_lines.proofs.attacking.blocks.Goals as goal

pub loop-from-preserved : goal.loop-from-preserved
loop-from-preserved c =
    let known = c.loop-from.invariant in
    let rest = c.in-Some.ensures.rest in
    let at = c.in-Some.from.number in
    let to = c.args.to.number in (
      (λ f has. known.0 f (and_parts _ _ (sym (rest f) ∙ has)).0),
      (λ s has.
          let parts = and_parts _ _ (sym (c.and-blocks.ensures s) ∙ has) in
          let before = known.1 s parts.0 in
          let here : (s ≡ at) ⊎ IsBetween at s to = elim (or_cases _ _ (sym (c.with.ensures s) ∙ parts.1)) [
            | inl between ↦ inr ((c.between.ensures s).0 between)
            | inr same ↦ inl (eqb-true _ _ same)
          ] in (
            before.0,
            λ f attacks gone. elim (cases_eq f at) [
              | inl same ↦ subst (λ x. (s ≡ x) ⊎ IsBetween x s to) (sym same) here
              | inr other ↦ before.1 f attacks (was_gone (holds c.loop-from.left f) f at other (sym (rest f) ∙ gone))
            ],
          )),
      (λ s low all. c.and-blocks.ensures s ∙ and_from _ _ (known.2 s low all) (c.with.ensures s ∙ (elim (all at (known.0 at c.in-Some.ensures.found)) [
        | inl same ↦ or_right _ _ (eq-eqb _ _ same)
        | inr between ↦ or_left _ _ ((c.between.ensures s).1 between)
      ]))),
    )
