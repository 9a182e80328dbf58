use Rattle.std.proofs.Common.{sym, subst, ◌∙◌, inl, inr}
use Rattle.std.proofs.lemmas.Bool.{cases_eq, lt-ltb, and_parts, and_from, or_left, or_right, or_cases, both_ways}
use Rattle.bit_boards.specs.Mask.{holds}
use Rattle.attack_lines.specs.Parts.{KeepsOff}
use Rattle.attack_lines.proofs.Shielded.{was_gone, kept_on_line}
use Rattle.attack_lines.proofs.attacking.shields.Goals as goal

pub loop-from-init : goal.loop-from-init
loop-from-init c =
    let cells = c.args.position.now.cells in
    let to = c.args.to.number in (
      (λ f has. sym (c.occupied.ensures f) ∙ (and_parts _ _ (sym (c.and-left.ensures f) ∙ has)).1),
      (λ s has. absurd (both_ways _ (c.empty-found.ensures s) has)),
      (λ s f low gone off.
          let all = kept_on_line c.mask_laws.ensures.steps c.mask_laws.ensures.slides cells c.args.by s f to low c.args.to.on_board off in
          let parts = and_parts _ _ all in
          let more = and_parts _ _ parts.0 in
          let line = c.lines.ensures f ∙ and_from _ _ (lt-ltb f 81 low) more.0 in
          let sliding = c.and.ensures f ∙ and_from _ _ line (c.sliders.ensures f ∙ more.1) in
          absurd (both_ways _ gone (c.and-left.ensures f ∙ and_from _ _ sliding (c.occupied.ensures f ∙ parts.1)))),
    )

pub loop-from-preserved : goal.loop-from-preserved
loop-from-preserved c =
    let cells = c.args.position.now.cells in
    let to = c.args.to.number in
    let known = c.loop-from.invariant in
    let rest = c.in-Some.ensures.rest in
    let at = c.in-Some.from.number in
    let here = c.shield.ensures c.args.by (known.0 at c.in-Some.ensures.found) in (
      (λ f has. known.0 f (and_parts _ _ (sym (rest f) ∙ has)).0),
      (λ s has. elim (or_cases _ _ (sym (c.or-found.ensures s) ∙ has)) [
        | inl before ↦ known.1 s before
        | inr now ↦ let off = (here s).0 now in record { from = at; on_board = c.in-Some.from.on_board; lifted = off.lifted; blocked = off.blocked }
      ]),
      (λ s f low gone off. c.or-found.ensures s ∙ (elim (cases_eq f at) [
        | inl same ↦ or_right _ _ ((here s).1 (subst (λ x. KeepsOff cells c.args.by s x to) same off))
        | inr other ↦ or_left _ _ (known.2 s f low (was_gone (holds c.loop-from.left f) f at other (sym (rest f) ∙ gone)) off)
      ])),
    )
