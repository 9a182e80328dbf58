use Rattle.std.proofs.Common.{◌≡◌, ◌≢◌, ◌⊎◌, ◌↔◌, ◌++◌, [], ◌∷◌, List, Contains, ap, sym, subst, ◌∙◌}
use Rattle.board_core.specs.declared.keys.Key.{Key}
use Rattle.path_tags.specs.Tag.{IsRising, joined, without, joined_without}
use Rattle.path_tags.proofs.Joining.{taken, left_out, all_taken, never_empty, joined_holds, joined_without_rises}
use Rattle.path_tags.proofs.tag.Tag.add_without.Goals.{then-ne+in_ok-push, else-ne}
use Rattle.path_tags.proofs.tag.Tag.add_without.Goals as goal

pub loop-first-preserved : goal.loop-first-preserved
loop-first-preserved c =
    let key = c.args.key.now in
    let first = c.in-Some.first in
    let done : List Key = c.loop-first.keys.items in
    let rest = joined first.ours.now first.theirs.now in
    let kept : c.if-ne.keys.items ++ without key rest ≡ done ++ without key (first.key ∷ rest) =
    elim c.if-ne.branch [
      | then-ne+in_ok-push w ↦
          let longer : c.if-ne.keys.items ≡ done ++ first.key ∷ [] = cc (w.keys-is, w.in_ok-push.ensures.items) in
          ap (λ (ks : List Key). ks ++ without key rest) longer ∙ taken done rest key first.key c.ne.result c.ne.ensures w.if-ne.true
      | else-ne w ↦
          let same : c.if-ne.keys.items ≡ done = cc (w.keys-is) in
          ap (λ (ks : List Key). ks ++ without key rest) same ∙ left_out done rest key first.key c.ne.result c.ne.ensures w.if-ne.false
    ] in (
      kept ∙ (ap (λ (ks : List Key). done ++ without key ks) (sym c.in-Some.ensures.first) ∙ c.loop-first.invariant.0),
      c.in-Some.ensures.ours_rise,
      c.in-Some.ensures.theirs_rise,
    )

pub invariant_of-self : goal.invariant_of-self
invariant_of-self c =
    let key = c.args.key.now in
    let self = c.args.self.now in
    let whole = all_taken c.loop-first.keys.items (joined c.loop-first.ours.now c.loop-first.theirs.now) (joined_without key self c.args.other.now) key
    c.loop-first.invariant.0 c.in_default.ensures.none in
    subst IsRising (sym whole) (joined_without_rises key self c.args.other.now (subst IsRising c.self.view_is c.self.invariant))

pub returns-clause-holds : goal.returns-clause-holds
returns-clause-holds c =
    let key = c.args.key.now in
    let self = c.args.self.now in
    let other = c.args.other.now in
    let whole = all_taken c.loop-first.keys.items (joined c.loop-first.ours.now c.loop-first.theirs.now) (joined_without key self other) key
    c.loop-first.invariant.0 c.in_default.ensures.none in
    λ each. subst (λ (ks : List Key). Contains ks each ↔ ((Contains self each ⊎ Contains other each) × (each ≢ key))) (sym whole) (joined_holds key self other each)

pub returns-clause-rises : goal.returns-clause-rises
returns-clause-rises c =
    let key = c.args.key.now in
    let self = c.args.self.now in
    let whole = all_taken c.loop-first.keys.items (joined c.loop-first.ours.now c.loop-first.theirs.now) (joined_without key self c.args.other.now) key
    c.loop-first.invariant.0 c.in_default.ensures.none in
    subst IsRising (sym whole) (joined_without_rises key self c.args.other.now (subst IsRising c.self.view_is c.self.invariant))

-- where a key was to be kept, what comes out has it
pub returns-in_err-push-clause-free : goal.returns-in_err-push-clause-free
returns-in_err-push-clause-free c =
    let key = c.args.key.now in
    let first = c.in-Some.first in
    let done : List Key = c.loop-first.keys.items in
    let rest = joined first.ours.now first.theirs.now in
    λ (empty : joined_without key c.args.self.now c.args.other.now ≡ []). absurd (never_empty done (without key rest) first.key
    (taken done rest key first.key c.ne.result c.ne.ensures c.if-ne.true
    ∙ (ap (λ (ks : List Key). done ++ without key ks) (sym c.in-Some.ensures.first) ∙ (c.loop-first.invariant.0 ∙ empty))))
