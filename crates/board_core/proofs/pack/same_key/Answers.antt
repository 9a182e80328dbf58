use Rattle.std.proofs.Common.{◌≡◌, ℕ, List, true, sym, subst, ap, ◌∙◌, eqb-true}
use Rattle.std.specs.Prelude.{nat_eq}
use Rattle.std.proofs.lemmas.Cmp.{lists_equiv, nat_eq_equiv}
use lib.Pointwise.{pointwise}
use Rattle.board_core.specs.Key.{key_of}
use Rattle.board_core.proofs.Same.{list_same-exact}
use Rattle.board_core.proofs.pack.same_key.Goals as goal

same_words : (xs ys : List ℕ) → xs ≡ ys → pointwise nat_eq xs ys ≡ true
same_words xs ys e = subst (λ (zs : List ℕ). pointwise nat_eq xs zs ≡ true) e (let equal = lists_equiv nat_eq_equiv in equal.refl xs)

pub returns : goal.returns
returns c = (
  (λ t. c.key-2.ensures.injective c.args.one.now c.key.ensures.kept
      (sym c.key.ensures.words ∙ list_same-exact nat_eq eqb-true c.key.result.0 c.key-2.result.0 (sym c.eq.ensures ∙ t))),
  (λ e. c.eq.ensures ∙ same_words c.key.result.0 c.key-2.result.0 (c.key.ensures.words ∙ (ap key_of e ∙ sym c.key-2.ensures.words))),
)
