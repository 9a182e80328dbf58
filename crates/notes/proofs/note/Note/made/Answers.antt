use Rattle.std.proofs.Common.{◌≡◌, ◌∙◌, List, ap, refl, sym, subst}
use Rattle.notes.specs.Derivation.{Derivation, derivations, listed, step_among, step_over, listed-derivations, version_by, version_under}
use Rattle.notes.specs.Valid.{IsStep, AreValid, StandsAmong}
use Rattle.notes.specs.Set.{entries_with, positions_with, ranked_with}
use Rattle.notes.specs.declared.note.Node.{Node}
use Rattle.notes.proofs.Among.{stands_alone}
use Rattle.notes.proofs.note.Note.made.Goals as goal

pub invariant_of-result : goal.invariant_of-result
invariant_of-result c =
    subst (λ (n : Node). (AreValid (derivations n.under.items)
    × IsStep (step_among n.rule n.attacker n.position n.tag n.height (ranked_with n.set)) (listed (derivations n.under.items)))
    × (n.version ≡ version_by n.rule (version_under (derivations n.under.items)))
    × StandsAmong n.rule n.attacker n.position (entries_with n.set) (positions_with n.set))
    (sym c.in_ok-new.ensures.ok) (
      (
        c.requires.valid,
        subst (IsStep (step_over c.args.rule c.args.attacker c.args.position.now c.args.tag c.args.height))
            (sym (listed-derivations c.args.under.items)) (record {
              kept = c.laws.ensures;
              play = c.requires.play;
              rule = c.requires.rule;
              rising = c.laws-2.ensures.rises;
              height = c.requires.height;
              low = c.requires.low;
              alone = λ no_leaf. refl;
            }),
      ),
      c.version_over-version.ensures ∙ ap (λ (notes : List Derivation). version_by c.args.rule (version_under (derivations notes))) c.deref.ensures.value,
      stands_alone c.args.rule c.args.attacker c.args.position.now c.requires.no_leaf,
    )
