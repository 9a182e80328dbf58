use Rattle.std.proofs.Common.{refl, sym, ◌∙◌, ap, subst}
use Rattle.notes.specs.declared.rule.Rule.TheVariants.{EscapeAll}
use Rattle.notes.specs.Derivation.{Derivation, tag_of, under_of, listed-derivations}
use Rattle.notes.specs.Valid.{JoinsTags}
use Rattle.notes.proofs.Meeting.{met_as}
use Rattle.notes.proofs.escapes.escape_all.Goals as goal

pub made-requires-clause-rule : goal.made-requires-clause-rule
made-requires-clause-rule c =
    met_as EscapeAll c.args.problem.now.position.side _ c.args.position.now c.in_ok-tag.tag _ c.in_ok-height.height c.args.notes.now _ c.attacker.ensures refl c.in_ok-under.ensures.notes
    (c.requires.all, c.in_ok-tag.ensures.joins)

pub returns-clause-tag : goal.returns-clause-tag
returns-clause-tag c = subst (λ (note : Derivation). JoinsTags (tag_of note) c.args.position.now c.args.notes.now) (sym c.in_ok-made.ensures) c.in_ok-tag.ensures.joins

pub returns-clause-under : goal.returns-clause-under
returns-clause-under c = ap under_of c.in_ok-made.ensures ∙ (listed-derivations c.in_ok-under.under.items ∙ c.in_ok-under.ensures.notes)
