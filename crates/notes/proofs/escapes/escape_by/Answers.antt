use Rattle.std.proofs.Common.{◌∷◌, [], refl, ◌∙◌}
use Rattle.notes.specs.declared.rule.Rule.TheVariants.{EscapeBy}
use Rattle.notes.specs.Derivation.{tag_of}
use Rattle.notes.proofs.Meeting.{met_as}
use Rattle.notes.proofs.escapes.escape_by.Goals as goal

pub made-requires-clause-rule : goal.made-requires-clause-rule
made-requires-clause-rule c =
    met_as (EscapeBy c.args.evasion) c.args.problem.now.position.side _ c.args.position.now (tag_of c.args.note.now) _ c.in_ok-height.height (c.args.note.now ∷ []) _ c.attacker.ensures (c.in_ok-tag.ensures.same ∙ c.tag.ensures) (c.in_ok-under.ensures.notes ∙ c.from_ref-notes.ensures.value)
    (c.requires.evasion, (record { note = c.args.note.now; alone = refl; says = c.requires.escape }, refl))
