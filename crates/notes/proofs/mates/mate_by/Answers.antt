use Rattle.std.proofs.Common.{◌∷◌, [], refl, ◌∙◌}
use Rattle.notes.specs.declared.rule.Rule.TheVariants.{MateBy}
use Rattle.notes.proofs.Meeting.{met_as}
use Rattle.notes.proofs.mates.mate_by.Goals as goal

pub made-requires-clause-rule : goal.made-requires-clause-rule
made-requires-clause-rule c =
    met_as (MateBy c.args.check) c.args.problem.now.position.side _ c.args.position.now [] _ c.in_ok-height.height (c.args.note.now ∷ []) _ c.attacker.ensures c.empty-tag.ensures (c.in_ok-under.ensures.notes ∙ c.from_ref-notes.ensures.value)
    (c.requires.check, record { note = c.args.note.now; alone = refl; says = c.requires.mate }, refl)
