use Rattle.std.proofs.Common.{[], refl}
use Rattle.notes.specs.declared.rule.Rule.TheVariants.{MateAll}
use Rattle.notes.proofs.Meeting.{met_as}
use Rattle.notes.proofs.mates.mate_all.Goals as goal

pub made-requires-clause-rule : goal.made-requires-clause-rule
made-requires-clause-rule c =
    met_as MateAll c.args.problem.now.position.side _ c.args.position.now [] _ c.in_ok-height.height c.args.notes.now _ c.attacker.ensures c.empty-tag.ensures c.in_ok-under.ensures.notes
    (c.requires.all, refl)
