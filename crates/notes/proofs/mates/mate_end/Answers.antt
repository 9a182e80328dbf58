use Rattle.std.proofs.Common.{[], refl}
use Rattle.notes.specs.declared.rule.Rule.TheVariants.{MateEnd}
use Rattle.notes.proofs.Meeting.{met_as}
use Rattle.notes.proofs.mates.mate_end.Goals as goal

pub made-requires-clause-rule : goal.made-requires-clause-rule
made-requires-clause-rule c =
    met_as MateEnd c.args.problem.now.position.side _ c.args.position.now [] _ 1 [] _ c.attacker.ensures c.empty-tag.ensures c.new.ensures.items
    (c.requires.end, refl, refl)
