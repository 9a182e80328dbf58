use Rattle.std.proofs.Common.{List, Contains, subst}
use Rattle.mate_facts.specs.declared.entry.MateEntry.{MateEntry}
use Rattle.shortest_mate.proofs.learning.learn.Goals as goal

pub learn_entry-requires-clause-quiet : goal.learn_entry-requires-clause-quiet
learn_entry-requires-clause-quiet c =
    let there = subst (λ (es : List MateEntry). Contains es c.in-Some.entry.now) c.entries-entries.ensures.entries c.in-Some.ensures in
    (c.entries-entries.ensures.kept.listed c.in-Some.entry.now there).is_entry.is_problem.quiet

pub learn_entry-requires-clause-check : goal.learn_entry-requires-clause-check
learn_entry-requires-clause-check c =
    let there = subst (λ (es : List MateEntry). Contains es c.in-Some.entry.now) c.entries-entries.ensures.entries c.in-Some.ensures in
    (c.requires.valid.entries c.in-Some.entry.now there).check
