use Rattle.std.proofs.Common.{arith}
use Rattle.shortest_facts.specs.Keys.{known_of}
use Rattle.shortest_lists.proofs.Bounds.{held_more, bound_listed, valid_listed}
use Rattle.shortest_lists.proofs.bound.bound_entries.Goals as goal

pub loop-place-preserved : goal.loop-place-preserved
loop-place-preserved c =
    held_more (known_of c.args.facts.now) c.args.problem.now.position c.args.most c.args.within c.loop-place.walk c.hold.new.walk c.loop-place.place
    c.loop-place.invariant (omega arith) c.in_ok-hold.ensures.walk c.in_ok-hold.ensures.stand c.in_ok-hold.ensures.held

pub returns-clause-entries : goal.returns-clause-entries
returns-clause-entries c =
    bound_listed (known_of c.args.facts.now) c.args.problem.now.position c.args.most c.loop-place.place c.loop-place.walk c.loop-place.invariant.walks

pub returns-clause-valid : goal.returns-clause-valid
returns-clause-valid c =
    valid_listed (known_of c.args.facts.now) c.args.problem.now.position c.args.most c.args.within c.loop-place.place c.loop-place.walk c.requires.same
    c.loop-place.invariant (omega arith)

pub returns-clause-reached : goal.returns-clause-reached
returns-clause-reached c entry there = (c.loop-place.invariant.walks.listed entry there).reached
