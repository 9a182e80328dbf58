use Rattle.std.proofs.Common.{arith}
use Rattle.shortest_mate.proofs.Escapes.{one_more, listing, none_within}
use Rattle.shortest_mate.proofs.escape.bound_of_escape.Goals as goal

pub loop-position-preserved : goal.loop-position-preserved
loop-position-preserved c =
    one_more c.args.limit c.entries-position-items.result.now c.loop-position.position-index c.loop-position.entries.items c.push.new.self.items c.position-item.result
    c.loop-position-test.true c.position-item.is c.laws-in-loop-position.ensures c.in_ok-push.ensures.items c.loop-position.invariant

pub new-requires : goal.new-requires
new-requires c =
    listing c.args.limit c.args.problem.now.position c.args.escape.now c.entries-position-items.result.now c.loop-position.position-index c.loop-position.entries.items
    c.entries-position-items.ensures.entries c.loop-position-test.false c.loop-position.invariant c.requires.valid c.requires.version c.entries-position-items.ensures.kept c.args.problem.now.accepted c.laws.ensures

pub returns : goal.returns
returns c =
    none_within c.args.limit c.args.problem.now.position c.args.escape.now c.entries-position-items.result.now c.loop-position.position-index c.loop-position.entries.items
    c.entries-position-items.ensures.entries c.loop-position-test.false c.loop-position.invariant c.requires.valid c.requires.version c.entries-position-items.ensures.kept c.args.problem.now.accepted c.laws.ensures
    c.new.result c.new.ensures (let small = c.loop-position.entries.small in let ok = c.loop-position.entries.ok in omega (arith, small, ok))
    c.valid_bound_is_accepted.ensures.shows
