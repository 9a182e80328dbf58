use Rattle.std.proofs.Common.{arith}
use Rattle.shortest_facts.specs.Keys.{known_of}
use Rattle.shortest_lists.proofs.Mates.{followed_more, mate_listed, all_reached}
use Rattle.shortest_lists.proofs.mate.mate_entries.Goals as goal

pub loop-place-preserved : goal.loop-place-preserved
loop-place-preserved c =
    followed_more (known_of c.args.facts.now) c.args.problem.now.position c.args.most c.loop-place.walk c.follow.new.walk c.loop-place.place
    c.loop-place.invariant (omega arith) c.in_ok-follow.ensures.walk c.in_ok-follow.ensures.stand c.in_ok-follow.ensures.followed

pub returns-clause-entries : goal.returns-clause-entries
returns-clause-entries c =
    mate_listed (known_of c.args.facts.now) c.args.problem.now.position c.args.most c.loop-place.place c.loop-place.walk c.requires.same
    c.loop-place.invariant (omega arith)

pub returns-clause-listed : goal.returns-clause-listed
returns-clause-listed c = c.loop-place.invariant.walks.listed

pub returns-clause-all : goal.returns-clause-all
returns-clause-all c position reached =
    all_reached (known_of c.args.facts.now) c.args.problem.now.position c.args.most c.loop-place.place c.loop-place.walk c.loop-place.invariant
    (omega arith) reached.0 position reached.1
