use Rattle.std.proofs.Common.{refl, arith}
use Rattle.shortest_facts.specs.Keys.{known_of}
use Rattle.shortest_search.proofs.Knowing.{check_known}
use Rattle.shortest_search.proofs.child.known_check.Goals as goal

pub returns-clause-known : goal.returns-clause-known
returns-clause-known c =
    check_known (known_of c.args.facts.now) c.args.position.now c.apply-next.result c.args.by c.fact-fact.result _ c.args.problem.now.position.side
    c.requires.borne_out c.laws.ensures c.requires.same c.requires.check c.apply-next.ensures.position c.fact-fact.ensures refl
    (λ more. let h = c.max.ensures in omega arith) c.in_ok-most_after.ensures
