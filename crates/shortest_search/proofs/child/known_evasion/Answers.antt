use Rattle.std.proofs.Common.{refl}
use Rattle.shortest_facts.specs.Keys.{known_of}
use Rattle.shortest_search.proofs.Knowing.{evasion_known}
use Rattle.shortest_search.proofs.child.known_evasion.Goals as goal

pub returns-clause-known : goal.returns-clause-known
returns-clause-known c =
    evasion_known (known_of c.args.facts.now) c.args.position.now c.apply-next.result c.args.by c.fact-fact.result _ c.args.problem.now.position.side
    c.requires.same c.requires.evasion c.apply-next.ensures.position c.fact-fact.ensures refl refl c.in_ok-least.ensures
