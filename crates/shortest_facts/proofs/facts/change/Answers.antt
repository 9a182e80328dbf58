use Rattle.shortest_facts.proofs.Changing.{changed}
use Rattle.shortest_facts.proofs.facts.change.Goals as goal

pub returns-clause-changed : goal.returns-clause-changed
returns-clause-changed c = λ attacker.
    changed c.args.by_key.now c.insert.new.self c.key.result c.args.fact c.in_ok-insert.ensures.updates attacker c.args.position.now c.key.ensures.kept c.key.ensures.words
