use Rattle.std.proofs.Common.{ap, refl}
use Rattle.std.specs.Prelude.{Some}
use Rattle.shortest_facts.specs.declared.fact.Fact.{Fact}
use Rattle.shortest_facts.specs.Keys.{known_of}
use Rattle.shortest_facts.proofs.Better.{after_mates}
use Rattle.shortest_facts.proofs.facts.Facts.mates.Goals as goal

pub returns-clause-borne_out : goal.returns-clause-borne_out
returns-clause-borne_out c =
    after_mates (known_of c.args.self.now) (known_of c.improve.new.self) c.args.position.now c.args.check c.args.most (record c.fact-fact.result { most = c.args.most; by = Some c.args.check })
    c.improve.ensures.kept c.requires.borne_out c.improve.ensures.better c.requires.some c.requires.is_check c.requires.faster (ap (λ (f : Fact). f.least) c.fact-fact.ensures) refl refl c.improve.ensures.outcome
