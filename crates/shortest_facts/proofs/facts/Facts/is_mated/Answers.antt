use Rattle.std.proofs.Common.{ap, refl}
use Rattle.shortest_facts.specs.declared.fact.Fact.{Fact}
use Rattle.shortest_facts.specs.Keys.{known_of}
use Rattle.shortest_facts.proofs.Better.{after_mated}
use Rattle.shortest_facts.proofs.facts.Facts.is_mated.Goals as goal

pub returns-clause-borne_out : goal.returns-clause-borne_out
returns-clause-borne_out c =
    after_mated (known_of c.args.self.now) (known_of c.improve.new.self) c.args.position.now c.args.most (record c.fact-fact.result { most = c.args.most })
    c.improve.ensures.kept c.requires.borne_out c.improve.ensures.better c.requires.turn c.requires.mated (ap (λ (f : Fact). f.least) c.fact-fact.ensures) refl (ap (λ (f : Fact). f.by) c.fact-fact.ensures) c.improve.ensures.outcome
