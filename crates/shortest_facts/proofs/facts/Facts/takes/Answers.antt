use Rattle.std.proofs.Common.{ap, refl, arith}
use Rattle.shortest_facts.specs.declared.fact.Fact.{Fact}
use Rattle.shortest_facts.specs.Keys.{known_of}
use Rattle.shortest_facts.proofs.Better.{after_takes}
use Rattle.shortest_facts.proofs.facts.Facts.takes.Goals as goal

pub returns-clause-borne_out : goal.returns-clause-borne_out
returns-clause-borne_out c =
    after_takes (known_of c.args.self.now) (known_of c.improve.new.self) c.args.position.now c.args.least (record c.fact-fact.result { least = c.args.least })
    c.improve.ensures.kept c.requires.borne_out c.improve.ensures.better c.requires.turn c.requires.evaded c.requires.longer (let h = (ap (λ (f : Fact). f.least) c.fact-fact.ensures) in let n = c.if-least-fact.false in omega arith) refl (ap (λ (f : Fact). f.most) c.fact-fact.ensures) (ap (λ (f : Fact). f.by) c.fact-fact.ensures) c.improve.ensures.outcome
