use Rattle.std.proofs.Common.{ap, refl}
use Rattle.std.specs.Prelude.{Some}
use Rattle.shortest_facts.specs.declared.fact.Fact.{Fact}
use Rattle.shortest_facts.specs.Keys.{known_of}
use Rattle.shortest_facts.proofs.Better.{after_holds_out}
use Rattle.shortest_facts.proofs.facts.Facts.holds_out.Goals as goal

pub returns-clause-borne_out : goal.returns-clause-borne_out
returns-clause-borne_out c =
    after_holds_out (known_of c.args.self.now) (known_of c.improve.new.self) c.args.position.now c.args.evasion c.args.least (record c.fact-fact.result { least = c.args.least; by = Some c.args.evasion })
    c.improve.ensures.kept c.requires.borne_out c.improve.ensures.better c.requires.is_evasion c.requires.long refl (ap (λ (f : Fact). f.most) c.fact-fact.ensures) refl c.improve.ensures.outcome
