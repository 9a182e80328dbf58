use Rattle.std.proofs.Common.{◌∙◌, ℕ, List, ap, subst}
use Rattle.cook_line.specs.Inside.{parts_in}
use Rattle.cook_line.proofs.Reading.{IsReadTo, read_all, read_more}
use Rattle.cook_line.proofs.line.read_line.Goals as goal

pub loop-rest-preserved : goal.loop-rest-preserved
loop-rest-preserved c =
    read_more c.args.problem.now.position c.args.text.now c.loop-rest.position c.apply-position.result c.loop-rest.moves.items c.push.new.self.items
    (parts_in c.loop-rest.rest) (parts_in c.cut.result.1) c.cut.result.0.now c.in-Some-move_on.by c.loop-rest.invariant
    (ap parts_in c.in-Some.is ∙ c.cut.ensures.parts) c.in-Some-move_on.ensures.found c.apply-position.ensures.position c.in_ok-push.ensures.items
    c.apply-position.ensures.quiet

pub returns-clause-line : goal.returns-clause-line
returns-clause-line c =
    read_all c.args.problem.now.position c.args.text.now c.loop-rest.position c.loop-rest.moves.items
    (subst (λ (parts : List (List ℕ)). IsReadTo c.args.problem.now.position c.args.text.now c.loop-rest.position c.loop-rest.moves.items parts)
    (ap parts_in c.in_default.is) c.loop-rest.invariant)
