use Rattle.attack_lines.proofs.Shielded.{candidates_more}
use Rattle.attack_lines.proofs.attacking.candidates_for.Goals as goal

pub loop-to-preserved : goal.loop-to-preserved
loop-to-preserved c =
    candidates_more c.args.position.now.cells c.args.by c.args.squares c.loop-to.left c.pop_first.new.self c.loop-to.found c.candidates.result c.or-found.result
    c.in-Some.to.number c.in-Some.ensures.rest c.or-found.ensures c.candidates.ensures c.loop-to.invariant

pub returns : goal.returns
returns c from to low wanted attack = c.loop-to.invariant from to low wanted (c.in_default.ensures.none to) attack
