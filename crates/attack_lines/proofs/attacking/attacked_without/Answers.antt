use Rattle.attack_lines.proofs.Shielded.{none_attacked, attacked_more}
use Rattle.attack_lines.proofs.attacking.attacked_without.Goals as goal

pub loop-from-init : goal.loop-from-init
loop-from-init c =
    none_attacked c.args.position.now.cells c.args.by c.args.lifted.number c.args.squares c.candidates_for-left.result c.empty-found.result
    c.empty-found.ensures c.candidates_for-left.ensures

pub loop-from-preserved : goal.loop-from-preserved
loop-from-preserved c =
    attacked_more c.args.position.now.cells c.args.by c.args.lifted.number c.args.squares c.loop-from.left c.pop_first.new.self c.loop-from.found
    c.attacked_from.result c.or-found.result c.in-Some.from.number c.in-Some.from.on_board (c.mask_laws.ensures.on_board c.args.squares)
    c.in-Some.ensures.rest c.or-found.ensures c.attacked_from.ensures c.loop-from.invariant
