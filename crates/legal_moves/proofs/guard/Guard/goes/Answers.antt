use Rattle.legal_moves.proofs.Stepping.{leaves_for, goes_of, goes_none}
use Rattle.legal_moves.proofs.guard.Guard.goes.Goals as goal

pub safe-requires-clause-leaves : goal.safe-requires-clause-leaves
safe-requires-clause-leaves c =
    leaves_for c.args.position.now c.args.from.number c.args.piece c.reached.result c.occupied.result c.minus.result c.args.wanted c.and-to.result
    c.requires.there c.requires.own c.occupied.ensures c.minus.ensures c.and-to.ensures

pub returns-then-is_empty : goal.returns-then-is_empty
returns-then-is_empty c =
    goes_none c.args.position.now c.args.from.number c.args.piece c.reached.result c.occupied.result c.minus.result c.args.wanted c.and-to.result
    c.requires.own c.reached.ensures c.occupied.ensures c.minus.ensures c.and-to.ensures (c.is_empty.ensures.none.0 c.if-is_empty.true)

pub returns : goal.returns
returns c =
    goes_of c.args.position.now c.args.from.number c.args.piece c.reached.result c.occupied.result c.minus.result c.args.wanted c.and-to.result c.safe.result
    c.mask_laws.ensures.on_board c.requires.own c.reached.ensures c.occupied.ensures c.minus.ensures c.and-to.ensures c.safe.ensures
