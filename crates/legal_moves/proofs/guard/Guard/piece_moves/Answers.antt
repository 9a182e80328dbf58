use Rattle.std.proofs.Common.{true, false}
use Rattle.legal_moves.proofs.Masked.{from_first, from_second}
use Rattle.legal_moves.proofs.Stepping.{plain_moves, promoted_moves, no_moves}
use Rattle.legal_moves.proofs.guard.Guard.piece_moves.Goals as goal

pub returns-then-is_empty-clause-plain : goal.returns-then-is_empty-clause-plain
returns-then-is_empty-clause-plain c = λ to.
    no_moves c.mask_laws.ensures.on_board c.legal_laws.ensures.board c.args.position.now c.args.from.number c.args.piece c.args.wanted.plain
    c.or.result c.goes-safe.result c.requires.there (λ s has. from_first _ _ _ (c.or.ensures s) has) c.goes-safe.ensures
    (c.is_empty.ensures.none.0 c.if-is_empty.true) to false

pub returns-then-is_empty-clause-promoted : goal.returns-then-is_empty-clause-promoted
returns-then-is_empty-clause-promoted c = λ to.
    no_moves c.mask_laws.ensures.on_board c.legal_laws.ensures.board c.args.position.now c.args.from.number c.args.piece c.args.wanted.promoted
    c.or.result c.goes-safe.result c.requires.there (λ s has. from_second _ _ _ (c.or.ensures s) has) c.goes-safe.ensures
    (c.is_empty.ensures.none.0 c.if-is_empty.true) to true

pub returns-clause-plain : goal.returns-clause-plain
returns-clause-plain c =
    plain_moves c.mask_laws.ensures.on_board c.legal_laws.ensures.board c.args.position.now c.args.from.number c.args.piece c.args.wanted.plain
    c.args.wanted.promoted c.dead.result c.minus.result c.or.result c.goes-safe.result c.and.result c.requires.there c.requires.own c.dead.ensures
    c.minus.ensures c.or.ensures c.goes-safe.ensures c.and.ensures

pub returns-clause-promoted : goal.returns-clause-promoted
returns-clause-promoted c =
    promoted_moves c.mask_laws.ensures.on_board c.legal_laws.ensures.board c.args.position.now c.args.from.number c.args.piece c.args.wanted.plain
    c.args.wanted.promoted c.promotable.result c.and-2.result c.or.result c.goes-safe.result c.and-3.result c.requires.there c.requires.own c.promotable.ensures
    c.and-2.ensures c.or.ensures c.goes-safe.ensures c.and-3.ensures
