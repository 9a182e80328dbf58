use Rattle.std.proofs.Common.{true, false, sym, refl}
use Rattle.shogi_rules.specs.Rules.{landed_piece}
use Rattle.board_laws.proofs.Truth.{or_false}
use Rattle.check_moves.proofs.Meaning.{stands_quiet, board_checks_are, reached_alike, promotable}
use Rattle.check_moves.proofs.aim.Aim.piece_checks.Goals as goal

pub returns-clause-plain : goal.returns-clause-plain
returns-clause-plain c = λ to.
    let b = c.args.position.now in
    let king = c.args.self.now.sight.square in
    let piece = c.args.piece in
    let q = stands_quiet b king.number c.laws.ensures c.requires.quiet king.on_board c.requires.aim.king c.requires.aim.only in
    board_checks_are c.mask_laws.ensures.steps c.legal_laws.ensures.board b king.number q c.args.from to false piece c.requires.there
    c.board_moves.result.plain c.or.result c.opened-opened.result c.reached_from.result
    (c.board_moves.ensures.plain to.number) (c.or.ensures to.number) (λ free. c.opened-opened.ensures to.number to.on_board free)
    (λ legal. reached_alike b.cells c.reached_from.result piece (landed_piece false piece) to.number king.number refl (sym (or_false piece.promoted)) refl
    (c.reached_from.ensures b.cells c.requires.aim.sight to.number))

pub returns-clause-promoted : goal.returns-clause-promoted
returns-clause-promoted c = λ to.
    let b = c.args.position.now in
    let king = c.args.self.now.sight.square in
    let piece = c.args.piece in
    let q = stands_quiet b king.number c.laws.ensures c.requires.quiet king.on_board c.requires.aim.king c.requires.aim.only in
    board_checks_are c.mask_laws.ensures.steps c.legal_laws.ensures.board b king.number q c.args.from to true piece c.requires.there
    c.board_moves.result.promoted c.or-2.result c.opened-opened.result c.promoted_aims.result
    (c.board_moves.ensures.promoted to.number) (c.or-2.ensures to.number) (λ free. c.opened-opened.ensures to.number to.on_board free)
    (λ legal. let can = promotable c.legal_laws.ensures.board b c.args.from.number to.number piece c.requires.there legal in
    c.promoted_aims.ensures b.cells c.requires.aim.sight can.0 can.1 to.number)
