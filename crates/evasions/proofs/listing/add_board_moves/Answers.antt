use Rattle.std.proofs.Common.{List, true, false, sym, subst, ◌∙◌}
use Rattle.bit_boards.specs.Mask.{holds}
use Rattle.board_core.specs.declared.moves.Move.{Move}
use Rattle.list_laws.proofs.Filling.{Fills, FromOwn, fills_none, fills_to, fills_more, fills_all}
use Rattle.list_laws.proofs.Adding.{lists_from, taken_out, stays_in}
use Rattle.evasions.proofs.Evading.{Evasion, board_exact, evasion_from}
use Rattle.evasions.proofs.listing.add_board_moves.Goals as goal

pub loop-from-init : goal.loop-from-init
loop-from-init c =
    let own = holds c.movers-left.result in
    let P = Evasion c.args.position.now in
    subst (λ (xs : List Move). Fills P own own xs) (sym c.requires.empty) (fills_none P own)

pub loop-from-preserved : goal.loop-from-preserved
loop-from-preserved c =
    let b = c.args.position.now in
    let P = Evasion b in
    let from = c.in-Some.from in
    let popped = c.in-Some.ensures in
    let own : FromOwn P (holds c.movers-left.result) = evasion_from b c.movers-left.result c.movers-left.ensures.all in
    let before = fills_to c.order_laws.ensures.origins P (holds c.movers-left.result) (holds c.loop-from.left) c.loop-from.moves from.number
    own from.on_board popped.found popped.least c.loop-from.invariant in
    fills_more P (holds c.movers-left.result) (holds c.loop-from.left) (holds c.pop_first.new.self) c.loop-from.moves c.add_board.new.self from.number
    from.on_board popped.found popped.least
    (λ t has. taken_out _ _ t from.number (popped.rest t) has)
    (λ t has apart. stays_in _ _ t from.number (popped.rest t) has apart)
    c.loop-from.invariant
    (lists_from c.order_laws.ensures.origins c.value_laws.ensures.squares P from c.board_moves-found.result.plain c.board_moves-found.result.promoted
    c.loop-from.moves c.add_board.new.self
    (board_exact b from false c.full.result.plain c.board_moves-found.result.plain c.full.ensures.plain c.board_moves-found.ensures.plain)
    (board_exact b from true c.full.result.promoted c.board_moves-found.result.promoted c.full.ensures.promoted c.board_moves-found.ensures.promoted)
    before c.in_ok-add_board.ensures.added c.in_ok-add_board.ensures.rises)

pub returns : goal.returns
returns c =
    let b = c.args.position.now in
    let P = Evasion b in
    let own : FromOwn P (holds c.movers-left.result) = evasion_from b c.movers-left.result c.movers-left.ensures.all in
    fills_all c.order_laws.ensures.origins P (holds c.movers-left.result) (holds c.loop-from.left) c.loop-from.moves own c.in_default.ensures.none c.loop-from.invariant
