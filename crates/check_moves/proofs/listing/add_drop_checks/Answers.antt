use Rattle.std.proofs.Common.{◌+◌, ◌*◌, ℕ, arith, ap, sym, ◌∙◌}
use Rattle.list_laws.proofs.MoveLists.{at_order}
use Rattle.shogi_rules.specs.Tsume.{IsCheck}
use Rattle.list_laws.proofs.Adding.{placed, lists_dropped, lists_all}
use Rattle.check_moves.proofs.Moved.{no_king_among, no_king_dropped}
use Rattle.check_moves.proofs.listing.add_drop_checks.Goals as goal

pub drop_checks-requires-clause-king : goal.drop_checks-requires-clause-king
drop_checks-requires-clause-king c =
    no_king_among _ c.loop-kind.kind-index (placed _ c.loop-kind.kind-index c.loop-kind-test.true) c.loop-kind-test.true

pub loop-kind-preserved : goal.loop-kind-preserved
loop-kind-preserved c =
    let b = c.args.position.now in
    let P = IsCheck b.side b in
    let at = placed _ c.loop-kind.kind-index c.loop-kind-test.true in
    at_order P _ (13122 + 81 * (c.loop-kind.kind-index + 1)) _ (ap (λ (n : ℕ). 13122 + 81 * n + 81) at ∙ omega arith)
    (lists_dropped c.order_laws.ensures.origins c.value_laws.ensures.places P _ c.drop_checks.result c.loop-kind.moves c.add_drops.new.self c.drop_checks.ensures
    (at_order P (13122 + 81 * c.loop-kind.kind-index) _ _ (ap (λ (n : ℕ). 13122 + 81 * n) (sym at)) c.loop-kind.invariant)
    c.in_ok-add_drops.ensures.added c.in_ok-add_drops.ensures.rises)

pub returns : goal.returns
returns c =
    let b = c.args.position.now in
    let P = IsCheck b.side b in
    lists_all c.order_laws.ensures.origins c.order_laws.ensures.within P (no_king_dropped b c.laws.ensures) c.loop-kind.moves
    (at_order P (13122 + 81 * c.loop-kind.kind-index) 13689 _ (omega arith) c.loop-kind.invariant)
