use Rattle.std.proofs.Common.{arith, sym, subst}
use Rattle.board_core.specs.Order.{Lists}
use Rattle.shogi_rules.specs.Tsume.{IsCheck}
use Rattle.mate_def.specs.Mate.{HasEvasionTo}
use Rattle.hand_dominance.specs.BorneOut.{IsCovered}
use Rattle.dominance_places.specs.Covering.{version_of}
use Rattle.cert_check.proofs.Listing.{held_at}
use Rattle.list_laws.proofs.Standing.{each_more}
use Rattle.cert_check.proofs.Entries.{first_unanswered, all_answered}
use Rattle.cert_check.proofs.reasons.escape_reason.Goals as goal

pub has_evasion_back-requires-clause-check : goal.has_evasion_back-requires-clause-check
has_evasion_back-requires-clause-check c =
    held_at (IsCheck c.args.problem.now.position.side c.args.position.now) c.as_slice-check-items.result.now
    (subst (Lists (IsCheck c.args.problem.now.position.side c.args.position.now)) (sym c.as_slice-check-items.ensures.moves) c.in_ok-checks_into.ensures)
    c.loop-check.check-index c.check-item.result (omega arith) c.check-item.is

pub returns-then-not-branch : goal.returns-then-not-branch
returns-then-not-branch c =
    first_unanswered c.order_laws.ensures.places (version_of c.args.places.now) c.args.positions.now c.args.problem.now.position.side c.args.position.now
    c.as_slice-check-items.result.now c.loop-check.check-index c.check-item.result
    (subst (Lists (IsCheck c.args.problem.now.position.side c.args.position.now)) (sym c.as_slice-check-items.ensures.moves) c.in_ok-checks_into.ensures)
    (omega arith) c.check-item.is
    (λ w. let e = c.in_ok-has_evasion_back.ensures.1 w in cc)
    c.loop-check.invariant

pub loop-check-preserved : goal.loop-check-preserved
loop-check-preserved c =
    each_more
    (HasEvasionTo c.args.problem.now.position.side (IsCovered (version_of c.args.places.now) c.args.positions.now c.args.problem.now.position.side) c.args.position.now)
    c.as_slice-check-items.result.now c.loop-check.check-index c.check-item.result (omega arith) c.check-item.is
    (c.in_ok-has_evasion_back.ensures.0 c.if-not-branch.false)
    c.loop-check.invariant

pub returns : goal.returns
returns c =
    all_answered (version_of c.args.places.now) c.args.positions.now c.args.problem.now.position.side c.args.position.now
    c.as_slice-check-items.result.now c.loop-check.check-index
    (subst (Lists (IsCheck c.args.problem.now.position.side c.args.position.now)) (sym c.as_slice-check-items.ensures.moves) c.in_ok-checks_into.ensures)
    (omega arith) c.loop-check.invariant
