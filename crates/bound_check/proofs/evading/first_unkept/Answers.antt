use Rattle.std.proofs.Common.{length, refl, arith}
use Rattle.std.proofs.lemmas.Option.{slice_get_read}
use Rattle.shogi_rules.specs.Tsume.{IsCheck}
use Rattle.mate_def.specs.Mate.{HasEvasionTo}
use Rattle.list_laws.proofs.Standing.{more}
use Rattle.bound_check.specs.Valid.{Keeps}
use Rattle.bound_check.proofs.Kept.{held_at, first_here, all_kept}
use Rattle.bound_check.proofs.evading.first_unkept.Goals as goal

pub is_kept-requires-clause-check : goal.is_kept-requires-clause-check
is_kept-requires-clause-check c =
    held_at (IsCheck c.args.problem.now.position.side c.args.entry.now.at) c.as_slice-check-items.result.now _ c.in_ok-checks_into.ensures
    c.as_slice-check-items.ensures.moves c.loop-check.check-index c.check-item.result (omega arith) c.check-item.is

pub returns-then-not-branch : goal.returns-then-not-branch
returns-then-not-branch c =
    first_here c.order_laws.ensures.places c.args.entries.now c.args.problem.now.position.side c.args.entry.now c.as_slice-check-items.result.now _
    c.loop-check.check-index c.check-item.result c.in_ok-checks_into.ensures c.as_slice-check-items.ensures.moves (omega arith) c.check-item.is
    (λ kept. let e = c.in_ok-is_kept.ensures.1 kept in cc) c.loop-check.invariant

pub loop-check-preserved : goal.loop-check-preserved
loop-check-preserved c =
    more (HasEvasionTo c.args.problem.now.position.side (Keeps c.args.entries.now c.args.entry.now.bound.number) c.args.entry.now.at) c.as_slice-check-items.result.now
    c.loop-check.check-index c.check-item.result
    (slice_get_read c.as_slice-check-items.result.now (length c.as_slice-check-items.result.now) c.loop-check.check-index c.check-item.result refl (omega arith) c.check-item.is)
    (c.in_ok-is_kept.ensures.0 c.if-not-branch.false) c.loop-check.invariant

pub returns : goal.returns
returns c =
    all_kept c.args.entries.now c.args.problem.now.position.side c.args.entry.now c.as_slice-check-items.result.now _ c.loop-check.check-index
    c.in_ok-checks_into.ensures c.as_slice-check-items.ensures.moves (omega arith) c.loop-check.invariant
