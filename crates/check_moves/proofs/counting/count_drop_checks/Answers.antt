use Rattle.std.proofs.Common.{◌+◌, ◌*◌, ℕ, arith, ap, sym, subst, ◌∙◌}
use Rattle.list_laws.proofs.Counted.{AreBefore}
use Rattle.shogi_rules.specs.Tsume.{IsCheck}
use Rattle.list_laws.proofs.Adding.{placed}
use Rattle.list_laws.proofs.Totals.{drops_counted}
use Rattle.check_moves.proofs.Moved.{no_king_among}
use Rattle.check_moves.proofs.counting.count_drop_checks.Goals as goal

pub loop-kind-init : goal.loop-kind-init
loop-kind-init c = record {
  few = omega arith;
  are = λ before a. subst (λ (n : ℕ). AreBefore (IsCheck c.args.position.now.side c.args.position.now) 13122 n) (omega arith) a;
}

pub drop_checks-requires-clause-king : goal.drop_checks-requires-clause-king
drop_checks-requires-clause-king c =
    no_king_among _ c.loop-kind.kind-index (placed _ c.loop-kind.kind-index c.loop-kind-test.true) c.loop-kind-test.true

pub loop-kind-preserved : goal.loop-kind-preserved
loop-kind-preserved c =
    let b = c.args.position.now in
    let P = IsCheck b.side b in
    let at = placed _ c.loop-kind.kind-index c.loop-kind-test.true in
    let i = c.loop-kind.invariant in
    let to = c.len.ensures.to in
    record {
      few = omega (arith, i.few, to);
      are = λ before a.
          let so_far = subst (λ (n : ℕ). AreBefore P (13122 + 81 * n) (before + c.loop-kind.count)) (sym at) (i.are before a) in
          let more = drops_counted c.order_laws.ensures.apart P _ c.drop_checks.result (before + c.loop-kind.count) c.len.result c.drop_checks.ensures c.len.ensures.count so_far in
          subst (λ (n : ℕ). AreBefore P (13122 + 81 * (c.loop-kind.kind-index + 1)) n) (omega arith)
          (subst (λ (n : ℕ). AreBefore P n (before + c.loop-kind.count + c.len.result)) (ap (λ (n : ℕ). 13122 + 81 * n + 81) at ∙ omega arith) more);
    }

pub returns-clause-are : goal.returns-clause-are
returns-clause-are c = λ before a.
    let b = c.args.position.now in
    let P = IsCheck b.side b in
    let all = c.loop-kind.invariant.are before (record { moves = a.moves; lists = a.lists; long = a.long }) in
    let whole = subst (λ (n : ℕ). AreBefore P n (before + c.loop-kind.count)) (omega arith) all in
    let at : AreBefore P 13689 (before + c.loop-kind.count) = whole in
    record { moves = at.moves; lists = at.lists; long = at.long }
