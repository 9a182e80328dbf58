use Rattle.std.proofs.Common.{◌∙◌, arith, ap, sym, subst, List, ℕ, Contains}
use Rattle.board_core.specs.Board.{Board}
use Rattle.board_core.specs.Kept.{IsKept}
use Rattle.mate_facts.specs.Entries.{AreApart}
use Rattle.cert_text.specs.Certificate.{Mating}
use Rattle.cert_order.specs.Order.{IsTextOrder, ArePicked}
use Rattle.cook_report.proofs.Ordered.{all_positions, as_many, of_entries, mating, same_listed, as_many_listed, good_listed, kept_listed}
use Rattle.cook_report.proofs.listing.listing.Goals as goal

pub text_order-requires-clause-apart : goal.text_order-requires-clause-apart
text_order-requires-clause-apart c =
    let e = c.deref.ensures.value ∙ all_positions c.args.entries.now c.loop-entry.entry-index c.loop-entry.positions.items c.loop-entry.invariant c.loop-entry-test.false in
    subst AreApart (sym e) c.requires.apart

pub text_order-requires-clause-kept : goal.text_order-requires-clause-kept
text_order-requires-clause-kept c b there =
    let e = c.deref.ensures.value ∙ all_positions c.args.entries.now c.loop-entry.entry-index c.loop-entry.positions.items c.loop-entry.invariant c.loop-entry-test.false in
    of_entries IsKept c.args.entries.now c.requires.kept b (subst (λ (bs : List Board). Contains bs b) e there)

pub items_at-requires : goal.items_at-requires
items_at-requires c place there =
    let e = c.deref.ensures.value ∙ all_positions c.args.entries.now c.loop-entry.entry-index c.loop-entry.positions.items c.loop-entry.invariant c.loop-entry-test.false in
    let n = as_many c.args.entries.now in
    let ordered = subst (λ (bs : List Board). IsTextOrder bs c.in_ok-order.order.items) e c.in_ok-order.ensures in
    let w = ordered.within place (subst (λ (os : List ℕ). Contains os place) c.deref-2.ensures.value there) in
    omega (arith, n, w)

pub new-requires : goal.new-requires
new-requires c =
    let e = c.deref.ensures.value ∙ all_positions c.args.entries.now c.loop-entry.entry-index c.loop-entry.positions.items c.loop-entry.invariant c.loop-entry-test.false in
    mating c.args.version c.args.problem.now.position c.args.entries.now c.in_ok-sorted.sorted.items c.in_ok-order.order.items c.requires
    (subst (λ (bs : List Board). IsTextOrder bs c.in_ok-order.order.items) e c.in_ok-order.ensures)
    (subst (λ (os : List ℕ). ArePicked c.args.entries.now os c.in_ok-sorted.sorted.items) c.deref-2.ensures.value c.in_ok-sorted.ensures)
    c.args.problem.now.accepted

pub returns : goal.returns
returns c =
    let e = c.deref.ensures.value ∙ all_positions c.args.entries.now c.loop-entry.entry-index c.loop-entry.positions.items c.loop-entry.invariant c.loop-entry-test.false in
    let ordered = subst (λ (bs : List Board). IsTextOrder bs c.in_ok-order.order.items) e c.in_ok-order.ensures in
    let picked = subst (λ (os : List ℕ). ArePicked c.args.entries.now os c.in_ok-sorted.sorted.items) c.deref-2.ensures.value c.in_ok-sorted.ensures in
    let version = c.args.version in
    let p = c.args.problem.now.position in
    let entries = c.args.entries.now in
    let sorted = c.in_ok-sorted.sorted.items in
    let order = c.in_ok-order.order.items in
    record {
      problem = ap (λ (c : Mating). c.problem) c.new.ensures;
      version = ap (λ (c : Mating). c.version) c.new.ensures;
      same = same_listed version p entries sorted order c.requires ordered picked c.new.result c.new.ensures;
      count = as_many_listed version p entries sorted order c.requires ordered picked c.new.result c.new.ensures;
      good = good_listed version p entries sorted order c.requires ordered picked c.new.result c.new.ensures;
      kept = kept_listed version p entries sorted order c.requires ordered picked c.new.result c.new.ensures;
    }
