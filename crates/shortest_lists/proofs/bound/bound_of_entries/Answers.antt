use Rattle.std.proofs.Common.{List, ℕ, Contains, length, arith, sym, subst, ap, ◌∙◌}
use Rattle.board_core.specs.Board.{Board}
use Rattle.board_core.specs.Kept.{IsKept}
use Rattle.mate_facts.specs.Entries.{AreApart}
use Rattle.cert_text.specs.Certificate.{CertificateView}
use Rattle.cert_order.specs.Entries.{HaveSame}
use Rattle.cert_order.specs.Order.{IsTextOrder, ArePicked}
use Rattle.bound_text.specs.Reading.{IsReadable}
use Rattle.bound_text.specs.declared.entry.BoundEntry.{BoundEntry}
use Rattle.bound_check.specs.Valid.{IsValidBound}
use Rattle.shortest_lists.proofs.Sorted.{all_positions, as_many, of_entries, valid_sorted, same_sorted, count_sorted, listing_sorted, readable_sorted}
use Rattle.shortest_lists.proofs.bound.bound_of_entries.Goals as goal

pub text_order-requires-clause-apart : goal.text_order-requires-clause-apart
text_order-requires-clause-apart c =
    let e = c.deref.ensures.value ∙ all_positions c.args.entries.now c.loop-entry.entry-index c.loop-entry.positions.items c.loop-entry.invariant c.loop-entry-test.false in
    subst AreApart (sym e) c.requires.apart

pub text_order-requires-clause-kept : goal.text_order-requires-clause-kept
text_order-requires-clause-kept c b there =
    let e = c.deref.ensures.value ∙ all_positions c.args.entries.now c.loop-entry.entry-index c.loop-entry.positions.items c.loop-entry.invariant c.loop-entry-test.false in
    of_entries IsKept c.args.entries.now c.requires.kept b (subst (λ (bs : List Board). Contains bs b) e there)

pub items_at-requires : goal.items_at-requires
items_at-requires c place there =
    let e = c.deref.ensures.value ∙ all_positions c.args.entries.now c.loop-entry.entry-index c.loop-entry.positions.items c.loop-entry.invariant c.loop-entry-test.false in
    let n = as_many c.args.entries.now in
    let in_order = subst (λ (bs : List Board). IsTextOrder bs c.in_ok-order.order.items) e c.in_ok-order.ensures in
    let w = in_order.within place (subst (λ (os : List ℕ). Contains os place) c.deref-2.ensures.value there) in
    omega arith

pub new-requires : goal.new-requires
new-requires c =
    let e = c.deref.ensures.value ∙ all_positions c.args.entries.now c.loop-entry.entry-index c.loop-entry.positions.items c.loop-entry.invariant c.loop-entry-test.false in
    listing_sorted c.args.problem.now.position c.args.entries.now c.in_ok-sorted.sorted.items c.in_ok-order.order.items
    (subst (λ (bs : List Board). IsTextOrder bs c.in_ok-order.order.items) e c.in_ok-order.ensures)
    (subst (λ (os : List ℕ). ArePicked c.args.entries.now os c.in_ok-sorted.sorted.items) c.deref-2.ensures.value c.in_ok-sorted.ensures)
    c.args.problem.now.accepted c.requires

pub returns : goal.returns
returns c =
    let p = c.args.problem.now.position in
    let e = c.deref.ensures.value ∙ all_positions c.args.entries.now c.loop-entry.entry-index c.loop-entry.positions.items c.loop-entry.invariant c.loop-entry-test.false in
    let ordered = subst (λ (bs : List Board). IsTextOrder bs c.in_ok-order.order.items) e c.in_ok-order.ensures in
    let picked = subst (λ (os : List ℕ). ArePicked c.args.entries.now os c.in_ok-sorted.sorted.items) c.deref-2.ensures.value c.in_ok-sorted.ensures in
    let entries = c.args.entries.now in
    let sorted = c.in_ok-sorted.sorted.items in
    let order = c.in_ok-order.order.items in
    record {
      valid = λ within valid.
          subst (λ (b : CertificateView BoundEntry). IsValidBound b.entries p within) (sym c.new.ensures)
          (valid_sorted p entries sorted order ordered picked within valid);
      same = subst (λ (b : CertificateView BoundEntry). HaveSame b.entries entries) (sym c.new.ensures) (same_sorted p entries sorted order ordered picked);
      readable = subst (λ (b : CertificateView BoundEntry). IsReadable p b) (sym c.new.ensures)
          (readable_sorted p entries sorted order ordered picked c.args.problem.now.accepted c.requires
          (let small = c.in_ok-sorted.sorted.small in let ok = c.in_ok-sorted.sorted.ok in omega (arith, small, ok)));
      count = ap (λ (b : CertificateView BoundEntry). length b.entries) c.new.ensures ∙ count_sorted p entries sorted order ordered picked;
    }
