use Rattle.std.proofs.Common.{List, length, refl, ap, subst, ◌∙◌, arith, take_all}
use Rattle.std.specs.Fmt.{decimal}
use Rattle.std.specs.List.{AllByRecursion}
use Rattle.board_core.specs.Kept.{IsKept}
use Rattle.cert_text.proofs.Offered.{written_more, all_take_more, all_fit}
use Rattle.bound_text.specs.declared.entry.BoundEntry.{BoundEntry}
use Rattle.bound_text.specs.Bound.{bound_form}
use Rattle.bound_text.specs.Text.{first_line}
use Rattle.bound_text.proofs.Lines.{whole_written}
use Rattle.bound_text.proofs.write.append_bound.Goals as goal

pub loop-entry-preserved : goal.loop-entry-preserved
loop-entry-preserved c =
    let problem = c.args.bound.now.problem in
    let entries = c.entries-entries.result.now in record {
      written = written_more (bound_form problem) c.args.out.now.items (first_line (decimal (length entries))) c.loop-entry.out.items _ entries c.loop-entry.entry-index c.entry-item.result
          (omega arith) c.entry-item.is c.loop-entry.invariant.written (c.in_ok-append.ensures.text problem);
      kept = all_take_more (λ (entry : BoundEntry). IsKept entry.at) entries c.loop-entry.entry-index c.entry-item.result (omega arith) c.entry-item.is c.loop-entry.invariant.kept
          (c.in_ok-append.ensures.kept problem);
    }

pub returns-clause-text : goal.returns-clause-text
returns-clause-text c =
    whole_written c.args.bound.now.problem c.args.out.now.items c.loop-entry.out.items _ c.entries-entries.result.now c.args.bound.now.entries c.loop-entry.entry-index
    c.entries-entries.ensures.entries (omega arith) c.loop-entry.invariant.written c.in_ok-extend_from_slice.ensures.items

pub returns-clause-readable : goal.returns-clause-readable
returns-clause-readable c = λ _.
    let form = bound_form c.args.bound.now.problem in
    let all = subst (AllByRecursion (λ (entry : BoundEntry). IsKept entry.at)) (take_all c.loop-entry.entry-index c.entries-entries.result.now (omega arith) ∙ c.entries-entries.ensures.entries)
    c.loop-entry.invariant.kept in
    let listing = c.entries-entries.ensures.kept in
    let count = ap (λ (es : List BoundEntry). length es) c.entries-entries.ensures.entries in record {
      version = c.requires;
      same = refl;
      good = record { fit = all_fit form c.args.bound.now.entries c.args.bound.now.entries (λ x at. at) listing.listed all; rising = listing.rising };
      few = omega arith;
    }
