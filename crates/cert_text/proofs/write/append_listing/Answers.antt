use Rattle.std.proofs.Common.{length, subst, arith, take_all}
use Rattle.std.specs.List.{AllByRecursion}
use Rattle.board_core.specs.Board.{Board}
use Rattle.board_core.specs.Kept.{IsKept}
use Rattle.cert_text.specs.Text.{head_text, title_of}
use Rattle.cert_text.proofs.Bodies.{written_more, all_take_more}
use Rattle.cert_text.proofs.Readable.{readable}
use Rattle.cert_text.proofs.write.append_listing.Goals as goal

pub loop-entry-preserved : goal.loop-entry-preserved
loop-entry-preserved g c =
    let problem = c.args.certificate.now.problem in
    let form = g.E.Entry.form problem in
    let entries = c.entries-entries.result.now in record {
      written = written_more form c.args.out.now.items (head_text (title_of c.args.claim c.args.certificate.now) (length entries) problem) c.loop-entry.out.items _ entries c.loop-entry.entry-index c.entry-item.result
          (omega arith) c.entry-item.is c.loop-entry.invariant.written (c.in_ok-append.ensures.text problem);
      kept = all_take_more (λ entry. IsKept (form.at entry)) entries c.loop-entry.entry-index c.entry-item.result (omega arith) c.entry-item.is c.loop-entry.invariant.kept (c.in_ok-append.ensures.kept problem);
    }

pub returns-clause-readable : goal.returns-clause-readable
returns-clause-readable g c = λ _ limits.
    let form = g.E.Entry.form c.args.certificate.now.problem in
    let all = subst (AllByRecursion (λ x. IsKept (form.at x))) (take_all c.loop-entry.entry-index c.entries-entries.result.now (omega arith)) c.loop-entry.invariant.kept in
    readable form c.args.certificate.now c.entries-entries.ensures.kept (subst (λ (p : Board). IsKept p) c.problem.ensures.problem c.append_head.ensures.kept)
    (subst (λ xs. AllByRecursion (λ x. IsKept (form.at x)) xs) c.entries-entries.ensures.entries all) limits
