use Rattle.std.proofs.Common.{◌≡◌, ◌++◌, length, take}
use Rattle.std.specs.List.{AllByRecursion}
use Rattle.board_core.specs.Kept.{IsKept}
use Rattle.cert_text.specs.Text.{head_text, title_of, entries_text}
use Rattle.cert_text.proofs.write.append_listing.Given as goal

abbrev pub invariant-loop-entry : goal.invariant-loop-entry
invariant-loop-entry g l = record {
  written : l.out.items ≡ l.fn.out.items ++ (head_text (title_of l.fn.claim l.certificate) (length l.entries) l.certificate.problem ++ entries_text (g.E.Entry.form l.certificate.problem) (take l.entry-index l.entries));
  kept : AllByRecursion (λ entry. IsKept ((g.E.Entry.form l.certificate.problem).at entry)) (take l.entry-index l.entries);
}
