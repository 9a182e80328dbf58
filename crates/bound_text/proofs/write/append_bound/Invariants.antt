use Rattle.std.proofs.Common.{◌≡◌, ◌++◌, length, take}
use Rattle.std.specs.Fmt.{decimal}
use Rattle.std.specs.List.{AllByRecursion}
use Rattle.board_core.specs.Kept.{IsKept}
use Rattle.cert_text.specs.Text.{entries_text}
use Rattle.bound_text.specs.Bound.{bound_form}
use Rattle.bound_text.specs.Text.{first_line}
use Rattle.bound_text.proofs.write.append_bound.Given as goal

abbrev pub invariant-loop-entry : goal.invariant-loop-entry
invariant-loop-entry l = record {
  written : l.out.items ≡ l.fn.out.items ++ (first_line (decimal (length l.entries)) ++ entries_text (bound_form l.bound.problem) (take l.entry-index l.entries));
  kept : AllByRecursion (λ entry. IsKept entry.at) (take l.entry-index l.entries);
}
