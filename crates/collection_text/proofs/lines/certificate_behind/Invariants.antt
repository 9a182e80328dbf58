-- The lines so far and those of the certificate that are left are all of it.
use Rattle.std.proofs.Common.{◌≡◌, ◌++◌, List, ℕ, length}
use Rattle.std.specs.List.{concat}
use Rattle.collection_text.specs.Lines.{certificate_lines, whole_lines}
use Rattle.collection_text.proofs.lines.certificate_behind.Given as goal

abbrev pub invariant-loop-line : goal.invariant-loop-line
invariant-loop-line l =
    (front : List ℕ) × (l.text ≡ front ++ l.rest)
    × (concat (certificate_lines (whole_lines l.text)) ≡ front ++ concat (certificate_lines (whole_lines l.rest)))

abbrev pub decreases-loop-line : goal.decreases-loop-line
decreases-loop-line l = length l.rest
