-- A bound's text, version 1, as it is written.
use Rattle.std.specs.Prelude.{ℕ, List, ◌++◌, codes, length}
use Rattle.std.specs.Fmt.{decimal}
use Rattle.cert_text.specs.Entries.{line}
use Rattle.cert_text.specs.Certificate.{CertificateView}
use Rattle.cert_text.specs.Text.{entries_text, end_line}
use Rattle.bound_text.specs.declared.entry.BoundEntry.{BoundEntry}
use Rattle.bound_text.specs.Bound.{bound_form}

-- The first line, with the digits of the number of entries.
abbrev pub first_line : List ℕ → List ℕ
first_line digits = line (codes "bound 1 " ++ digits)

-- The text of a bound: the first line with the number of its entries, a line for each entry, and
-- the line `end`.
abbrev pub bound_text : CertificateView BoundEntry → List ℕ
bound_text b = first_line (decimal (length b.entries)) ++ (entries_text (bound_form b.problem) b.entries ++ end_line)
