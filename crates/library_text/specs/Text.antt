-- The text of a library, as it is written.
use Rattle.std.specs.Prelude.{ℕ, List, ◌++◌, codes, length}
use Rattle.std.specs.List.{flat_map}
use Rattle.std.specs.Fmt.{decimal}
use Rattle.cert_text.specs.Entries.{line}
use Rattle.cert_text.specs.Text.{certificate_text}
use Rattle.cert_text.specs.declared.certificate.Certificate.{Certificate}

-- The first line: it tells how many certificates come.
abbrev pub first_line : ℕ → List ℕ
first_line count = line (codes "library 1 " ++ decimal count)

-- The texts of the certificates, one behind the other.
abbrev pub certificates_text : List Certificate → List ℕ
certificates_text certificates = flat_map certificate_text certificates

-- The last line.
abbrev pub last_line : List ℕ
last_line = line (codes "end library")

-- The text of a library of these certificates: the first line, their texts, and the last line.
abbrev pub library_text : List Certificate → List ℕ
library_text certificates = first_line (length certificates) ++ (certificates_text certificates ++ last_line)
