-- How the faults of a library's text print.
use Rattle.std.specs.Prelude.{ℕ, List, ◌++◌, codes}
use Rattle.std.specs.Fmt.{decimal}
use Rattle.cert_text.specs.FaultText.{certificate_fault_text}
use Rattle.library_text.specs.declared.fault.LibraryFault.{LibraryFault}

-- The number of the certificate, and its fault as it prints.
abbrev pub library_fault_text : LibraryFault → List ℕ
library_fault_text fault = codes "library " ++ decimal fault.number ++ codes ": " ++ certificate_fault_text fault.fault
