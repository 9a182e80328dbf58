-- How the faults of a certificate's text print.
use Rattle.std.specs.Prelude.{ℕ, List, ◌++◌, codes}
use Rattle.std.specs.Fmt.{decimal}
use Rattle.cert_text.specs.declared.fault.CertFault.{CertFault}
use Rattle.cert_text.specs.declared.fault.CertFault.TheVariants.{BadHead, BadLine, NotRising, WrongCount, NoEnd}

-- What is wrong with a certificate's text, in words, with the number of the line.
abbrev pub certificate_fault_text : CertFault → List ℕ
certificate_fault_text BadHead = codes "bad head"
certificate_fault_text (BadLine at) = codes "bad line " ++ decimal at
certificate_fault_text (NotRising at) = codes "not rising " ++ decimal at
certificate_fault_text WrongCount = codes "wrong count"
certificate_fault_text NoEnd = codes "no end"
