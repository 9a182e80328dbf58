-- How what ends the reading of a certificate ends that of the library.
use Rattle.std.specs.Prelude.{ℕ}
use Rattle.cert_text.specs.declared.fault.CertEnd.{CertEnd}
use Rattle.cert_text.specs.declared.fault.CertEnd.TheVariants as certificates
use Rattle.library_text.specs.declared.fault.LibraryEnd.{LibraryEnd}
use Rattle.library_text.specs.declared.fault.LibraryEnd.TheVariants.{Fault, NoMemory}

-- A fault of the certificate of this number, or want of memory.
abbrev pub end_of_certificate : ℕ → CertEnd → LibraryEnd
end_of_certificate number (certificates.Fault its_fault) = Fault (record { number = number; fault = its_fault })
end_of_certificate number certificates.NoMemory = NoMemory
