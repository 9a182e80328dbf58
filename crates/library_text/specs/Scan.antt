-- What is read of a library's certificate: it serves private functions alone.
use Rattle.std.specs.Prelude.{◌≡◌, ℕ, List, Result, Ok, Err}
use Rattle.cert_text.specs.Reading.{IsReadable}
use Rattle.cert_text.specs.Text.{certificate_text}
use Rattle.cert_text.specs.declared.certificate.Certificate.{Certificate}
use Rattle.cert_text.specs.declared.fault.CertEnd.{CertEnd}
use Rattle.cert_text.specs.declared.fault.CertEnd.TheVariants.{Fault, NoMemory}
use Rattle.library_text.specs.Reading.{HasBareFault}

-- The outcome to the text of a certificate before which no front line stands: the certificate; or
-- the first fault; or want of memory.
abbrev pub IsBareOutcome : List ℕ → Result Certificate CertEnd → Type 0
IsBareOutcome text (Ok c) = IsReadable c × (text ≡ certificate_text c)
IsBareOutcome text (Err (Fault fault)) = HasBareFault text fault
IsBareOutcome text (Err NoMemory) = Unit {0}
