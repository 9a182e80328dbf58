-- The outcome to a text is the only one.
use Rattle.std.proofs.Common.{ℕ, List, Result, Ok, Err}
use Rattle.cert_text.specs.declared.certificate.Certificate.{Certificate}
use Rattle.cert_text.specs.declared.fault.CertEnd.{CertEnd}
use Rattle.cert_text.specs.declared.fault.CertEnd.TheVariants as ends
use Rattle.cert_text.specs.Laws.{CertTextsApart, CertTextsAreFaultless}
use Rattle.cert_text.specs.Reading.{IsCertificateOutcome, IsReadable, IsTextOf, IsReadAs}

pub read_again : CertTextsApart → CertTextsAreFaultless → (c : Certificate) (bytes : List ℕ) (outcome : Result Certificate CertEnd) → IsReadable c → IsTextOf c bytes → IsCertificateOutcome bytes outcome
    → IsReadAs c outcome
read_again apart faultless c bytes (Ok d) r t h = apart d c bytes h.0 r h.1 t
read_again apart faultless c bytes (Err (ends.Fault fault)) r t h = faultless c bytes fault r t h
read_again apart faultless c bytes (Err ends.NoMemory) r t h = tt
