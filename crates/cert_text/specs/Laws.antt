-- Laws about certificates and their texts.
use Rattle.std.specs.Prelude.{◌≡◌, ℕ, List}
use Rattle.cert_text.specs.declared.certificate.Certificate.{Certificate}
use Rattle.cert_text.specs.declared.fault.CertFault.{CertFault}
use Rattle.cert_text.specs.Reading.{HasFirstFault, IsReadable, IsTextOf}

-- A law: no two certificates that can be read have one text.
abbrev pub CertTextsApart : Type 0
CertTextsApart = (a b : Certificate) (bytes : List ℕ) → IsReadable a → IsReadable b → IsTextOf a bytes → IsTextOf b bytes → a ≡ b

-- A law: no text has two first faults.
abbrev pub OneCertificateFault : Type 0
OneCertificateFault = (bytes : List ℕ) (one other : CertFault) → HasFirstFault bytes one → HasFirstFault bytes other → one ≡ other

-- A law: the text of a certificate that can be read has no fault.
abbrev pub CertTextsAreFaultless : Type 0
CertTextsAreFaultless = (c : Certificate) (bytes : List ℕ) (fault : CertFault) → IsReadable c → IsTextOf c bytes → HasFirstFault bytes fault → ⊥
