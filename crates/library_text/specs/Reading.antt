-- What a text is read as: the certificates whose library it is, or the text's first fault.
-- Relations between whole texts and outcomes.
use Rattle.std.specs.Prelude.{◌≡◌, ◌≢◌, ◌⊎◌, ◌+◌, ◌<◌, ◌≤◌, ℕ, List, ◌++◌, codes, length}
use Rattle.std.specs.List.{AllByRecursion}
use Rattle.cert_text.specs.UpToEnd.{IsUpToEnd}
use Rattle.cert_text.specs.Reading as certs
use Rattle.cert_text.specs.declared.certificate.Certificate.{Certificate}
use Rattle.cert_text.specs.declared.fault.CertFault.{CertFault}
use Rattle.cert_text.specs.declared.fault.CertFault.TheVariants.{BadHead, NoEnd}
use Rattle.library_text.specs.declared.limits.TheConstants.{MOST_CERTIFICATES}
use Rattle.library_text.specs.declared.fault.LibraryFault.{LibraryFault}
use Rattle.library_text.specs.declared.fault.LibraryEnd.{LibraryEnd}
use Rattle.library_text.specs.declared.fault.LibraryEnd.TheVariants.{Fault, NoMemory}
use Rattle.library_text.specs.Text.{first_line, certificates_text, last_line, library_text}

-- The certificates can be read as a library: there are `MOST_CERTIFICATES` at most, and each can be
-- read.
pub record IsReadable (certificates : List Certificate) : Type 0 where
  pub few : length certificates ≤ MOST_CERTIFICATES
  pub each : AllByRecursion certs.IsReadable certificates

-- The text begins with a first line that tells so many certificates, which is not more than are
-- read, and then comes the rest.
pub record BeginsWith (count : ℕ) (rest bytes : List ℕ) : Type 0 where
  pub few : count ≤ MOST_CERTIFICATES
  pub text : bytes ≡ first_line count ++ rest

-- Behind the first line come the texts of certificates that can be read, and then the rest.
pub record HasRead (count : ℕ) (certificates : List Certificate) (rest bytes : List ℕ) : Type 0 where
  pub begins : BeginsWith count (certificates_text certificates ++ rest) bytes
  pub readable : AllByRecursion certs.IsReadable certificates

-- The text begins as a certificate's first line does, so that no front line stands before it.
abbrev pub IsBare : List ℕ → Type 0
IsBare text = (rest : List ℕ) × (text ≡ codes "certificate " ++ rest)

-- The fault is the first one of a certificate's text without a front line. With one, as with
-- anything else in the place of its first line, the certificate has a bad head.
abbrev pub HasBareFault : List ℕ → CertFault → Type 0
HasBareFault text fault = (IsBare text × certs.HasFirstFault text fault) ⊎ ((¬ IsBare text) × (fault ≡ BadHead))

-- The text of the next certificate goes up to its first line `end`, whatever comes behind, and it
-- has the fault.
pub record HasFaultNext (text : List ℕ) (fault : CertFault) : Type 0 where
  pub own : List ℕ
  pub behind : List ℕ
  pub up_to_end : IsUpToEnd own behind
  pub parts : text ≡ own ++ behind
  pub has_fault : HasBareFault own fault

-- No first line stands at the front of the text: that is a bad head of number 0.
pub record HasNoHead (bytes : List ℕ) (fault : LibraryFault) : Type 0 where
  pub number : fault.number ≡ 0
  pub bad_head : fault.fault ≡ BadHead
  pub none : (count : ℕ) (rest : List ℕ) → ¬ BeginsWith count rest bytes

-- Behind some certificates, fewer than the first line tells, comes one with the fault; its number
-- counts from 1.
pub record HasBadCertificate (bytes : List ℕ) (fault : LibraryFault) : Type 0 where
  pub count : ℕ
  pub before : List Certificate
  pub rest : List ℕ
  pub read : HasRead count before rest bytes
  pub due : length before < count
  pub number : fault.number ≡ length before + 1
  pub has_fault : HasFaultNext rest fault.fault

-- Behind as many certificates as the first line tells doesn't come the last line and nothing more:
-- there is no end where the next certificate would stand.
pub record HasNoEnd (bytes : List ℕ) (fault : LibraryFault) : Type 0 where
  pub certificates : List Certificate
  pub rest : List ℕ
  pub read : HasRead (length certificates) certificates rest bytes
  pub number : fault.number ≡ length certificates + 1
  pub no_end : fault.fault ≡ NoEnd
  pub other : rest ≢ last_line

-- The text has the fault, and none before it.
abbrev pub HasFirstFault : List ℕ → LibraryFault → Type 0
HasFirstFault bytes fault = HasNoHead bytes fault ⊎ (HasBadCertificate bytes fault ⊎ HasNoEnd bytes fault)

-- The text is that of a library of these certificates.
abbrev pub IsTextOf : List Certificate → List ℕ → Type 0
IsTextOf certificates bytes = bytes ≡ library_text certificates

-- No certificates were read of the text: it has the fault first, or memory was wanted.
abbrev pub IsEndOf : List ℕ → LibraryEnd → Type 0
IsEndOf bytes (Fault fault) = HasFirstFault bytes fault
IsEndOf bytes NoMemory = Unit {0}

-- The reading ended with this fault, or for want of memory.
abbrev pub IsFaultAs : LibraryFault → LibraryEnd → Type 0
IsFaultAs fault (Fault found) = found ≡ fault
IsFaultAs fault NoMemory = Unit {0}

-- Memory was wanted.
abbrev pub IsWantOfMemory : LibraryEnd → Type 0
IsWantOfMemory (Fault fault) = ⊥
IsWantOfMemory NoMemory = Unit {0}
