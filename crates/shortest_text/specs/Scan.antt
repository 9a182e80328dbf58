-- What is read of a text's parts: it serves private functions alone.
use Rattle.std.specs.Prelude.{◌≡◌, ◌≢◌, ℕ, List, ◌++◌, codes, Result, Ok, Err}
use Rattle.hand_dominance.specs.declared.version.Version.TheVariants.{One}
use Rattle.usi_text.specs.Lines.{nomate_text}
use Rattle.cert_text.specs.Entries.{line}
use Rattle.cert_text.specs.Certificate.{Mating, mate_form}
use Rattle.cert_text.specs.Text.{certificate_text}
use Rattle.cert_text.specs.declared.certificate.Certificate.TheVariants as certificates
use Rattle.cert_text.specs.declared.fault.CertFault.{CertFault}
use Rattle.cert_text.specs.declared.fault.CertFault.TheVariants.{BadHead, BadLine, NotRising, WrongCount, NoEnd}
use Rattle.cert_text.specs.declared.fault.CertEnd.{CertEnd}
use Rattle.cert_text.specs.declared.fault.CertEnd.TheVariants.{Fault, NoMemory}
use Rattle.cert_text.specs.declared.head.Claim.TheVariants.{Mate}
use Rattle.cert_text.specs.Reading.{IsFrontLine, IsReadableOf, HasFirstFault}
use Rattle.shortest_text.specs.Reading.{IsOfOne}

-- The front line begins with the word of an answer about a mate, and isn't that there is none.
pub record BeginsAsMate (front : List ℕ) : Type 0 where
  pub rest : List ℕ
  pub text : front ≡ codes "checkmate" ++ rest
  pub no_escape : front ≢ nomate_text

-- A certificate can be read, has this text, and is of version 1.
abbrev pub IsMateRead : List ℕ → Mating → Type 0
IsMateRead text c = IsReadableOf (mate_form c.problem) c × (text ≡ certificate_text (certificates.Mate c)) × (c.version ≡ One)

-- The fault is the first one of a mate's front line and a certificate of version 1 behind it.
-- Without such a front line, or such a certificate, the head is bad.
abbrev pub IsMateFault : List ℕ → List ℕ → CertFault → Type 0
IsMateFault front text BadHead = IsFrontLine Mate front → IsOfOne text → HasFirstFault (line front ++ text) BadHead
IsMateFault front text (BadLine number) = IsFrontLine Mate front × IsOfOne text × HasFirstFault (line front ++ text) (BadLine number)
IsMateFault front text (NotRising number) = IsFrontLine Mate front × IsOfOne text × HasFirstFault (line front ++ text) (NotRising number)
IsMateFault front text WrongCount = IsFrontLine Mate front × IsOfOne text × HasFirstFault (line front ++ text) WrongCount
IsMateFault front text NoEnd = IsFrontLine Mate front × IsOfOne text × HasFirstFault (line front ++ text) NoEnd

-- The outcome to a front line and a certificate's text behind it: a mate's certificate; or the
-- first fault; or want of memory.
abbrev pub IsMateOutcome : List ℕ → List ℕ → Result Mating CertEnd → Type 0
IsMateOutcome front text (Ok c) = IsFrontLine Mate front × IsMateRead text c
IsMateOutcome front text (Err (Fault fault)) = IsMateFault front text fault
IsMateOutcome front text (Err NoMemory) = Unit {0}
