-- What a text about the shortest mate is read as: what it says, or its first fault. Relations
-- between whole texts and outcomes.
use Rattle.std.specs.Prelude.{◌≡◌, ◌⊎◌, ℕ, List, ◌++◌, Result, Ok, Err}
use Rattle.hand_dominance.specs.declared.version.Version.TheVariants.{One}
use Rattle.board_core.specs.Board.{Board}
use Rattle.board_core.specs.Kept.{IsKept}
use Rattle.shogi_rules.specs.Tsume.{IsProblem}
use Rattle.mate_facts.specs.declared.rank.Rank.{Rank}
use Rattle.cert_text.specs.Entries.{line}
use Rattle.cert_text.specs.Certificate.{Mating, mate_form}
use Rattle.cert_text.specs.Text.{version_front, certificate_text}
use Rattle.cert_text.specs.declared.certificate.Certificate.TheVariants as certificates
use Rattle.cert_text.specs.declared.fault.CertFault.{CertFault}
use Rattle.cert_text.specs.declared.fault.CertFault.TheVariants.{BadHead, BadLine, NotRising, WrongCount, NoEnd}
use Rattle.cert_text.specs.declared.head.Claim.TheVariants.{Mate}
use Rattle.cert_text.specs.Reading.{IsFrontLine, IsReadableOf}
use Rattle.cert_text.specs.Reading as certs
use Rattle.cert_text.specs.UpToEnd.{IsUpToEnd}
use Rattle.bound_text.specs.declared.fault.BadBound.{BadBound}
use Rattle.bound_text.specs.Text.{bound_text}
use Rattle.bound_text.specs.Reading as bounds
use Rattle.shortest_text.specs.declared.text.ShortestText.{ShortestText}
use Rattle.shortest_text.specs.declared.text.ShortestText.TheVariants.{Found, NoneWithin}
use Rattle.shortest_text.specs.declared.fault.ShortestFault.{ShortestFault}
use Rattle.shortest_text.specs.declared.fault.ShortestFault.TheVariants.{Certificate, Bound}
use Rattle.shortest_text.specs.declared.fault.ShortestEnd.{ShortestEnd}
use Rattle.shortest_text.specs.declared.fault.ShortestEnd.TheVariants.{Fault, NoMemory}
use Rattle.shortest_text.specs.Text.{found_text, none_text}

-- The text begins as that of a shortest mate: with a front line of a mate and the number of moves.
-- Then comes the certificate's text, up to and with its first line `end`, and what is behind that
-- is the bound's.
pub record BeginsFound (front : List ℕ) (rank : Rank) (certificate bound bytes : List ℕ) : Type 0 where
  pub is_front : IsFrontLine Mate front
  pub up_to_end : IsUpToEnd certificate bound
  pub text : bytes ≡ found_text front rank certificate bound

-- The text begins as that of no mate within a limit: with the limit and a problem. What is behind
-- that is the bound's.
pub record BeginsNone (limit : Rank) (problem : Board) (bound bytes : List ℕ) : Type 0 where
  pub kept : IsKept problem
  pub is_problem : IsProblem problem
  pub text : bytes ≡ none_text limit problem bound

-- A certificate's text begins as one of version 1.
abbrev pub IsOfOne : List ℕ → Type 0
IsOfOne certificate = (rest : List ℕ) × (certificate ≡ version_front One ++ rest)

-- The text doesn't begin as that of no mate within a limit. Where it begins as that of a shortest
-- mate, the certificate has no head of version 1 behind the front line: it doesn't begin as one of
-- version 1, or it has no head.
pub record HasBadHead (bytes : List ℕ) : Type 0 where
  pub not_none : (limit : Rank) (problem : Board) (bound : List ℕ) → ¬ BeginsNone limit problem bound bytes
  pub bad_head : (front : List ℕ) (rank : Rank) (certificate bound : List ℕ) → BeginsFound front rank certificate bound bytes
      → IsOfOne certificate → certs.HasFirstFault (line front ++ certificate) BadHead

-- The text begins as that of a shortest mate, and the certificate begins as one of version 1 and,
-- with the front line before it, has the fault first.
pub record HasBadCertificate (bytes : List ℕ) (fault : CertFault) : Type 0 where
  pub front : List ℕ
  pub rank : Rank
  pub certificate : List ℕ
  pub bound : List ℕ
  pub begins : BeginsFound front rank certificate bound bytes
  pub of_one : IsOfOne certificate
  pub has_fault : certs.HasFirstFault (line front ++ certificate) fault

-- All before the bound is that of a shortest mate, with this certificate, which is of version 1.
pub record HasFound (rank : Rank) (c : Mating) (bound bytes : List ℕ) : Type 0 where
  pub version : c.version ≡ One
  pub readable : IsReadableOf (mate_form c.problem) c
  pub front : List ℕ
  pub is_front : IsFrontLine Mate front
  pub text : bytes ≡ found_text front rank (certificate_text (certificates.Mate c)) bound

-- All before the bound is right, this is its problem, and these bytes are left for it.
abbrev pub IsLeft : Board → List ℕ → List ℕ → Type 0
IsLeft problem bound bytes = ((rank : Rank) × (c : Mating) × (c.problem ≡ problem) × HasFound rank c bound bytes)
    ⊎ ((limit : Rank) × BeginsNone limit problem bound bytes)

-- All before the bound is right, and the bound has the fault first.
pub record HasBadBound (bytes : List ℕ) (fault : BadBound) : Type 0 where
  pub problem : Board
  pub bound : List ℕ
  pub left : IsLeft problem bound bytes
  pub has_fault : bounds.HasFirstFault problem bound fault.line

-- The text has the fault, and none before it.
abbrev pub HasFirstFault : List ℕ → ShortestFault → Type 0
HasFirstFault bytes (Certificate BadHead) = HasBadHead bytes
HasFirstFault bytes (Certificate (BadLine number)) = HasBadCertificate bytes (BadLine number)
HasFirstFault bytes (Certificate (NotRising number)) = HasBadCertificate bytes (NotRising number)
HasFirstFault bytes (Certificate WrongCount) = HasBadCertificate bytes WrongCount
HasFirstFault bytes (Certificate NoEnd) = HasBadCertificate bytes NoEnd
HasFirstFault bytes (Bound fault) = HasBadBound bytes fault

-- What a text says can be read: the certificate can, and the bound can for its problem, and the
-- certificate is of version 1; without a certificate the bound's problem is one.
abbrev pub IsReadable : ShortestText → Type 0
IsReadable (Found rank c b) = IsReadableOf (mate_form c.problem) c × bounds.IsReadable c.problem b × (c.version ≡ One)
IsReadable (NoneWithin limit b) = IsKept b.problem × IsProblem b.problem × bounds.IsReadable b.problem b

-- The text says it, with some moves in the front line.
abbrev pub IsTextOf : ShortestText → List ℕ → Type 0
IsTextOf (Found rank c b) bytes = (front : List ℕ) × IsFrontLine Mate front × (bytes ≡ found_text front rank (certificate_text (certificates.Mate c)) (bound_text b))
IsTextOf (NoneWithin limit b) bytes = bytes ≡ none_text limit b.problem (bound_text b)

-- The outcome to a text: what it says; else its first fault; or want of memory.
abbrev pub IsShortestOutcome : List ℕ → Result ShortestText ShortestEnd → Type 0
IsShortestOutcome bytes (Ok t) = IsReadable t × IsTextOf t bytes
IsShortestOutcome bytes (Err (Fault fault)) = HasFirstFault bytes fault
IsShortestOutcome bytes (Err NoMemory) = Unit {0}

-- The outcome is this, or want of memory.
abbrev pub IsReadAs : ShortestText → Result ShortestText ShortestEnd → Type 0
IsReadAs t (Ok found) = found ≡ t
IsReadAs t (Err (Fault fault)) = ⊥
IsReadAs t (Err NoMemory) = Unit {0}

-- The outcome is this fault, or want of memory.
abbrev pub IsFaultAs : ShortestFault → Result ShortestText ShortestEnd → Type 0
IsFaultAs fault (Ok t) = ⊥
IsFaultAs fault (Err (Fault found)) = found ≡ fault
IsFaultAs fault (Err NoMemory) = Unit {0}
