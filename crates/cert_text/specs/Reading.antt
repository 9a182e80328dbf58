-- What a text is read as: the certificate whose text it is, or the text's first fault. Relations
-- between whole texts and outcomes.
use Rattle.std.specs.Prelude.{◌≡◌, ◌≢◌, ◌⊎◌, ◌+◌, ◌<◌, ◌≤◌, ℕ, List, [], ◌∷◌, ◌++◌, codes, length, map, Result, Ok, Err}
use Rattle.std.specs.List.{AllByRecursion}
use Rattle.board_core.specs.declared.moves.Move.{Move}
use Rattle.board_core.specs.Board.{Board}
use Rattle.board_core.specs.Kept.{IsKept}
use Rattle.shogi_rules.specs.Tsume.{IsProblem}
use Rattle.usi_text.specs.Lines.{mate_text, nomate_text, AllHaveText}
use Rattle.sfen_text.specs.Spelling.{sfen_of}
use Rattle.cert_text.specs.declared.limits.TheConstants.{MOST_ENTRIES}
use Rattle.cert_text.specs.Entries.{line}
use Rattle.cert_text.specs.Kinds.{claim_of}
use Rattle.cert_text.specs.Certificate.{CertificateView, IsRising, Form, mate_form, escape_form, MayBeListed}
use Rattle.cert_text.specs.Text.{title_text, entries_text, end_line, certificate_text}
use Rattle.cert_text.specs.declared.certificate.Certificate.{Certificate}
use Rattle.cert_text.specs.declared.certificate.Certificate.TheVariants as certificates
use Rattle.cert_text.specs.declared.fault.CertFault.{CertFault}
use Rattle.cert_text.specs.declared.fault.CertFault.TheVariants.{BadHead, BadLine, NotRising, WrongCount, NoEnd}
use Rattle.cert_text.specs.declared.fault.CertEnd.{CertEnd}
use Rattle.cert_text.specs.declared.fault.CertEnd.TheVariants as ends
use Rattle.cert_text.specs.declared.head.Claim.{Claim}
use Rattle.cert_text.specs.declared.head.Claim.TheVariants.{Mate, Escape}
use Rattle.cert_text.specs.declared.head.Title.{Title}

-- The byte isn't in the text.
abbrev pub Lacks : ℕ → List ℕ → Type 0
Lacks byte [] = Unit {0}
Lacks byte (first ∷ text) = (first ≢ byte) × Lacks byte text

-- A line that may stand in front of a certificate: before an escape `checkmate nomate`, before a
-- mate `checkmate` and one or more moves, a space before each.
abbrev pub IsFrontLine : Claim → List ℕ → Type 0
IsFrontLine Escape text = text ≡ nomate_text
IsFrontLine Mate text = (moves : List Move) × (0 < length moves) × AllHaveText moves × (text ≡ mate_text moves)

-- So many entries are read: 1 to `MOST_ENTRIES`.
abbrev pub IsReadCount : ℕ → Type 0
IsReadCount count = (1 ≤ count) × (count ≤ MOST_ENTRIES)

-- The two lines of a head with this SFEN text, and the rest behind them.
abbrev pub headed_text : Title → ℕ → List ℕ → List ℕ → List ℕ
headed_text title count sfen rest = title_text title count ++ 10 ∷ (codes "problem " ++ (sfen ++ 10 ∷ rest))

-- Nothing, or the one line that may stand in front.
abbrev pub IsFrontOrNone : Claim → List ℕ → Type 0
IsFrontOrNone claim front = (front ≡ []) ⊎ ((text : List ℕ) × IsFrontLine claim text × (front ≡ line text))

-- The text begins with the two lines of a head, perhaps behind the one front line, and then comes
-- the rest.
pub record IsHead (title : Title) (count : ℕ) (sfen rest bytes : List ℕ) : Type 0 where
  pub is_count : IsReadCount count
  pub is_line : Lacks 10 sfen
  pub front : List ℕ
  pub is_front : IsFrontOrNone title.claim front
  pub text : bytes ≡ front ++ headed_text title count sfen rest

-- The text begins with a head whose problem is one.
pub record BeginsWith (title : Title) (count : ℕ) (problem : Board) (rest bytes : List ℕ) : Type 0 where
  pub head : IsHead title count (sfen_of problem) rest bytes
  pub kept : IsKept problem
  pub is_problem : IsProblem problem

-- The entries may stand in a text, and they rise.
pub record AreGood {Entry : Type 0} (form : Form Entry) (entries : List Entry) : Type 0 where
  pub fit : AllByRecursion (MayBeListed form) entries
  pub rising : IsRising (map form.at entries)

-- Behind good entries, one less than the number, comes a line that isn't `end` and is no entry.
pub record HasBadLine {Entry : Type 0} (form : Form Entry) (number : ℕ) (bytes : List ℕ) : Type 0 where
  pub entries : List Entry
  pub good : AreGood form entries
  pub number_is : number ≡ length entries + 1
  pub bad : List ℕ
  pub is_line : Lacks 10 bad
  pub no_end : bad ≢ codes "end"
  pub no_entry : (entry : Entry) → MayBeListed form entry → form.text_of entry ≡ line bad → ⊥
  pub rest : List ℕ
  pub text : bytes ≡ entries_text form entries ++ (line bad ++ rest)

-- Behind good entries, one less than the number, comes an entry that may stand in a text and
-- doesn't rise.
pub record HasFallingLine {Entry : Type 0} (form : Form Entry) (number : ℕ) (bytes : List ℕ) : Type 0 where
  pub entries : List Entry
  pub good : AreGood form entries
  pub number_is : number ≡ length entries + 1
  pub next : Entry
  pub fits : MayBeListed form next
  pub falls : IsRising (map form.at (entries ++ next ∷ [])) → ⊥
  pub rest : List ℕ
  pub text : bytes ≡ entries_text form entries ++ (form.text_of next ++ rest)

-- Behind good entries no further line comes; or the line `end` comes, and bytes behind it.
pub record HasNoEnd {Entry : Type 0} (form : Form Entry) (bytes : List ℕ) : Type 0 where
  pub entries : List Entry
  pub good : AreGood form entries
  pub rest : List ℕ
  pub open_end : Lacks 10 rest ⊎ ((behind : List ℕ) × (behind ≢ []) × (rest ≡ end_line ++ behind))
  pub text : bytes ≡ entries_text form entries ++ rest

-- Good entries, and the line `end` last.
pub record Ends {Entry : Type 0} (form : Form Entry) (entries : List Entry) (bytes : List ℕ) : Type 0 where
  pub good : AreGood form entries
  pub text : bytes ≡ entries_text form entries ++ end_line

-- The fault is the first one of the lines behind a head that names so many entries.
abbrev pub HasLineFault : {Entry : Type 0} → Form Entry → ℕ → List ℕ → CertFault → Type 0
HasLineFault form count bytes BadHead = ⊥
HasLineFault form count bytes (BadLine number) = HasBadLine form number bytes
HasLineFault form count bytes (NotRising number) = HasFallingLine form number bytes
HasLineFault form count bytes NoEnd = HasNoEnd form bytes
HasLineFault {Entry} form count bytes WrongCount = (entries : List Entry) × Ends form entries bytes × (length entries ≢ count)

-- The fault is the first one of the lines behind a head.
abbrev pub HasFaultBehind : Claim → ℕ → Board → List ℕ → CertFault → Type 0
HasFaultBehind Mate count problem bytes fault = HasLineFault (mate_form problem) count bytes fault
HasFaultBehind Escape count problem bytes fault = HasLineFault (escape_form problem) count bytes fault

-- Behind a head, which the text begins with, comes the fault.
pub record HasLaterFault (bytes : List ℕ) (fault : CertFault) : Type 0 where
  pub title : Title
  pub count : ℕ
  pub problem : Board
  pub rest : List ℕ
  pub begins : BeginsWith title count problem rest bytes
  pub later : HasFaultBehind title.claim count problem rest fault

-- No head stands at the front of the text.
abbrev pub HasNoHead : List ℕ → Type 0
HasNoHead bytes = (title : Title) (count : ℕ) (problem : Board) (rest : List ℕ) → BeginsWith title count problem rest bytes → ⊥

-- The text has the fault, and none before it.
abbrev pub HasFirstFault : List ℕ → CertFault → Type 0
HasFirstFault bytes BadHead = HasNoHead bytes
HasFirstFault bytes (BadLine number) = HasLaterFault bytes (BadLine number)
HasFirstFault bytes (NotRising number) = HasLaterFault bytes (NotRising number)
HasFirstFault bytes WrongCount = HasLaterFault bytes WrongCount
HasFirstFault bytes NoEnd = HasLaterFault bytes NoEnd

-- A certificate with such entries can be read: its problem is one, it has so many entries as are
-- read, and they may stand in a text and rise.
pub record IsReadableOf {Entry : Type 0} (form : Form Entry) (c : CertificateView Entry) : Type 0 where
  pub kept : IsKept c.problem
  pub is_problem : IsProblem c.problem
  pub count : IsReadCount (length c.entries)
  pub good : AreGood form c.entries

-- The same of a mate and of an escape.
abbrev pub IsReadable : Certificate → Type 0
IsReadable (certificates.Mate c) = IsReadableOf (mate_form c.problem) c
IsReadable (certificates.Escape c) = IsReadableOf (escape_form c.problem) c

-- The text is the certificate's, perhaps behind the one front line.
abbrev pub IsTextOf : Certificate → List ℕ → Type 0
IsTextOf c bytes = (front : List ℕ) × IsFrontOrNone (claim_of c) front × (bytes ≡ front ++ certificate_text c)

-- The outcome to a text: the certificate whose text it is; else its first fault; or want of memory.
abbrev pub IsCertificateOutcome : List ℕ → Result Certificate CertEnd → Type 0
IsCertificateOutcome bytes (Ok c) = IsReadable c × IsTextOf c bytes
IsCertificateOutcome bytes (Err (ends.Fault fault)) = HasFirstFault bytes fault
IsCertificateOutcome bytes (Err ends.NoMemory) = Unit {0}

-- The outcome is this certificate, or want of memory.
abbrev pub IsReadAs : Certificate → Result Certificate CertEnd → Type 0
IsReadAs c (Ok found) = found ≡ c
IsReadAs c (Err (ends.Fault fault)) = ⊥
IsReadAs c (Err ends.NoMemory) = Unit {0}

-- The outcome is this fault, or want of memory.
abbrev pub IsFaultAs : CertFault → Result Certificate CertEnd → Type 0
IsFaultAs fault (Ok c) = ⊥
IsFaultAs fault (Err (ends.Fault found)) = found ≡ fault
IsFaultAs fault (Err ends.NoMemory) = Unit {0}

-- A certificate has so many entries as are read: one at least, and no more than `MOST_ENTRIES`.
abbrev pub IsWithinLimits : Certificate → Type 0
IsWithinLimits (certificates.Mate c) = IsReadCount (length c.entries)
IsWithinLimits (certificates.Escape c) = IsReadCount (length c.entries)
