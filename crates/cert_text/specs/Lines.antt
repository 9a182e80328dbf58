-- What is read of lines that are a stretch of a certificate's, by themselves.
use Rattle.std.specs.Prelude.{◌≡◌, ◌≢◌, ◌⊎◌, ℕ, List, [], ◌∷◌, ◌++◌, codes, length, map}
use Rattle.cert_text.specs.Entries.{line}
use Rattle.cert_text.specs.Certificate.{IsRising, Form, MayBeListed}
use Rattle.cert_text.specs.Text.{end_line}
use Rattle.cert_text.specs.Reading.{Lacks}
use Rattle.cert_text.specs.Scan.{HasRead}
use Rattle.cert_text.specs.declared.fault.CertFault.{CertFault}
use Rattle.cert_text.specs.declared.fault.CertFault.TheVariants as faults
use Rattle.cert_text.specs.declared.lines.ReadLines.{ReadLines}
use Rattle.cert_text.specs.declared.lines.LinesStop.{LinesStop}
use Rattle.cert_text.specs.declared.lines.LinesStop.TheVariants.{NoLine, End, Behind, BadLine, NotRising}

-- The text is whole lines: it is empty, or a line feed is its last byte.
abbrev pub AreLines : List ℕ → Type 0
AreLines text = (text ≡ []) ⊎ ((front : List ℕ) × (text ≡ front ++ 10 ∷ []))

-- A line that isn't `end` and is no entry comes next.
pub record HasBadNext {Entry : Type 0} (form : Form Entry) (rest : List ℕ) : Type 0 where
  pub bad : List ℕ
  pub is_line : Lacks 10 bad
  pub no_end : bad ≢ codes "end"
  pub no_entry : (entry : Entry) → MayBeListed form entry → form.text_of entry ≡ line bad → ⊥
  pub more : List ℕ
  pub text : rest ≡ line bad ++ more

-- An entry that may stand in a text and doesn't rise behind these comes next.
pub record HasFallingNext {Entry : Type 0} (form : Form Entry) (entries : List Entry) (rest : List ℕ) : Type 0 where
  pub next : Entry
  pub fits : MayBeListed form next
  pub falls : IsRising (map form.at (entries ++ next ∷ [])) → ⊥
  pub more : List ℕ
  pub text : rest ≡ form.text_of next ++ more

-- What comes behind these entries, where the reading stopped.
abbrev pub StopsAt : {Entry : Type 0} → Form Entry → List Entry → List ℕ → LinesStop → Type 0
StopsAt form entries rest NoLine = Lacks 10 rest
StopsAt form entries rest End = rest ≡ end_line
StopsAt form entries rest Behind = (behind : List ℕ) × (behind ≢ []) × (rest ≡ end_line ++ behind)
StopsAt form entries rest BadLine = HasBadNext form rest
StopsAt form entries rest NotRising = HasFallingNext form entries rest

-- At the front of a text good entries were read, the last with this SFEN text, up to where the
-- reading stopped.
pub record AreRead {Entry : Type 0} (form : Form Entry) (text : List ℕ) (entries : List Entry) (last : List ℕ) (stop : LinesStop) : Type 0 where
  pub rest : List ℕ
  pub read : HasRead form text entries rest last
  pub stops : StopsAt form entries rest stop

-- These lines are what is read of a text.
abbrev pub IsReadOf : {Entry : Type 0} → Form Entry → ReadLines Entry → List ℕ → Type 0
IsReadOf form lines text = AreRead form text lines.entries.items lines.last.now lines.stop

-- Why the reading stops at the line `end`, by what comes behind it.
abbrev pub IsStopAtEnd : List ℕ → LinesStop → Type 0
IsStopAtEnd behind NoLine = ⊥
IsStopAtEnd behind End = behind ≡ []
IsStopAtEnd behind Behind = behind ≢ []
IsStopAtEnd behind BadLine = ⊥
IsStopAtEnd behind NotRising = ⊥

-- The fault where the reading stopped before the line of this number, or at the line `end` behind
-- the wrong number of entries.
abbrev pub fault_of : LinesStop → ℕ → CertFault
fault_of NoLine number = faults.NoEnd
fault_of End number = faults.WrongCount
fault_of Behind number = faults.NoEnd
fault_of BadLine number = faults.BadLine number
fault_of NotRising number = faults.NotRising number

-- The entries are all that the head names, and the line `end` is the last.
abbrev pub AreAll : {Entry : Type 0} → List Entry → LinesStop → ℕ → Type 0
AreAll entries stop count = (stop ≡ End) × (length entries ≡ count)
