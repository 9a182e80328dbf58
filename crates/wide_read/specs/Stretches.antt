-- What the private functions of this crate say of one another; no public clause cites these.
use Rattle.std.specs.Prelude.{◌≡◌, ◌≢◌, ℕ, List, [], ◌∷◌, ◌++◌, Some, slice_get}
use Rattle.std.specs.Ordering.{nat_cmp}
use Rattle.std.specs.Cmp.Lexicographic.{slice_cmp}
use Rattle.std.specs.declared.cmp.Ordering.TheVariants.{Less}
use Rattle.sfen_text.specs.Spelling.{sfen_of}
use Rattle.cert_text.specs.Certificate.{Form}
use Rattle.cert_text.specs.Lines.{AreLines, IsReadOf}
use Rattle.cert_text.specs.declared.lines.LinesStop.{LinesStop}
use Rattle.cert_text.specs.declared.lines.LinesStop.TheVariants.{NoLine, End, Behind, BadLine, NotRising}
use Rattle.cert_text.specs.declared.lines.ReadLines.{ReadLines}

-- The text begins with a stretch that stands for this one, and then comes the rest: the stretch
-- isn't empty, and it is whole lines where more comes behind it.
pub record BeginsSo {A : Type 0} (StandsFor : A → List ℕ → Type 0) (one : A) (more text : List ℕ) : Type 0 where
  pub first : List ℕ
  pub stands : StandsFor one first
  pub whole : text ≡ first ++ more
  pub some : first ≢ []
  pub lines : more ≢ [] → AreLines first

-- The text is cut into stretches, for each of which one of these stands, in their order.
abbrev pub IsCutInto : {A : Type 0} → (A → List ℕ → Type 0) → List A → List ℕ → Type 0
IsCutInto StandsFor [] text = text ≡ []
IsCutInto StandsFor (one ∷ others) text = (more : List ℕ) × BeginsSo StandsFor one more text × IsCutInto StandsFor others more

-- These lines are what is read of the text of a number.
abbrev pub IsReadAt : {A Entry : Type 0} → Form Entry → (A → List ℕ) → List A → ℕ → ReadLines Entry → Type 0
IsReadAt {A} form text_of texts number lines = (text : A) → slice_get texts number ≡ Some text → IsReadOf form lines (text_of text)

-- The first of these entries, if there is one, comes behind an entry with this SFEN text.
abbrev pub IsSeam : {Entry : Type 0} → Form Entry → List ℕ → List Entry → Type 0
IsSeam form last [] = Unit {0}
IsSeam form last (entry ∷ others) = slice_cmp nat_cmp last (sfen_of (form.at entry)) ≡ Less

-- Of a text so much was read, and these are what is read of the stretches that are left.
pub record IsUnderway {Entry : Type 0} (form : Form Entry) (whole : ReadLines Entry) (left : List (ReadLines Entry)) (text : List ℕ) : Type 0 where
  pub done : List ℕ
  pub rest : List ℕ
  pub parts : text ≡ done ++ rest
  pub read : IsReadOf form whole done
  pub lines : rest ≢ [] → AreLines done
  pub others : IsCutInto (IsReadOf form) left rest

-- The SFEN text of the last entry, where these come behind an entry with the one text, and the
-- other is that of their last.
abbrev pub last_behind : {Entry : Type 0} → List Entry → List ℕ → List ℕ → List ℕ
last_behind [] last next = last
last_behind (entry ∷ others) last next = next

-- Why the reading stops, where more comes behind the text in which it did.
abbrev pub stop_before_more : LinesStop → LinesStop
stop_before_more NoLine = NoLine
stop_before_more End = Behind
stop_before_more Behind = Behind
stop_before_more BadLine = BadLine
stop_before_more NotRising = NotRising
