-- Laws about bounds and their texts.
use Rattle.std.specs.Prelude.{◌≡◌, ℕ, List}
use Rattle.board_core.specs.Board.{Board}
use Rattle.cert_text.specs.Certificate.{CertificateView}
use Rattle.bound_text.specs.declared.entry.BoundEntry.{BoundEntry}
use Rattle.bound_text.specs.Text.{bound_text}
use Rattle.bound_text.specs.Reading.{HasFirstFault, IsReadable}

-- A law: no two bounds that can be read for one problem have one text.
abbrev pub BoundTextsApart : Type 0
BoundTextsApart = (problem : Board) (a b : CertificateView BoundEntry) → IsReadable problem a → IsReadable problem b
    → bound_text a ≡ bound_text b → a ≡ b

-- A law: in no text two lines are the first that is wrong.
abbrev pub OneBoundFault : Type 0
OneBoundFault = (problem : Board) (bytes : List ℕ) (one other : ℕ) → HasFirstFault problem bytes one → HasFirstFault problem bytes other
    → one ≡ other

-- A law: the text of a bound that can be read has no fault.
abbrev pub BoundTextsAreFaultless : Type 0
BoundTextsAreFaultless = (problem : Board) (b : CertificateView BoundEntry) (line : ℕ) → IsReadable problem b
    → ¬ HasFirstFault problem (bound_text b) line
