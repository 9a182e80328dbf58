-- Laws about libraries and their texts.
use Rattle.std.specs.Prelude.{◌≡◌, ℕ, List}
use Rattle.cert_text.specs.declared.certificate.Certificate.{Certificate}
use Rattle.library_text.specs.declared.fault.LibraryFault.{LibraryFault}
use Rattle.library_text.specs.Reading.{HasFirstFault, IsReadable, IsTextOf}

-- A law: no two libraries that can be read have one text.
abbrev pub LibraryTextsApart : Type 0
LibraryTextsApart = (a b : List Certificate) (bytes : List ℕ) → IsReadable a → IsReadable b → IsTextOf a bytes → IsTextOf b bytes → a ≡ b

-- A law: no text has two first faults.
abbrev pub OneLibraryFault : Type 0
OneLibraryFault = (bytes : List ℕ) (one other : LibraryFault) → HasFirstFault bytes one → HasFirstFault bytes other → one ≡ other

-- A law: the text of a library that can be read has no fault.
abbrev pub LibraryTextsAreFaultless : Type 0
LibraryTextsAreFaultless = (certificates : List Certificate) (bytes : List ℕ) (fault : LibraryFault) → IsReadable certificates → IsTextOf certificates bytes
    → ¬ HasFirstFault bytes fault
