-- Laws about texts that tell the shortest mate.
use Rattle.std.specs.Prelude.{◌≡◌, ℕ, List}
use Rattle.shortest_text.specs.declared.text.ShortestText.{ShortestText}
use Rattle.shortest_text.specs.declared.fault.ShortestFault.{ShortestFault}
use Rattle.shortest_text.specs.Reading.{HasFirstFault, IsReadable, IsTextOf}

-- A law: no text says two things that can be read.
abbrev pub ShortestTextsApart : Type 0
ShortestTextsApart = (a b : ShortestText) (bytes : List ℕ) → IsReadable a → IsReadable b → IsTextOf a bytes → IsTextOf b bytes → a ≡ b

-- A law: no text has two first faults.
abbrev pub OneShortestFault : Type 0
OneShortestFault = (bytes : List ℕ) (one other : ShortestFault) → HasFirstFault bytes one → HasFirstFault bytes other → one ≡ other

-- A law: a text that says what can be read has no fault.
abbrev pub ShortestTextsAreFaultless : Type 0
ShortestTextsAreFaultless = (t : ShortestText) (bytes : List ℕ) (fault : ShortestFault) → IsReadable t → IsTextOf t bytes → ¬ HasFirstFault bytes fault
