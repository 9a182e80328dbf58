-- How the faults of a KIF text print.
use Rattle.std.specs.Prelude.{◌++◌, ℕ, List, codes}
use Rattle.std.specs.Fmt.{decimal}
use Rattle.sfen_text.specs.FaultText.{bad_position_text}
use Rattle.kif_text.specs.declared.fault.KifFault.{KifFault}
use Rattle.kif_text.specs.declared.fault.KifFault.TheVariants.{NotUtf8, HandicapName, BadCell, BadHand, BadCount, HandTwice, NoDiagram, BadPosition}

-- What is wrong with a text, in words, with its byte, its line, or its row and column; or what is
-- wrong with the position.
abbrev pub fault_text : KifFault → List ℕ
fault_text (NotUtf8 at) = codes "not UTF-8 at " ++ decimal at
fault_text (HandicapName line) = codes "handicap name in line " ++ decimal line
fault_text (BadCell row column) = codes "bad cell " ++ decimal row ++ codes " " ++ decimal column
fault_text (BadHand line) = codes "bad hand at " ++ decimal line
fault_text (BadCount line) = codes "bad count in line " ++ decimal line
fault_text (HandTwice line) = codes "hand twice at " ++ decimal line
fault_text NoDiagram = codes "no diagram"
fault_text (BadPosition bad) = bad_position_text bad
