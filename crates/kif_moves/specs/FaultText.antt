-- How the faults of a KIF text with moves print.
use Rattle.std.specs.Prelude.{◌++◌, ℕ, List, codes}
use Rattle.std.specs.Fmt.{decimal}
use Rattle.kif_text.specs.FaultText.{fault_text}
use Rattle.kif_moves.specs.declared.fault.KifMovesFault.{KifMovesFault}
use Rattle.kif_moves.specs.declared.fault.KifMovesFault.TheVariants.{Diagram, DefenderInCheck, BadMove, IllegalMove, WrongPiece, NoCheck}

-- What is wrong with a text, in words, with its line; what is wrong with the diagram, as its fault
-- prints.
abbrev pub moves_fault_text : KifMovesFault → List ℕ
moves_fault_text (Diagram fault) = fault_text fault
moves_fault_text DefenderInCheck = codes "defender in check"
moves_fault_text (BadMove line) = codes "bad move in line " ++ decimal line
moves_fault_text (IllegalMove line) = codes "illegal move in line " ++ decimal line
moves_fault_text (WrongPiece line) = codes "wrong piece in line " ++ decimal line
moves_fault_text (NoCheck line) = codes "no check in line " ++ decimal line
