-- What the lines of a header say together, and their first fault.
use Rattle.std.specs.Prelude.{◌≡◌, ◌+◌, ℕ, List, [], ◌∷◌, length, Option, Some, None, unwrap_or, if◌then◌else◌}
use Rattle.std.specs.List.{flat_map}
use Rattle.bit_boards.specs.declared.piece.Side.{Side}
use Rattle.bit_boards.specs.declared.piece.Side.TheVariants.{Black, White}
use Rattle.bit_boards.specs.Kind.{same_side}
use Rattle.board_core.specs.Board.{Board}
use Rattle.kif_text.specs.declared.fault.KifFault.{KifFault}
use Rattle.kif_text.specs.declared.fault.KifFault.TheVariants.{HandicapName}
use Rattle.kif_text.specs.Lines.{Meaning, other, handicap, in_hand, row, turn, meaning}
use Rattle.kif_text.specs.Words.{HasHandFault, hand_of}
use Rattle.kif_text.specs.Rows.{HasRowFault, cells_of}
use Rattle.kif_text.specs.First.{HasNone}

-- The rows that a line gives to the diagram: one, or none.
abbrev pub row_said : Meaning → List (List ℕ)
row_said (row characters) = characters ∷ []
row_said said = []

-- The rows of the diagram, in the order of the lines.
unfoldable pub rows_of : List (List ℕ) → List (List ℕ)
rows_of list = flat_map (λ line. row_said (meaning line)) list

-- The text of a side's hand, where it is said.
abbrev pub hand_said : Side → Meaning → Option (List ℕ)
hand_said side (in_hand whose text) = if same_side whose side then Some text else None
hand_said side said = None

-- Whose turn it is, where it is said.
abbrev pub turn_said : Meaning → Option Side
turn_said (turn side) = Some side
turn_said said = None

-- The first of two, where it is there; else the second.
abbrev pub or_else : {X : Type 0} → Option X → Option X → Option X
or_else None y = y
or_else (Some x) y = Some x

-- What the last line says that says something of the matter.
unfoldable pub last_said : {X : Type 0} → (Meaning → Option X) → List (List ℕ) → Option X
last_said says [] = None
last_said says (line ∷ list) = or_else (last_said says list) (says (meaning line))

-- What is wrong with a line of this number, behind so many rows, by what it says.
abbrev pub HasFaultSaid : ℕ → ℕ → Meaning → KifFault → Type 0
HasFaultSaid line rows other fault = ⊥
HasFaultSaid line rows handicap fault = fault ≡ HandicapName line
HasFaultSaid line rows (in_hand side text) fault = HasHandFault line text fault
HasFaultSaid line rows (row characters) fault = HasRowFault rows characters fault
HasFaultSaid line rows (turn side) fault = ⊥

-- The line has the fault behind these lines. Lines count from 1.
abbrev pub HasLineFault : List (List ℕ) → List ℕ → KifFault → Type 0
HasLineFault before line fault = HasFaultSaid (length before + 1) (length (rows_of before)) (meaning line) fault

-- The lines give these cells, hands and side: no line is faulty, there are nine rows, each hand is
-- what the last line of it names, and the side to move is the one that is named last; Black, where
-- none is.
pub record Shows (list : List (List ℕ)) (b : Board) : Type 0 where
  pub well : HasNone HasLineFault list
  pub nine : length (rows_of list) ≡ 9
  pub cells : b.cells ≡ cells_of (rows_of list)
  pub black : b.black ≡ hand_of (last_said (hand_said Black) list)
  pub white : b.white ≡ hand_of (last_said (hand_said White) list)
  pub side : b.side ≡ unwrap_or (last_said turn_said list) Black
