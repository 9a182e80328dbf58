-- What a KIF text with moves stands for, or its first fault.
use Rattle.std.specs.Prelude.{◌≡◌, ℕ, List, Result, Ok, Err, None}
use Rattle.bit_boards.specs.Kind.{other}
use Rattle.board_core.specs.declared.moves.Move.{Move}
use Rattle.board_core.specs.Board.{Board, HasDefender}
use Rattle.board_core.specs.Kept.{IsKept}
use Rattle.shogi_rules.specs.Rules.{IsInCheck}
use Rattle.shogi_rules.specs.Tsume.{IsProblem}
use Rattle.kif_text.specs.Reading as diagrams
use Rattle.kif_moves.specs.declared.fault.KifMovesFault.{KifMovesFault}
use Rattle.kif_moves.specs.declared.fault.KifMovesFault.TheVariants.{Diagram, DefenderInCheck, BadMove, IllegalMove, WrongPiece, NoCheck}
use Rattle.kif_moves.specs.declared.fault.KifMovesEnd.{KifMovesEnd}
use Rattle.kif_moves.specs.declared.fault.KifMovesEnd.TheVariants.{Fault, NoMemory}
use Rattle.kif_moves.specs.declared.read.KifSolution.{KifSolution}
use Rattle.kif_moves.specs.Lines.{move_lines}
use Rattle.kif_moves.specs.Playing.{AreInTurn, SayAll, HasFirstLineFault}

-- The text stands for the problem and the moves: its header spells the problem, the lines behind it
-- say the moves, and these are checks and evasions in turn.
pub record StandsFor (input : List ℕ) (problem : Board) (moves : List Move) : Type 0 where
  pub spells : diagrams.Spells input problem
  pub kept : IsKept problem
  pub is_problem : IsProblem problem
  pub said : SayAll problem None (move_lines input) moves
  pub in_turn : AreInTurn problem.side problem moves

-- The header spells a position in which the defender is in check.
pub record HasCheckedDefender (input : List ℕ) : Type 0 where
  pub position : Board
  pub spells : diagrams.Spells input position
  pub kept : IsKept position
  pub has_king : HasDefender position
  pub check : IsInCheck position.cells (other position.side)

-- The header spells a problem, and of the lines behind it the first one with a fault has this one.
pub record HasMoveFault (input : List ℕ) (fault : KifMovesFault) : Type 0 where
  pub problem : Board
  pub spells : diagrams.Spells input problem
  pub kept : IsKept problem
  pub is_problem : IsProblem problem
  pub first : HasFirstLineFault problem.side problem None (move_lines input) fault

-- The input has the fault, and it is its first one: those of the header come first.
abbrev pub HasFirstFault : List ℕ → KifMovesFault → Type 0
HasFirstFault input (Diagram fault) = diagrams.HasFirstFault input fault
HasFirstFault input DefenderInCheck = HasCheckedDefender input
HasFirstFault input (BadMove line) = HasMoveFault input (BadMove line)
HasFirstFault input (IllegalMove line) = HasMoveFault input (IllegalMove line)
HasFirstFault input (WrongPiece line) = HasMoveFault input (WrongPiece line)
HasFirstFault input (NoCheck line) = HasMoveFault input (NoCheck line)

-- The outcome to an input: the problem and the moves that it stands for; else its first fault; or
-- want of memory.
abbrev pub IsMovesOutcome : List ℕ → Result KifSolution KifMovesEnd → Type 0
IsMovesOutcome input (Ok solution) = StandsFor input solution.problem.position solution.moves.items
IsMovesOutcome input (Err (Fault fault)) = HasFirstFault input fault
IsMovesOutcome input (Err NoMemory) = Unit {0}

-- The outcome is this problem and these moves, or want of memory.
abbrev pub IsReadAs : Board → List Move → Result KifSolution KifMovesEnd → Type 0
IsReadAs problem moves (Ok solution) = (solution.problem.position ≡ problem) × (solution.moves.items ≡ moves)
IsReadAs problem moves (Err (Fault fault)) = ⊥
IsReadAs problem moves (Err NoMemory) = Unit {0}

-- The outcome is this fault, or want of memory.
abbrev pub IsFaultAs : KifMovesFault → Result KifSolution KifMovesEnd → Type 0
IsFaultAs fault (Ok solution) = ⊥
IsFaultAs fault (Err (Fault found)) = found ≡ fault
IsFaultAs fault (Err NoMemory) = Unit {0}

-- A law: no text stands for two problems or two lists of moves.
abbrev pub KifMovesApart : Type 0
KifMovesApart = (input : List ℕ) (p q : Board) (ms ns : List Move) → StandsFor input p ms → StandsFor input q ns → (p ≡ q) × (ms ≡ ns)

-- A law: no text has two first faults.
abbrev pub OneKifMovesFault : Type 0
OneKifMovesFault = (input : List ℕ) (one other : KifMovesFault) → HasFirstFault input one → HasFirstFault input other → one ≡ other

-- A law: a text that stands for a problem and moves has no fault.
abbrev pub KifMovesAreFaultless : Type 0
KifMovesAreFaultless = (input : List ℕ) (p : Board) (ms : List Move) (fault : KifMovesFault) → StandsFor input p ms → ¬ HasFirstFault input fault
