-- What the bytes of a text stand for.
use Rattle.std.specs.Prelude.{◌≡◌, ℕ, List, Bool, true, false, Result, Ok, Err}
use Rattle.bit_boards.specs.Kind.{other}
use Rattle.board_core.specs.Board.{Board}
use Rattle.board_core.specs.Rest.{board_with_rest}
use Rattle.shogi_rules.specs.Rules.{IsInCheck}
use Rattle.shogi_rules.specs.Tsume.{IsProblem}
use Rattle.sfen_text.specs.Faults.{IsReadingOutcome}
use Rattle.kif_text.specs.Reading.{IsReadingOutcome as IsDiagramOutcome}
use Rattle.tsume_words.specs.declared.form.Format.{Format}
use Rattle.tsume_words.specs.declared.form.Format.TheVariants.{Sfen, Kif}
use Rattle.tsume_words.specs.declared.form.ProblemForm.{ProblemForm}
use Rattle.app_texts.specs.declared.fault.ProblemFault.{ProblemFault}
use Rattle.app_texts.specs.declared.fault.ProblemFault.TheVariants.{Text, Diagram, DefenderInCheck}

-- The position that is searched: the one that was read, with the rest of the pieces in the
-- defender's hand where that is asked for.
abbrev pub searched_board : Bool → Board → Board
searched_board true b = board_with_rest b
searched_board false b = b

-- What a text comes to in a format, as a position alone: the position, or its first fault, of this
-- format and no other.
abbrev pub IsPositionRead : Format → List ℕ → Result Board ProblemFault → Type 0
IsPositionRead Sfen input (Ok position) = IsReadingOutcome input (Ok position)
IsPositionRead Sfen input (Err (Text fault)) = IsReadingOutcome input (Err fault)
IsPositionRead Sfen input (Err (Diagram fault)) = ⊥
IsPositionRead Sfen input (Err DefenderInCheck) = ⊥
IsPositionRead Kif input (Ok position) = IsDiagramOutcome input (Ok position)
IsPositionRead Kif input (Err (Text fault)) = ⊥
IsPositionRead Kif input (Err (Diagram fault)) = IsDiagramOutcome input (Err fault)
IsPositionRead Kif input (Err DefenderInCheck) = ⊥

-- The text is a position's, and the one to be searched is this problem.
pub record IsProblemRead (form : ProblemForm) (input : List ℕ) (problem : Board) : Type 0 where
  pub position : Board
  pub read : IsPositionRead form.format input (Ok position)
  pub searched : problem ≡ searched_board form.rest position
  pub is_problem : IsProblem problem

-- The text is a position's, and in the one to be searched the side that isn't to move is in check.
pub record IsInCheckRead (form : ProblemForm) (input : List ℕ) : Type 0 where
  pub position : Board
  pub read : IsPositionRead form.format input (Ok position)
  pub in_check : IsInCheck (searched_board form.rest position).cells (other (searched_board form.rest position).side)

-- What a text stands for in this form: a problem, or its first fault, one of the text and its
-- position before one of the problem.
abbrev pub StandsFor : ProblemForm → List ℕ → Result Board ProblemFault → Type 0
StandsFor form input (Ok problem) = IsProblemRead form input problem
StandsFor form input (Err (Text fault)) = IsPositionRead form.format input (Err (Text fault))
StandsFor form input (Err (Diagram fault)) = IsPositionRead form.format input (Err (Diagram fault))
StandsFor form input (Err DefenderInCheck) = IsInCheckRead form input

-- A law: no text stands for two things in a form, be they problems or first faults.
abbrev pub OneReading : Type 0
OneReading = (form : ProblemForm) (input : List ℕ) (one other : Result Board ProblemFault) → StandsFor form input one
    → StandsFor form input other → one ≡ other
