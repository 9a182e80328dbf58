-- What a position line comes to: the problem after its moves, or why there is none.
use Rattle.std.specs.Prelude.{◌≡◌, ◌⊎◌, ◌+◌, ◌∷◌, [], ℕ, List, Some, Result, Ok, Err}
use Rattle.bit_boards.specs.Kind.{other}
use Rattle.board_core.specs.Board.{Board, HasDefender}
use Rattle.board_core.specs.declared.moves.Move.{Move}
use Rattle.shogi_rules.specs.Rules.{IsInCheck, IsLegal, after}
use Rattle.shogi_rules.specs.Tsume.{IsProblem}
use Rattle.usi_text.specs.MoveText.{IsRead}
use Rattle.sfen_text.specs.Faults.{IsReadingOutcome}
use Rattle.sfen_text.specs.declared.fault.TextFault.{TextFault}

-- Why a position line makes no problem: its SFEN spells no position with a king of the side that
-- isn't to move, or one where that side is in check; the move of this number, from 1, whose field
-- this is, isn't legal; or the side that isn't to move after the moves has no king.
pub data Refusal : Type 0 where
  BadSfen : TextFault → Refusal
  DefenderInCheck : Refusal
  IllegalMove : ℕ → List ℕ → Refusal
  NoDefenderKing : Refusal

-- The field is the text of this move, which is legal on the position, whoever is to move.
abbrev pub IsMoveOn : Board → List ℕ → Move → Type 0
IsMoveOn b field move = IsRead field (Some move) × IsLegal b move

-- From the position the moves of the fields, each legal where it is made, lead to this one.
abbrev pub LeadTo : Board → List (List ℕ) → Board → Type 0
LeadTo b [] last = last ≡ b
LeadTo b (field ∷ fields) last = (move : Move) × IsMoveOn b field move × LeadTo (after b move) fields last

-- Of the fields, counted from this number on, the first that is no legal move has this number and
-- this text.
abbrev pub HasFirstIllegal : Board → ℕ → List (List ℕ) → ℕ → List ℕ → Type 0
HasFirstIllegal b here [] number text = ⊥
HasFirstIllegal b here (field ∷ fields) number text =
    ((number ≡ here) × (text ≡ field) × ((move : Move) → ¬ IsMoveOn b field move))
    ⊎ ((move : Move) × IsMoveOn b field move × HasFirstIllegal (after b move) (here + 1) fields number text)

-- The SFEN spells this problem.
abbrev pub SpellsProblem : List ℕ → Board → Type 0
SpellsProblem sfen b = IsReadingOutcome sfen (Ok b) × IsProblem b

-- What an SFEN and the fields behind `moves` come to: the problem after the moves; or the first of
-- what is wrong.
abbrev pub IsPositionOutcome : List ℕ → List (List ℕ) → Result Board Refusal → Type 0
IsPositionOutcome sfen moves (Ok problem) = (first : Board) × SpellsProblem sfen first × LeadTo first moves problem × IsProblem problem
IsPositionOutcome sfen moves (Err (BadSfen fault)) = IsReadingOutcome sfen (Err fault)
IsPositionOutcome sfen moves (Err DefenderInCheck) = (first : Board) × IsReadingOutcome sfen (Ok first) × IsInCheck first.cells (other first.side)
IsPositionOutcome sfen moves (Err (IllegalMove number text)) = (first : Board) × SpellsProblem sfen first × HasFirstIllegal first 1 moves number text
IsPositionOutcome sfen moves (Err NoDefenderKing) = (first : Board) × SpellsProblem sfen first × ((last : Board) × LeadTo first moves last × ¬ HasDefender last)
