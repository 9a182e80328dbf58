-- A line of moves from a problem: the attacker's checks and the defender's evasions in turn, as a
-- text says them, with a single space between two.
use Rattle.std.specs.Prelude.{◌≡◌, ◌≢◌, ◌⊎◌, ◌+◌, ◌∷◌, [], ℕ, List, Some}
use Rattle.std.specs.List.{slice_split}
use Rattle.bit_boards.specs.declared.piece.Side.{Side}
use Rattle.board_core.specs.declared.moves.Move.{Move}
use Rattle.board_core.specs.Board.{Board}
use Rattle.sfen_text.specs.Bytes.{is_space}
use Rattle.usi_text.specs.MoveText.{IsRead}
use Rattle.shogi_rules.specs.Rules.{after}
use Rattle.kif_moves.specs.Playing.{IsInTurn, AreInTurn}
use Rattle.cook_line.specs.declared.ends.LineEnd.{LineEnd}
use Rattle.cook_line.specs.declared.ends.LineEnd.TheVariants.{BadMove, NoMemory}

-- The parts into which a text is cut at its spaces. There is one at least, and each may be empty.
abbrev pub parts_of : List ℕ → List (List ℕ)
parts_of text = slice_split is_space text

-- The part is the text of this move, which is a check or an evasion on the position.
abbrev pub IsMoveOn : Side → Board → List ℕ → Move → Type 0
IsMoveOn attacker b part move = IsRead part (Some move) × IsInTurn attacker b move

-- The parts are these moves, one each, each a check or an evasion where it is made.
abbrev pub SayMoves : Side → Board → List (List ℕ) → List Move → Type 0
SayMoves attacker b [] [] = Unit {0}
SayMoves attacker b [] (move ∷ moves) = ⊥
SayMoves attacker b (part ∷ parts) [] = ⊥
SayMoves attacker b (part ∷ parts) (move ∷ moves) = IsMoveOn attacker b part move × SayMoves attacker (after b move) parts moves

-- Of the parts, counted from this number on, the first that is no such move has this number.
abbrev pub HasFirstBad : Side → Board → ℕ → List (List ℕ) → ℕ → Type 0
HasFirstBad attacker b here [] number = ⊥
HasFirstBad attacker b here (part ∷ parts) number =
    ((number ≡ here) × ((move : Move) → ¬ IsMoveOn attacker b part move))
    ⊎ ((move : Move) × IsMoveOn attacker b part move × HasFirstBad attacker (after b move) (here + 1) parts number)

-- The text says this line of moves from the problem.
abbrev pub SaysLine : Board → List ℕ → List Move → Type 0
SaysLine p text moves = SayMoves p.side p (parts_of text) moves

-- The part of the text with this number, from 1, is the first that is no move of a line from the
-- problem.
abbrev pub HasBadMove : Board → List ℕ → ℕ → Type 0
HasBadMove p text number = HasFirstBad p.side p 1 (parts_of text) number

-- Why a text says no line from the problem: its part of this number is the first that is no move;
-- or memory was wanted.
abbrev pub IsLineEnd : Board → List ℕ → LineEnd → Type 0
IsLineEnd p text (BadMove number) = HasBadMove p text number
IsLineEnd p text NoMemory = Unit {0}

-- A law: a text that says a line has no part that is no move.
abbrev pub LinesAreFaultless : Type 0
LinesAreFaultless = (p : Board) (text : List ℕ) (moves : List Move) (number : ℕ) → SaysLine p text moves → ¬ HasBadMove p text number

-- A law: no text has two first parts that are no moves.
abbrev pub OneBadMove : Type 0
OneBadMove = (p : Board) (text : List ℕ) (number other : ℕ) → HasBadMove p text number → HasBadMove p text other → number ≡ other

-- The moves are checks and evasions in turn, one at least.
pub record IsLine (p : Board) (moves : List Move) : Type 0 where
  pub in_turn : AreInTurn p.side p moves
  pub some : moves ≢ []

-- A law: what a text says is checks and evasions in turn, one at least.
abbrev pub LinesAreInTurn : Type 0
LinesAreInTurn = (p : Board) (text : List ℕ) (moves : List Move) → SaysLine p text moves → IsLine p moves
