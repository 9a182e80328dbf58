-- The moves that lines name, one after the other, on the position where each is made.
use Rattle.std.specs.Prelude.{◌≡◌, ◌⊎◌, ◌∷◌, [], ℕ, List, Option, Some, None, IsSomeAnd, option_and_then}
use Rattle.std.specs.Str.{chars}
use Rattle.bit_boards.specs.declared.piece.Piece.{Piece}
use Rattle.bit_boards.specs.declared.piece.Side.{Side}
use Rattle.bit_boards.specs.Kind.{other}
use Rattle.board_core.specs.declared.moves.Move.{Move}
use Rattle.board_core.specs.declared.moves.Move.TheVariants as moves
use Rattle.board_core.specs.Board.{Board, piece_at}
use Rattle.shogi_rules.specs.Rules.{IsInCheck, IsLegal, after}
use Rattle.shogi_rules.specs.Tsume.{IsCheck, IsEvasion}
use Rattle.kif_moves.specs.declared.fault.KifMovesFault.{KifMovesFault}
use Rattle.kif_moves.specs.declared.fault.KifMovesFault.TheVariants.{Diagram, DefenderInCheck, BadMove, IllegalMove, WrongPiece, NoCheck}
use Rattle.kif_moves.specs.Words.{Spoken, behind_number, spoken_of, IsMoveOf}
use Rattle.kif_moves.specs.Lines.{Line}

-- The square that a move goes to.
abbrev pub goal : Move → ℕ
goal (moves.Board _ to _) = to.number
goal (moves.Drop _ to) = to.number

-- What a line names, where the last move went to this square, or none was made.
abbrev pub named_in : Option ℕ → List ℕ → Option Spoken
named_in last line = option_and_then (spoken_of last) (behind_number (chars line))

-- A line names a move, and a piece for it.
pub record Names (last : Option ℕ) (line : List ℕ) (name : Piece) (move : Move) : Type 0 where
  pub spoken : Spoken
  pub is_spoken : named_in last line ≡ Some spoken
  pub is_named : spoken.name ≡ name
  pub is_move : IsMoveOf spoken move

-- The piece that moves, as it stands before the move, has this name. (A drop names the kind that it
-- drops, so nothing is asked of it.)
abbrev pub HasName : Board → Move → Piece → Type 0
HasName b (moves.Board from _ _) name = IsSomeAnd (piece_at b.cells from.number) (λ piece. (piece.kind ≡ name.kind) × (piece.promoted ≡ name.promoted))
HasName b (moves.Drop _ _) name = Unit {0}

-- The move is a check or an evasion, whosever turn it is.
abbrev pub IsInTurn : Side → Board → Move → Type 0
IsInTurn attacker b move = IsCheck attacker b move ⊎ IsEvasion attacker b move

-- The moves are checks and evasions in turn.
abbrev pub AreInTurn : Side → Board → List Move → Type 0
AreInTurn attacker b [] = Unit {0}
AreInTurn attacker b (move ∷ rest) = IsInTurn attacker b move × AreInTurn attacker (after b move) rest

-- The position after some moves.
abbrev pub after_all : Board → List Move → Board
after_all b [] = b
after_all b (move ∷ rest) = after_all (after b move) rest

-- A line says a move: it names it and the piece that moves.
abbrev pub Says : Board → Option ℕ → List ℕ → Move → Type 0
Says b last line move = (name : Piece) × Names last line name move × HasName b move name

-- The lines say the moves, a line a move.
abbrev pub SayAll : Board → Option ℕ → List Line → List Move → Type 0
SayAll b last [] [] = Unit {0}
SayAll b last [] (move ∷ rest) = ⊥
SayAll b last (line ∷ lines) [] = ⊥
SayAll b last (line ∷ lines) (move ∷ rest) = Says b last line.text move × SayAll (after b move) (Some (goal move)) lines rest

-- A line names a move that isn't legal.
pub record NamesIllegal (b : Board) (last : Option ℕ) (line : List ℕ) : Type 0 where
  pub name : Piece
  pub move : Move
  pub names : Names last line name move
  pub illegal : ¬ IsLegal b move

-- A line names a legal move, and another piece than the one that moves.
pub record NamesOther (b : Board) (last : Option ℕ) (line : List ℕ) : Type 0 where
  pub name : Piece
  pub move : Move
  pub names : Names last line name move
  pub legal : IsLegal b move
  pub other_piece : ¬ HasName b move name

-- A line says a legal move of the attacker, and it is no check.
pub record SaysNoCheck (attacker : Side) (b : Board) (last : Option ℕ) (line : List ℕ) : Type 0 where
  pub move : Move
  pub says : Says b last line move
  pub legal : IsLegal b move
  pub mover : b.side ≡ attacker
  pub no_check : ¬ IsInCheck (after b move).cells (other attacker)

-- A line has the fault, where the moves before it were right: it names no move; the move isn't
-- legal; another piece is named; it is the attacker's, and no check.
abbrev pub HasLineFault : Side → Board → Option ℕ → Line → KifMovesFault → Type 0
HasLineFault attacker b last line (Diagram fault) = ⊥
HasLineFault attacker b last line DefenderInCheck = ⊥
HasLineFault attacker b last line (BadMove number) = (number ≡ line.number) × (named_in last line.text ≡ None)
HasLineFault attacker b last line (IllegalMove number) = (number ≡ line.number) × NamesIllegal b last line.text
HasLineFault attacker b last line (WrongPiece number) = (number ≡ line.number) × NamesOther b last line.text
HasLineFault attacker b last line (NoCheck number) = (number ≡ line.number) × SaysNoCheck attacker b last line.text

-- Of the lines the first one with a fault has this one: those before it say checks and evasions in
-- turn.
abbrev pub HasFirstLineFault : Side → Board → Option ℕ → List Line → KifMovesFault → Type 0
HasFirstLineFault attacker b last [] fault = ⊥
HasFirstLineFault attacker b last (line ∷ lines) fault =
    HasLineFault attacker b last line fault
    ⊎ ((move : Move) × Says b last line.text move × IsInTurn attacker b move
    × HasFirstLineFault attacker (after b move) (Some (goal move)) lines fault)
