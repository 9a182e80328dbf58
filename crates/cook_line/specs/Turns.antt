-- The attacker's turns along a line, and what a word says of them.
use Rattle.std.specs.Prelude.{◌≡◌, ◌≢◌, ◌*◌, ℕ, List, Some, slice_get, take}
use Rattle.board_core.specs.declared.moves.Move.{Move}
use Rattle.board_core.specs.Board.{Board}
use Rattle.shogi_rules.specs.Rules.{after}
use Rattle.shogi_rules.specs.Tsume.{IsEvasion}
use Rattle.mate_def.specs.Mate.{IsMate}
use Rattle.kif_moves.specs.Playing.{after_all}
use Rattle.cook_report.specs.declared.word.Word.{Word}
use Rattle.cook_report.specs.declared.word.Word.TheVariants.{Sound, Cooked, Open, NoMate}
use Rattle.cook_report.specs.Shown.{MatesBy}

-- The position at the attacker's turn of this number, from 0: that after twice so many moves.
abbrev pub position_at : Board → List Move → ℕ → Board
position_at p moves turn = after_all p (take (2 * turn) moves)

-- The line has this check at the turn.
abbrev pub HasCheck : List Move → ℕ → Move → Type 0
HasCheck moves turn check = slice_get moves (2 * turn) ≡ Some check

-- There is an evasion to a check of the position.
abbrev pub IsEvaded : Board → Move → Type 0
IsEvaded b check = (evasion : Move) × IsEvasion b.side (after b check) evasion

-- This check of the position mates, and no other.
pub record MatesAlone (b : Board) (check : Move) : Type 0 where
  pub mates : MatesBy b.side b check
  pub only : (other : Move) → MatesBy b.side b other → other ≡ check

-- Another check of the position than this one mates.
pub record MatesOtherwise (b : Board) (check : Move) : Type 0 where
  pub other : Move
  pub differs : other ≢ check
  pub mates : MatesBy b.side b other

-- A turn along the line at which its check has an evasion, and the property. (Only the line's last
-- check may have none: then the line ends in mate there, and how else it could end doesn't count.)
pub record HasTurn (Property : Board → Move → Type 0) (p : Board) (moves : List Move) : Type 0 where
  pub turn : ℕ
  pub check : Move
  pub has_check : HasCheck moves turn check
  pub evaded : IsEvaded (position_at p moves turn) check
  pub property : Property (position_at p moves turn) check

-- At each turn along the line at which its check has an evasion, it mates, and no other does.
abbrev pub MatesAloneThroughout : Board → List Move → Type 0
MatesAloneThroughout p moves =
    (turn : ℕ) (check : Move) → HasCheck moves turn check → IsEvaded (position_at p moves turn) check → MatesAlone (position_at p moves turn) check

-- What a word says of a line: sound, that at each of these turns the line's check mates, and no
-- other; cooked, that at one of them another mates; no mate, that one of them is at a position that
-- is no mate; open, nothing.
abbrev pub LineSays : Word → Board → List Move → Type 0
LineSays Sound p moves = MatesAloneThroughout p moves
LineSays Cooked p moves = HasTurn MatesOtherwise p moves
LineSays Open p moves = Unit {0}
LineSays NoMate p moves = HasTurn (λ b check. ¬ IsMate b.side b) p moves
