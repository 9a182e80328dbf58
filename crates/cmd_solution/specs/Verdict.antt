-- When a verdict on a solution is true.
use Rattle.std.specs.Prelude.{◌≡◌, ◌↔◌, ◌%◌, ℕ, List, length, IsTrue}
use Rattle.board_core.specs.declared.moves.Move.{Move}
use Rattle.board_core.specs.Board.{Board}
use Rattle.shogi_rules.specs.Tsume.{IsEvasion}
use Rattle.kif_moves.specs.declared.fault.KifMovesFault.{KifMovesFault}
use Rattle.kif_moves.specs.Playing.{after_all}
use Rattle.kif_moves.specs.Reading.{StandsFor, HasFirstFault}
use Rattle.cmd_solution.specs.declared.verdict.SolutionVerdict.{SolutionVerdict}

-- The moves end in mate: the attacker made the last one, and the defender has no evasion to it.
pub record EndsInMate (problem : Board) (moves : List Move) : Type 0 where
  pub odd : length moves % 2 ≡ 1
  pub no_evasion : (evasion : Move) → ¬ IsEvasion problem.side (after_all problem moves) evasion

-- A verdict is true of a problem with moves: its number is how many these are, and it says mate
-- exactly where they end in mate.
pub record IsTrueOf (problem : Board) (moves : List Move) (verdict : SolutionVerdict) : Type 0 where
  pub count : verdict.moves ≡ length moves
  pub mate : IsTrue verdict.mate ↔ EndsInMate problem moves

-- The bytes of an input stand for one problem with one list of moves, of which the verdict is true.
pub record IsJudged (input : List ℕ) (verdict : SolutionVerdict) : Type 0 where
  pub problem : Board
  pub moves : List Move
  pub stands : StandsFor input problem moves
  pub true_of : IsTrueOf problem moves verdict

-- The bytes of an input stand for no problem with moves, and have this first fault, and no other.
pub record IsNoSolution (input : List ℕ) (fault : KifMovesFault) : Type 0 where
  pub first : HasFirstFault input fault
  pub only : (other : KifMovesFault) → HasFirstFault input other → other ≡ fault
  pub none : (problem : Board) (moves : List Move) → ¬ StandsFor input problem moves
