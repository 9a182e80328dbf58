-- What is told along a line, and its word.
use Rattle.std.specs.Prelude.{◌≡◌, ◌+◌, ◌/◌, ◌↔◌, ◌&&◌, ◌==◌, ℕ, List, Bool, not, Some, length, slice_get, IsTrue, if◌then◌else◌}
use Rattle.std.specs.List.{list_any}
use Rattle.board_core.specs.declared.moves.Move.{Move}
use Rattle.board_core.specs.Board.{Board}
use Rattle.board_core.specs.Order.{order_of}
use Rattle.cook_report.specs.declared.report.Line.{Line}
use Rattle.cook_report.specs.declared.word.Word.{Word}
use Rattle.cook_report.specs.declared.word.Word.TheVariants.{Sound, Cooked, Open, NoMate}
use Rattle.cook_report.specs.Report.{check_of, says_mate, says_unknown}
use Rattle.cook_report.specs.Shown.{Shows}
use Rattle.cook_report.specs.Valid.{ValidReport}
use Rattle.cook_line.specs.declared.stage.Stage.{Stage}
use Rattle.cook_line.specs.Turns.{position_at, HasCheck, IsEvaded, LineSays}

-- 1. THE WORD.

-- A line of a report says that a check mates, and not this one.
abbrev pub tells_other : Move → Line → Bool
tells_other check line = says_mate line && not (order_of (check_of line) == order_of check)

-- A stage is cooked: its check has an evasion, and its report says of another check that it mates:
-- so of two at least, or of one that isn't the line's.
abbrev pub is_cooked : Stage → Bool
is_cooked stage = stage.evaded && list_any (tells_other stage.check) stage.report

-- A stage's report says of a check that it is unknown.
abbrev pub is_open : Stage → Bool
is_open stage = list_any says_unknown stage.report

-- A stage has no mate: its check has an evasion, and its report says of no check that it mates.
abbrev pub lacks_mate : Stage → Bool
lacks_mate stage = stage.evaded && not (list_any says_mate stage.report)

-- The word of a line's stages: cooked where one is, else open where one is, else no mate where one
-- has none, else sound.
abbrev pub word_along : List Stage → Word
word_along stages =
    if list_any is_cooked stages then Cooked
    else (if list_any is_open stages then Open
    else (if list_any lacks_mate stages then NoMate
    else Sound))

-- 2. WHAT IS TRUE OF THE STAGES.

-- What a stage tells of its position is true: whether there is an evasion to its check; and its
-- report is valid, and shows what it says.
pub record IsStageOf (b : Board) (stage : Stage) : Type 0 where
  pub evaded : IsTrue stage.evaded ↔ IsEvaded b stage.check
  pub valid : ValidReport b stage.report
  pub shows : Shows b stage.report

-- The stage is that of the line at this turn: its check is the line's there, and what it tells of
-- the position there, that after twice so many moves, is true.
pub record IsStageAt (p : Board) (moves : List Move) (turn : ℕ) (stage : Stage) : Type 0 where
  pub check : HasCheck moves turn stage.check
  pub of_position : IsStageOf (position_at p moves turn) stage

-- The stages are those of the line: one for each of its checks, in order.
pub record AreStages (p : Board) (moves : List Move) (stages : List Stage) : Type 0 where
  pub count : length stages ≡ (length moves + 1) / 2
  pub each : (turn : ℕ) (stage : Stage) → slice_get stages turn ≡ Some stage → IsStageAt p moves turn stage

-- A law: the word of a line's stages says what it means.
abbrev pub WordsMean : Type 0
WordsMean = (p : Board) (moves : List Move) (stages : List Stage) → AreStages p moves stages → LineSays (word_along stages) p moves
