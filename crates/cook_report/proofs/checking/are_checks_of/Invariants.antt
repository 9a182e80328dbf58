use Rattle.std.proofs.Common.{◌≡◌, ◌<◌, ℕ, Some, slice_get}
use Rattle.board_core.specs.declared.moves.Move.{Move}
use Rattle.cook_report.specs.declared.report.Line.{Line}
use Rattle.cook_report.specs.Report.{check_of}
use Rattle.cook_report.proofs.checking.are_checks_of.Given as goal

abbrev pub invariant-loop-place : goal.invariant-loop-place
invariant-loop-place l = (k : ℕ) → k < l.place → (line : Line) (m : Move) → slice_get l.lines k ≡ Some line → slice_get l.moves k ≡ Some m → check_of line ≡ m
