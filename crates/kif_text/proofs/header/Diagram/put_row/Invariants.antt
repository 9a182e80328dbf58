use Rattle.std.proofs.Common.{◌≡◌, ℕ, ◌<◌, ◌+◌, ◌-◌, ◌*◌, ◌%◌, length}
use Rattle.std.specs.Prelude.{◌≢◌}
use Rattle.board_core.specs.Board.{piece_at}
use Rattle.kif_text.proofs.header.Diagram.put_row.Given as goal

abbrev pub invariant-loop-place : goal.invariant-loop-place
invariant-loop-place l = record {
  size : length l.self.cells ≡ length l.initial.self.cells;
  there : (place : ℕ) → place < l.place → piece_at l.self.cells (9 * (8 - place) + l.initial.self.rows) ≡ piece_at l.row place;
  elsewhere : (square : ℕ) → square % 9 ≢ l.initial.self.rows → piece_at l.self.cells square ≡ piece_at l.initial.self.cells square;
  rows : l.self.rows ≡ l.initial.self.rows;
  black : l.self.black ≡ l.initial.self.black;
  white : l.self.white ≡ l.initial.self.white;
  side : l.self.side ≡ l.initial.self.side;
}
