use Rattle.std.proofs.Common.{◌≡◌, ℕ, ◌<◌, ◌+◌, ◌*◌, drop, length, Some}
use denote.Text.{Utf8}
use denote.Shadow.{shadow}
use Rattle.std.specs.Str.{chars}
use Rattle.board_core.specs.Board.{piece_at}
use Rattle.kif_text.specs.Rows.{cell_in}
use Rattle.kif_text.proofs.row.cells_of.Given as goal

abbrev pub invariant-loop-place : goal.invariant-loop-place
invariant-loop-place l = shadow (Utf8 l.rest) × (length l.cells ≡ 9) × (chars l.rest ≡ drop (2 * l.place) (chars l.fn.row)) × ((place : ℕ) → place < l.place → cell_in (chars l.fn.row) (place + 1) ≡ Some (piece_at l.cells place))
