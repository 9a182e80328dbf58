use Rattle.std.proofs.Common.{◌≡◌, ◌++◌, ◌-◌}
use Rattle.std.specs.List.{flat_map, range_with_len}
use Rattle.sfen_text.specs.Spelling.{cells_of_row, row_text, slashed_row}
use Rattle.sfen_text.proofs.write.put_board.Given as goal

abbrev pub invariant-loop-row_number : goal.invariant-loop-row_number
invariant-loop-row_number l = l.out.items ≡ (l.fn.out.items ++ row_text 0 (cells_of_row l.position.cells 1)) ++ flat_map (slashed_row l.position.cells) (range_with_len 2 (l.row_number - 2))
