use Rattle.std.proofs.Common.{◌≡◌, ◌++◌, ◌-◌, ◌+◌, ◌≤◌}
use Rattle.sfen_text.specs.Spelling.{cells_of_row, row_from, row_text}
use Rattle.sfen_text.proofs.write.put_row.Given as goal

abbrev pub invariant-loop-file : goal.invariant-loop-file
invariant-loop-file l = record {
  left : 1 ≤ l.file;
  run : l.run + (l.file - 1) ≤ 9;
  text : l.out.items ++ row_text l.run (row_from l.position.cells l.row_number (l.file - 1)) ≡ l.fn.out.items ++ row_text 0 (cells_of_row l.position.cells l.row_number);
}
