use Rattle.std.proofs.Common.{◌≡◌, ◌++◌, ◌-◌, ◌≤◌}
use Rattle.std.specs.List.{flat_map}
use Rattle.sfen_text.specs.Spelling.{cells_of_row, row_from}
use Rattle.kif_record.specs.Diagram.{cell_text}
use Rattle.kif_record.proofs.diagram.put_cells.Given as goal

abbrev pub invariant-loop-file : goal.invariant-loop-file
invariant-loop-file l = record {
  left : 1 ≤ l.file;
  text : l.out.items ++ flat_map cell_text (row_from l.position.cells l.row_number (l.file - 1)) ≡ l.fn.out.items ++ flat_map cell_text (cells_of_row l.position.cells l.row_number);
}
