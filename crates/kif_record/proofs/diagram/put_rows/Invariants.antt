use Rattle.std.proofs.Common.{◌≡◌, ◌++◌, ◌-◌}
use Rattle.std.specs.List.{flat_map, range_with_len}
use Rattle.kif_record.specs.Diagram.{line, row_text}
use Rattle.kif_record.proofs.diagram.put_rows.Given as goal

abbrev pub invariant-loop-row_number : goal.invariant-loop-row_number
invariant-loop-row_number l = l.out.items ≡ l.fn.out.items ++ flat_map (λ row_number. line (row_text l.position.cells row_number)) (range_with_len 1 (l.row_number - 1))
