use Rattle.std.proofs.Common.{append_assoc, rules, arith, ◌-◌}
use Rattle.kif_record.specs.Diagram.{line, row_text, rows_text}
use Rattle.kif_record.proofs.Writing.{all_rows, rows_more}
use Rattle.kif_record.proofs.diagram.put_rows.Goals as goal

pub loop-row_number-preserved : goal.loop-row_number-preserved
loop-row_number-preserved c = rw (rows_more (λ row_number. line (row_text c.args.position.now.cells row_number)) c.loop-row_number.row_number (omega arith)) (search (rules, append_assoc))

pub returns : goal.returns
unfolding rows_text
returns c = all_rows (λ row_number. line (row_text c.args.position.now.cells row_number)) c.args.out.now.items c.loop-row_number.out.items c.loop-row_number.row_number (omega arith) (omega arith) c.loop-row_number.invariant
