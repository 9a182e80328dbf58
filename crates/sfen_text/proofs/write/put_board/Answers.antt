use Rattle.std.proofs.Common.{append_assoc, arith, rules}
use Rattle.sfen_text.specs.Spelling.{slashed_row, row_text, cells_of_row}
use Rattle.sfen_text.proofs.Writing.{rows_more, all_rows}
use Rattle.sfen_text.proofs.write.put_board.Goals as goal

pub loop-row_number-preserved : goal.loop-row_number-preserved
loop-row_number-preserved c =
    let more = rows_more (slashed_row c.args.position.now.cells) c.loop-row_number.row_number (omega arith) in
    rw more (search (rules, append_assoc))

pub returns : goal.returns
returns c = all_rows (slashed_row c.args.position.now.cells) c.args.out.now.items (row_text 0 (cells_of_row c.args.position.now.cells 1)) c.loop-row_number.out.items c.loop-row_number.row_number (omega arith) (omega arith) c.loop-row_number.invariant
