use Rattle.std.proofs.Common.{refl, arith, sym, ◌∙◌, ap, ◌-◌, ◌++◌, ℕ}
use Rattle.board_core.specs.Board.{piece_at}
use Rattle.sfen_text.specs.Spelling.{cells_of_row}
use Rattle.kif_record.specs.Diagram.{cell_text}
use Rattle.kif_record.proofs.Writing.{cell_put, cells_put}
use Rattle.kif_record.proofs.diagram.put_cells.Goals as goal

pub loop-file-init : goal.loop-file-init
unfolding cells_of_row
loop-file-init c = record { left = omega arith; text = refl }

pub loop-file-preserved : goal.loop-file-preserved
loop-file-preserved c = record {
  left = omega arith;
  text = cell_put c.args.position.now.cells c.args.row_number (c.loop-file.file - 1) c.loop-file.out.items c.put_cell.new.out.items _ (omega arith)
      c.loop-file.invariant.text (c.in_ok-put_cell.ensures ∙ ap (λ cell. c.loop-file.out.items ++ cell_text cell) (c.piece_at.ensures ∙ ap (λ (k : ℕ). piece_at c.args.position.now.cells k) c.on.ensures.number));
}

pub returns : goal.returns
returns c = cells_put c.args.position.now.cells c.args.row_number (c.loop-file.file - 1) c.loop-file.out.items _ (omega arith) c.loop-file.invariant.text
