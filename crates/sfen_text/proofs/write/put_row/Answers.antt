use Rattle.std.proofs.Common.{arith, ℕ, ◌-◌, sym, ◌∙◌, ap}
use Rattle.board_core.specs.Board.{piece_at}
use Rattle.sfen_text.proofs.Writing.{piece_put}
use Rattle.sfen_text.proofs.write.put_row.Goals as goal

pub loop-file-preserved : goal.loop-file-preserved
loop-file-preserved c = record {
  left = omega arith;
  run = omega arith;
  text = piece_put c.args.position.now.cells c.args.row_number (c.loop-file.file - 1) c.loop-file.run c.in-Some.piece c.loop-file.out.items c.put_run.new.out.items c.put_piece.new.out.items _ (omega arith)
      (sym (c.in-Some.ensures ∙ ap (λ (k : ℕ). piece_at c.args.position.now.cells k) c.on.ensures.number)) c.loop-file.invariant.text c.in_ok-put_run-in-Some.ensures c.in_ok-put_piece-in-Some.ensures;
}
