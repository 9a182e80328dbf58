use Rattle.std.proofs.Common.{ap, sym, subst, ◌∙◌, ◌++◌}
use Rattle.board_core.specs.Board.{Board}
use Rattle.kif_record.specs.Diagram.{diagram_text, line}
use Rattle.kif_record.specs.Mated.{IsMated}
use Rattle.kif_record.specs.Record.{record_with}
use Rattle.kif_record.proofs.Writing.{line_put}
use Rattle.kif_record.proofs.record.write_kif.Goals as goal

pub returns : goal.returns
unfolding lib.Utf8.encode record_with
returns c = record {
  mated = c.in_ok-mated.mated;
  ending = (
    (λ mated. subst (λ (b : Board). IsMated c.args.problem.now.position.side b) c.in_ok-position.ensures.position (c.in_ok-mated.ensures.0 mated)),
    (λ mated. c.in_ok-mated.ensures.1 (subst (λ (b : Board). IsMated c.args.problem.now.position.side b) (sym c.in_ok-position.ensures.position) mated)),
  );
  is_text = line_put _ _ _ _ _ _ _ _ _ _ (c.in_ok-put_diagram.ensures ∙ ap (λ t. t ++ diagram_text c.args.problem.now.position) c.new-text.ensures.items)
      c.in_ok-put_line.ensures c.in_ok-position.ensures.text c.in_ok-put_number.ensures
      (c.in_ok-put_line-2.ensures ∙ ap (λ word. c.put_number.new.out.items ++ line word) c.ending.ensures);
}
