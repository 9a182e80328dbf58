use Rattle.std.proofs.Common.{ap, ◌∙◌, ◌++◌}
use Rattle.kif_record.proofs.Writing.{item_put}
use Rattle.kif_record.proofs.diagram.put_kind.Goals as goal

pub returns : goal.returns
returns c = item_put c.put_count.result c.args.out.now.items c.args.kind _ _ _ _ _ c.count-count.ensures c.if-count-eq0.false c.in_ok-put_blank.ensures (c.in_ok-put_text.ensures ∙ ap (λ t. c.put_blank.new.out.items ++ t) c.kind_text.ensures) c.put_count.ensures
