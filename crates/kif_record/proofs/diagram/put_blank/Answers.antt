use Rattle.std.proofs.Common.{arith, ◌∙◌}
use Rattle.kif_record.proofs.Writing.{blank_behind, blank_behind_nothing}
use Rattle.kif_record.proofs.diagram.put_blank.Goals as goal

pub returns-then-is_empty : goal.returns-then-is_empty
returns-then-is_empty c = blank_behind_nothing c.args.out.now.items _ c.is_empty.result (omega arith) c.is_empty.ensures c.if-is_empty.true

pub returns : goal.returns
unfolding lib.Utf8.encode
returns c = rw (blank_behind c.args.out.now.items _ c.is_empty.result (omega arith) c.is_empty.ensures c.if-is_empty.false) c.put_text.ensures
