use Rattle.kif_record.proofs.moves.put_promotion.Goals as goal

pub returns-then-promote : goal.returns-then-promote
unfolding lib.Utf8.encode
returns-then-promote c = rw c.if-promote.true c.put_text.ensures
