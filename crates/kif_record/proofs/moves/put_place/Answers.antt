use Rattle.std.proofs.Common.{sym, ◌∙◌}
use Rattle.kif_record.proofs.moves.put_place.Goals as goal

pub returns-then-is_same : goal.returns-then-is_same
unfolding lib.Utf8.encode
returns-then-is_same c = rw (sym c.is_same.ensures ∙ c.if-is_same.true) c.put_text.ensures
