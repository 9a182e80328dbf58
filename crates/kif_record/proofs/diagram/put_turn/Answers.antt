use Rattle.std.proofs.Common.{sym, ◌∙◌}
use Rattle.kif_record.proofs.diagram.put_turn.Goals as goal

pub returns-in-White : goal.returns-in-White
unfolding lib.Utf8.encode
returns-in-White c = rw (sym c.side.ensures ∙ c.in-White.is) c.put_line.ensures
