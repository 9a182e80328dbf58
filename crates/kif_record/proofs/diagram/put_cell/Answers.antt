use Rattle.kif_record.proofs.diagram.put_cell.Goals as goal

pub returns-in-None : goal.returns-in-None
unfolding lib.Utf8.encode
returns-in-None c = rw c.in-None.is c.put_text.ensures
