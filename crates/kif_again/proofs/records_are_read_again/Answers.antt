use Rattle.kif_again.proofs.Again.{stands_for}
use Rattle.kif_again.proofs.records_are_read_again.Goals as goal

pub returns : goal.returns
returns c = record { again = stands_for }
