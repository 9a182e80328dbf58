use Rattle.notes.proofs.Lent.{lending_is_carrying}
use Rattle.notes.proofs.lending.lending_laws.Goals as goal

pub returns : goal.returns
returns c = lending_is_carrying
