use Rattle.mate_facts.proofs.Listed.{entries_stand, entries_listed, entries_apart, entries_found}
use Rattle.mate_facts.proofs.laws.entry_laws.Goals as goal

pub returns-clause-stand : goal.returns-clause-stand
returns-clause-stand c = entries_stand

pub returns-clause-listed : goal.returns-clause-listed
returns-clause-listed c = entries_listed

pub returns-clause-apart : goal.returns-clause-apart
returns-clause-apart c = entries_apart

pub returns-clause-found : goal.returns-clause-found
returns-clause-found c = entries_found
