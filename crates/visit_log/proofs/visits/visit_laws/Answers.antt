use Rattle.visit_log.proofs.Stands.{begun_log, whole_log}
use Rattle.visit_log.proofs.Bracketed.{brackets}
use Rattle.visit_log.proofs.Paid.{one_claim}
use Rattle.visit_log.proofs.Caused.{ends_caused}
use Rattle.visit_log.proofs.visits.visit_laws.Goals as goal

pub returns-clause-begin : goal.returns-clause-begin
returns-clause-begin c = begun_log

pub returns-clause-whole : goal.returns-clause-whole
returns-clause-whole c = whole_log

pub returns-clause-brackets : goal.returns-clause-brackets
returns-clause-brackets c = brackets

pub returns-clause-one_claim : goal.returns-clause-one_claim
returns-clause-one_claim c = one_claim

pub returns-clause-causes : goal.returns-clause-causes
returns-clause-causes c = ends_caused
