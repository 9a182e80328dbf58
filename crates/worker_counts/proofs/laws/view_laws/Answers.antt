use Rattle.std.proofs.Common.{arith}
use Rattle.worker_counts.proofs.Views.{times-cons, times-append, times-less, length-without_one, empty-times}
use Rattle.worker_counts.proofs.laws.view_laws.Goals as goal

pub returns-clause-more : goal.returns-clause-more
returns-clause-more c word each added = omega (arith, times-cons word each added)

pub returns-clause-less : goal.returns-clause-less
returns-clause-less c word each added has = times-less word each added has

pub returns-clause-shorter : goal.returns-clause-shorter
returns-clause-shorter c word added has = length-without_one word added has

pub returns-clause-joined : goal.returns-clause-joined
returns-clause-joined c word added others = omega (arith, times-append word others added)

pub returns-clause-empty : goal.returns-clause-empty
returns-clause-empty c added zeros = empty-times added zeros
