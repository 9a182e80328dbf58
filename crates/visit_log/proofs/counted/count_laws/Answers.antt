use Rattle.visit_log.proofs.Slots.{slots_move, sizes_move, starving_alone}
use Rattle.visit_log.proofs.ToCome.{less_to_come}
use Rattle.visit_log.proofs.Drawn.{workers_counted}
use Rattle.visit_log.proofs.Logged.{counts_logged}
use Rattle.visit_log.proofs.counted.count_laws.Goals as goal

pub returns-clause-slots : goal.returns-clause-slots
returns-clause-slots c = slots_move

pub returns-clause-sizes : goal.returns-clause-sizes
returns-clause-sizes c = sizes_move

pub returns-clause-starving : goal.returns-clause-starving
returns-clause-starving c = starving_alone

pub returns-clause-counted : goal.returns-clause-counted
returns-clause-counted c = workers_counted

pub returns-clause-less : goal.returns-clause-less
returns-clause-less c = less_to_come c.order_laws.ensures.within

pub returns-clause-logged : goal.returns-clause-logged
returns-clause-logged c = counts_logged
