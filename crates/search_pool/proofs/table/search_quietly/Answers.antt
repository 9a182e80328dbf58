use Rattle.std.proofs.Common.{refl}
use Rattle.search_limits.specs.Settings.{settings_in}
use Rattle.search_pool.proofs.Ends.{alone_quietly}
use Rattle.search_pool.proofs.table.search_quietly.Goals as goal

pub returns-clause-alone : goal.returns-clause-alone
returns-clause-alone c =
    alone_quietly c.search_over.result c.args.problem.now.position (settings_in c.args.settings.now)
    (record { polls = c.new.result.polls; raised = 0; last = 0; armed = c.new.result.armed; arms = c.new.result.arms; early = c.new.result.early })
    (record { polls = c.search_over.new.stop.polls; raised = 0; last = 0; armed = c.search_over.new.stop.armed; arms = c.search_over.new.stop.arms; early = c.search_over.new.stop.early }) refl refl c.search_over.ensures.alone
