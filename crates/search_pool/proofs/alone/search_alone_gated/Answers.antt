use Rattle.std.proofs.Common.{refl}
use Rattle.search_limits.specs.Settings.{settings_in}
use Rattle.search_pool.proofs.Ends.{alone_quietly}
use Rattle.search_pool.proofs.alone.search_alone_gated.Goals as goal

pub returns-clause-alone : goal.returns-clause-alone
returns-clause-alone g c =
    alone_quietly c.search_alone_until.result c.args.problem.now.position (settings_in c.args.settings.now)
    (record { polls = c.new.result.polls; raised = 0; last = 0; armed = c.new.result.armed; arms = c.new.result.arms; early = c.new.result.early })
    (record { polls = c.search_alone_until.new.stop.polls; raised = 0; last = 0; armed = c.search_alone_until.new.stop.armed; arms = c.search_alone_until.new.stop.arms; early = c.search_alone_until.new.stop.early }) refl refl c.search_alone_until.ensures.alone
