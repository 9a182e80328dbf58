use Rattle.search_limits.specs.Settings.{settings_in}
use Rattle.search_pool.proofs.Ends.{may_alone}
use Rattle.search_pool.proofs.Beginning.{until_alone, drawing_alone, heeds_alone}
use Rattle.search_pool.proofs.alone.search_over.Goals as goal

pub search_from-requires-clause-begins : goal.search_from-requires-clause-begins
search_from-requires-clause-begins g c κs within = may_alone c.args.problem.now.position (settings_in c.args.settings.now) c.args.port.now c.requires.made

pub returns-clause-alone : goal.returns-clause-alone
returns-clause-alone g c =
    until_alone c.search_from.result c.args.problem.now.position (settings_in c.args.settings.now) (g.T.Stop.signal c.args.stop.now) (g.T.Stop.signal c.search_from.new.stop)
    c.args.port.now c.search_from.new.port.desk.drawn c.requires.made c.search_from.ensures.drawing

pub returns-clause-drawing : goal.returns-clause-drawing
returns-clause-drawing g c =
    drawing_alone c.search_from.result c.args.problem.now.position (settings_in c.args.settings.now) (g.T.Stop.signal c.args.stop.now) (g.T.Stop.signal c.search_from.new.stop)
    c.args.port.now c.search_from.new.port.desk.drawn c.requires.made c.search_from.ensures.drawing

pub returns-clause-heeds : goal.returns-clause-heeds
returns-clause-heeds g c =
    heeds_alone c.search_from.result c.args.problem.now.position (settings_in c.args.settings.now) (g.T.Stop.signal c.args.stop.now) (g.T.Stop.signal c.search_from.new.stop)
    c.args.port.now c.requires.made c.search_from.ensures.heeds
