use Rattle.search_limits.specs.Settings.{settings_in}
use Rattle.search_pool.proofs.Beginning.{filled_begins, until_with, solved_with, heeds_with}
use Rattle.search_pool.proofs.filled.search_filled_until.Goals as goal

pub search_from-requires-clause-begins : goal.search_from-requires-clause-begins
search_from-requires-clause-begins g c κs within =
    filled_begins c.args.notes.now c.args.problem.now.position (settings_in c.args.settings.now) c.in_ok-port.port c.in_ok-port.ensures.filled

pub returns-clause-alone : goal.returns-clause-alone
returns-clause-alone g c =
    until_with c.search_from.result c.args.notes.now c.args.problem.now.position (settings_in c.args.settings.now) (g.T.Stop.signal c.args.stop.now)
    (g.T.Stop.signal c.search_from.new.stop) c.in_ok-port.port c.search_from.new.port.desk.drawn c.in_ok-port.ensures.filled c.search_from.ensures.drawing

pub returns-clause-solved : goal.returns-clause-solved
returns-clause-solved g c =
    solved_with c.search_from.result c.args.notes.now c.args.problem.now.position (settings_in c.args.settings.now) c.in_ok-port.port
    c.in_ok-port.ensures.filled c.search_from.ensures.known

pub returns-clause-heeds : goal.returns-clause-heeds
returns-clause-heeds g c =
    heeds_with c.search_from.result c.args.notes.now c.args.problem.now.position (settings_in c.args.settings.now) (g.T.Stop.signal c.args.stop.now)
    (g.T.Stop.signal c.search_from.new.stop) c.in_ok-port.port c.in_ok-port.ensures.filled c.search_from.ensures.heeds
