use Rattle.std.proofs.Common.{arith}
use Rattle.search_limits.specs.Settings.{settings_in}
use Rattle.world_play.proofs.First.{made_world, made_with_fair}
use Rattle.world_play.proofs.world.World.make_filled.Goals as goal

pub invariant_of-result : goal.invariant_of-result
invariant_of-result c =
    let s = c.args.settings.now in
    made_with_fair c.args.notes.now c.args.problem.now.position (settings_in s) c.in_ok-port.port c.in_ok-workers.workers.items c.in_ok-workers.raised.items
    (let l = c.laws.ensures in record { cells = l.cells; black = l.black; white = l.white; totals = l.totals; kings = l.kings; alive = l.alive; pawns = l.pawns })
    c.args.problem.now.accepted (let some = s.workers_in_range.0 in omega (arith, some)) c.in_ok-port.ensures.filled c.in_ok-workers.ensures.workers c.in_ok-workers.ensures.raised

pub returns : goal.returns
returns c =
    made_world c.args.notes.now c.args.problem.now.position (settings_in c.args.settings.now) c.in_ok-port.port c.in_ok-workers.workers.items c.in_ok-workers.raised.items
    c.in_ok-port.ensures.filled c.in_ok-workers.ensures.workers c.in_ok-workers.ensures.raised
