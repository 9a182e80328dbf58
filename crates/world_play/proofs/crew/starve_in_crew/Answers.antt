use Rattle.std.proofs.Common.{refl}
use Rattle.world_play.proofs.Happened.{leads_starved}
use Rattle.world_play.proofs.Crews.{read_there, crew_starved}
use Rattle.world_play.proofs.crew.starve_in_crew.Goals as goal

pub returns-clause-crew : goal.returns-clause-crew
returns-clause-crew g c =
    let ws = c.args.workers.now.items in
    let worker = c.index_mut-worker.result.now in
    let there = read_there ws c.args.place worker c.requires.there c.index_mut-worker.ensures.value in
    let e = c.starve.ensures in
    crew_starved (g.P.Port.book c.args._port.now) ws c.args.place worker c.starve.new.self c.requires.crew there e.starved e.log e.alone

pub returns-clause-starved : goal.returns-clause-starved
returns-clause-starved g c =
    let ws = c.args.workers.now.items in
    let worker = c.index_mut-worker.result.now in
    let there = read_there ws c.args.place worker c.requires.there c.index_mut-worker.ensures.value in
    let idle = (c.requires.crew.members c.args.place worker there).idle in
    let e = c.starve.ensures in (
      worker,
      c.starve.new.self,
      record { there = there; others = refl },
      record { starved = e.starved; log = leads_starved worker c.starve.new.self idle e.log; dark = e.dark; alone = e.alone },
    )
