use Rattle.std.proofs.Common.{refl}
use Rattle.world_play.proofs.Crews.{read_there, crew_suits, crew_turned}
use Rattle.world_play.proofs.crew.turn_in_crew.Goals as goal

pub turn-requires-clause-idle : goal.turn-requires-clause-idle
turn-requires-clause-idle g c =
    let ws = c.args.workers.now.items in
    let worker = c.index_mut-worker.result.now in
    let there = read_there ws c.args.place worker c.requires.there c.index_mut-worker.ensures.value in
    (c.requires.crew.members c.args.place worker there).idle

pub turn-requires-clause-suits : goal.turn-requires-clause-suits
turn-requires-clause-suits g c =
    let ws = c.args.workers.now.items in
    let worker = c.index_mut-worker.result.now in
    let there = read_there ws c.args.place worker c.requires.there c.index_mut-worker.ensures.value in
    crew_suits c.sound_laws.ensures.reached c.count_laws.ensures.counted (g.P.Port.book c.args.port.now) ws c.args.place worker c.requires.crew c.requires.going there

pub returns-clause-crew : goal.returns-clause-crew
returns-clause-crew g c =
    let ws = c.args.workers.now.items in
    let worker = c.index_mut-worker.result.now in
    let there = read_there ws c.args.place worker c.requires.there c.index_mut-worker.ensures.value in
    let e = c.turn.ensures in
    crew_turned (g.P.Port.book c.args.port.now) (g.P.Port.book c.turn.new.port) ws c.args.place worker c.turn.new.worker e.went.0 c.requires.crew there e.others e.suits e.went.1.task e.idle e.went.1.log

pub returns-clause-turned : goal.returns-clause-turned
returns-clause-turned g c =
    let ws = c.args.workers.now.items in
    let worker = c.index_mut-worker.result.now in
    let there = read_there ws c.args.place worker c.requires.there c.index_mut-worker.ensures.value in
    let e = c.turn.ensures in (
      worker,
      c.turn.new.worker,
      record { there = there; others = refl },
      record { events = e.went.0; went = e.went.1; one = e.went.2; others = e.others; suits = e.suits; less = e.less; ended = e.ended },
    )
