use Rattle.lone_port.specs.World.{World}
use Rattle.world_play.proofs.Crews.{fair_crew}
use Rattle.world_play.proofs.world.World.into_crew.Goals as goal

pub returns-clause-crew : goal.returns-clause-crew
returns-clause-crew c =
    let w : World = record { port = c.self.inside.port; workers = c.self.inside.workers.items; raised = c.self.inside.raised.items } in
    fair_crew w c.self.invariant c.laws.ensures.desk
