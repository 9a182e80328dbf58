use Rattle.trace.proofs.Opened.{opened_crew}
use Rattle.trace.proofs.told.Told.step.Goals as goal

-- src/told.rt:94:9
pub turn_in_crew-requires-clause-crew : goal.turn_in_crew-requires-clause-crew
turn_in_crew-requires-clause-crew c = opened_crew c.self.inside.recorder.port _ _ _ c.open.ensures c.self.invariant.crew
