use Rattle.std.proofs.Common.{subst}
use Rattle.lone_port.specs.World.{World}
use Rattle.world_play.specs.Promises.{IsKeptWorld, HoldsWhatIsEntered, AreSoundWorkers, AreToldOf, AllHaveEnded, IsOver, IsLeft}
use Rattle.world_play.proofs.Promised.{holds, sound_workers, told_of, over, left}
use Rattle.world_play.proofs.Keeping.{kept_world, rows_few}
use Rattle.world_play.proofs.world.World.laws.Goals as goal

pub returns-clause-holds : goal.returns-clause-holds
returns-clause-holds c =
    let w : World = record { port = c.self.inside.port; workers = c.self.inside.workers.items; raised = c.self.inside.raised.items } in
    subst HoldsWhatIsEntered c.self.view_is (holds w c.self.invariant)

pub returns-clause-sound : goal.returns-clause-sound
returns-clause-sound c =
    let w : World = record { port = c.self.inside.port; workers = c.self.inside.workers.items; raised = c.self.inside.raised.items } in
    subst (λ (v : World). AreSoundWorkers v.workers) c.self.view_is (sound_workers c.sound_laws.ensures.reached c.count_laws.ensures.counted w c.self.invariant)

pub returns-clause-told : goal.returns-clause-told
returns-clause-told c =
    let w : World = record { port = c.self.inside.port; workers = c.self.inside.workers.items; raised = c.self.inside.raised.items } in
    subst AreToldOf c.self.view_is (told_of c.visit_laws.ensures.whole c.visit_laws.ensures.causes w c.self.invariant)

pub returns-clause-over : goal.returns-clause-over
returns-clause-over c =
    let w : World = record { port = c.self.inside.port; workers = c.self.inside.workers.items; raised = c.self.inside.raised.items } in
    subst (λ (v : World). AllHaveEnded v.workers → IsOver v) c.self.view_is (over c.visit_laws.ensures.whole c.visit_laws.ensures.causes w c.self.invariant)

pub returns-clause-left : goal.returns-clause-left
returns-clause-left c =
    let w : World = record { port = c.self.inside.port; workers = c.self.inside.workers.items; raised = c.self.inside.raised.items } in
    subst (λ (v : World). AllHaveEnded v.workers → IsLeft v) c.self.view_is (left w c.self.invariant)

pub returns-clause-kept : goal.returns-clause-kept
returns-clause-kept c =
    let w : World = record { port = c.self.inside.port; workers = c.self.inside.workers.items; raised = c.self.inside.raised.items } in
    subst IsKeptWorld c.self.view_is
    (kept_world w c.self.invariant (record { lone = c.laws.ensures.lone; few = rows_few w.port c.laws.ensures.rows }))
