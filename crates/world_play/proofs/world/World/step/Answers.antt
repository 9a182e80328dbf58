use Rattle.std.proofs.Common.{set, arith, refl, sym, subst}
use Rattle.std.proofs.lemmas.Option.{slice_get_within}
use Rattle.worker_core.specs.Port.{Suits}
use Rattle.lone_port.specs.Lone.{LonePortView, book_of}
use Rattle.lone_port.specs.World.{World, IsAtWork}
use Rattle.lone_port.specs.declared.event.Event.TheVariants.{Step}
use Rattle.world_play.proofs.Suited.{suited}
use Rattle.world_play.proofs.Refused.{step_exact, step_refused}
use Rattle.world_play.proofs.Happened.{Comes, at_work_by, requested, step_fair, step_comes, idle_step}
use Rattle.world_play.proofs.world.World.step.Goals as goal

pub returns-in_default-clause-played : goal.returns-in_default-clause-played
returns-in_default-clause-played c = idle_step c.args.self.now c.args.number c.in_default.ensures.none

pub index-requires : goal.index-requires
index-requires c =
    let w : World = record { port = c.self.inside.port; workers = c.self.inside.workers.items; raised = c.self.inside.raised.items } in
    let found = c.in-Some.ensures.some in
    let at : IsAtWork w c.args.number c.in-Some.place found.0 = subst (λ (v : World). IsAtWork v c.args.number c.in-Some.place found.0) (sym c.self.view_is) found.1 in
    let low = slice_get_within w.workers c.in-Some.place found.0 at.there in
    let o = c.self.inside.workers.ok in
    omega (arith, low, o)

pub take_stop-stops-requires : goal.take_stop-stops-requires
take_stop-stops-requires c =
    let w : World = record { port = c.self.inside.port; workers = c.self.inside.workers.items; raised = c.self.inside.raised.items } in
    let found = c.in-Some.ensures.some in
    let at : IsAtWork w c.args.number c.in-Some.place found.0 = subst (λ (v : World). IsAtWork v c.args.number c.in-Some.place found.0) (sym c.self.view_is) found.1 in
    let low = slice_get_within w.workers c.in-Some.place found.0 at.there in
    let many = c.self.invariant.raised in
    omega (arith, low, many)

pub index_mut-requires : goal.index_mut-requires
index_mut-requires c =
    let w : World = record { port = c.self.inside.port; workers = c.self.inside.workers.items; raised = c.self.inside.raised.items } in
    let found = c.in-Some.ensures.some in
    let at : IsAtWork w c.args.number c.in-Some.place found.0 = subst (λ (v : World). IsAtWork v c.args.number c.in-Some.place found.0) (sym c.self.view_is) found.1 in
    let low = slice_get_within w.workers c.in-Some.place found.0 at.there in
    let o = c.self.inside.workers.ok in
    omega (arith, low, o)

pub step-requires-clause-idle : goal.step-requires-clause-idle
step-requires-clause-idle c =
    let w : World = record { port = c.self.inside.port; workers = c.self.inside.workers.items; raised = c.self.inside.raised.items } in
    let found = c.in-Some.ensures.some in
    let at : IsAtWork w c.args.number c.in-Some.place found.0 = subst (λ (v : World). IsAtWork v c.args.number c.in-Some.place found.0) (sym c.self.view_is) found.1 in
    let here = at_work_by w c.args.number c.in-Some.place found.0 c.index_mut.result.now at c.index_mut.ensures.value in
    (c.self.invariant.members c.in-Some.place c.index_mut.result.now here.there).idle

pub step-requires-clause-suits : goal.step-requires-clause-suits
step-requires-clause-suits c =
    let w : World = record { port = c.self.inside.port; workers = c.self.inside.workers.items; raised = c.self.inside.raised.items } in
    let found = c.in-Some.ensures.some in
    let at : IsAtWork w c.args.number c.in-Some.place found.0 = subst (λ (v : World). IsAtWork v c.args.number c.in-Some.place found.0) (sym c.self.view_is) found.1 in
    let here = at_work_by w c.args.number c.in-Some.place found.0 c.index_mut.result.now at c.index_mut.ensures.value in
    subst (λ (p : LonePortView). Suits c.index_mut.result.now (book_of p)) (sym c.open.ensures)
    (suited c.sound_laws.ensures.reached c.count_laws.ensures.counted w c.in-Some.place c.index_mut.result.now c.self.invariant c.laws.ensures.desk here.there)

pub invariant_of-self : goal.invariant_of-self
invariant_of-self c =
    let w : World = record { port = c.self.inside.port; workers = c.self.inside.workers.items; raised = c.self.inside.raised.items } in
    let after : World = record { port = c.step.new.port; workers = set w.workers c.in-Some.place c.step.new.worker; raised = c.take_stop-stops.new.raised.items } in
    let found = c.in-Some.ensures.some in
    let at : IsAtWork w c.args.number c.in-Some.place found.0 = subst (λ (v : World). IsAtWork v c.args.number c.in-Some.place found.0) (sym c.self.view_is) found.1 in
    let e = c.step.ensures in
    let r = requested w after c.open.new.self c.args.number c.in-Some.place found.0 c.index.result.now c.index_mut.result.now c.step.new.worker
    c.take_stop-stops.result c.is_polling-polls.result c.step.result c.self.invariant at c.index.ensures c.index_mut.ensures.value c.is_polling-polls.ensures
    c.take_stop-stops.ensures.stops c.open.ensures refl c.take_stop-stops.ensures.told e.steps e.ended e.others in
    step_fair c.sound_laws.ensures.reached c.count_laws.ensures.slots c.count_laws.ensures.starving w after c.args.number c.in-Some.place c.index_mut.result.now c.step.new.worker r.0
    c.laws.ensures.lone r.1

pub returns-clause-played : goal.returns-clause-played
returns-clause-played c =
    let w : World = record { port = c.self.inside.port; workers = c.self.inside.workers.items; raised = c.self.inside.raised.items } in
    let after : World = record { port = c.step.new.port; workers = set w.workers c.in-Some.place c.step.new.worker; raised = c.take_stop-stops.new.raised.items } in
    let found = c.in-Some.ensures.some in
    let at : IsAtWork w c.args.number c.in-Some.place found.0 = subst (λ (v : World). IsAtWork v c.args.number c.in-Some.place found.0) (sym c.self.view_is) found.1 in
    let e = c.step.ensures in
    let r = requested w after c.open.new.self c.args.number c.in-Some.place found.0 c.index.result.now c.index_mut.result.now c.step.new.worker
    c.take_stop-stops.result c.is_polling-polls.result c.step.result c.self.invariant at c.index.ensures c.index_mut.ensures.value c.is_polling-polls.ensures
    c.take_stop-stops.ensures.stops c.open.ensures refl c.take_stop-stops.ensures.told e.steps e.ended e.others in
    let counts = step_refused w after c.args.number c.in-Some.place c.index_mut.result.now c.step.new.worker r.0 c.index-2.result.now c.index-3.result.now
    c.is_looking-looks.result c.is_winding.result c.lost.result r.1 c.index-2.ensures c.index-3.ensures c.is_looking-looks.ensures c.is_winding.ensures c.lost.ensures in
    let exact = step_exact w after c.args.number c.in-Some.place c.index_mut.result.now c.step.new.worker r.0 c.index-2.result.now c.index-3.result.now
    c.is_looking-looks.result c.is_winding.result c.lost.result r.1 c.index-2.ensures c.index-3.ensures c.is_looking-looks.ensures c.is_winding.ensures c.lost.ensures in
    subst (λ (v : World). Comes v (Step c.args.number) c.lost.result after) c.self.view_is
    (step_comes w after c.args.number c.in-Some.place c.index_mut.result.now c.step.new.worker r.0 c.lost.result r.1 counts exact)
