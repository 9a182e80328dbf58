use Rattle.std.proofs.Common.{set, arith, refl, sym, subst}
use Rattle.std.proofs.lemmas.Option.{slice_get_within}
use Rattle.lone_port.specs.World.{World, IsAtWork}
use Rattle.lone_port.specs.declared.event.Event.TheVariants.{Starve}
use Rattle.world_play.proofs.Happened.{Comes, at_work_by, starve_fair, starve_comes, idle_starve}
use Rattle.world_play.proofs.world.World.starve.Goals as goal

pub returns-in_default : goal.returns-in_default
returns-in_default c = idle_starve c.args.self.now c.args.number c.in_default.ensures.none

pub index_mut-worker-requires : goal.index_mut-worker-requires
index_mut-worker-requires c =
    let w : World = record { port = c.self.inside.port; workers = c.self.inside.workers.items; raised = c.self.inside.raised.items } in
    let found = c.in-Some.ensures.some in
    let at : IsAtWork w c.args.number c.in-Some.place found.0 = subst (λ (v : World). IsAtWork v c.args.number c.in-Some.place found.0) (sym c.self.view_is) found.1 in
    let low = slice_get_within w.workers c.in-Some.place found.0 at.there in
    let o = c.self.inside.workers.ok in
    omega (arith, low, o)

pub invariant_of-self : goal.invariant_of-self
invariant_of-self c =
    let w : World = record { port = c.self.inside.port; workers = c.self.inside.workers.items; raised = c.self.inside.raised.items } in
    let found = c.in-Some.ensures.some in
    let at : IsAtWork w c.args.number c.in-Some.place found.0 = subst (λ (v : World). IsAtWork v c.args.number c.in-Some.place found.0) (sym c.self.view_is) found.1 in
    let worker = c.index_mut-worker.result.now in
    let here = at_work_by w c.args.number c.in-Some.place found.0 worker at c.index_mut-worker.ensures.value in
    let e = c.starve.ensures in
    starve_fair w (record w { workers = set w.workers c.in-Some.place c.starve.new.self }) c.in-Some.place worker c.starve.new.self c.self.invariant here.there e.starved e.log e.alone refl

pub returns : goal.returns
returns c =
    let w : World = record { port = c.self.inside.port; workers = c.self.inside.workers.items; raised = c.self.inside.raised.items } in
    let after : World = record w { workers = set w.workers c.in-Some.place c.starve.new.self } in
    let found = c.in-Some.ensures.some in
    let at : IsAtWork w c.args.number c.in-Some.place found.0 = subst (λ (v : World). IsAtWork v c.args.number c.in-Some.place found.0) (sym c.self.view_is) found.1 in
    let worker = c.index_mut-worker.result.now in
    let here = at_work_by w c.args.number c.in-Some.place found.0 worker at c.index_mut-worker.ensures.value in
    let e = c.starve.ensures in
    subst (λ (v : World). Comes v (Starve c.args.number) 0 after) c.self.view_is
    (starve_comes w after c.args.number c.in-Some.place worker c.starve.new.self c.self.invariant here e.starved e.log refl)
