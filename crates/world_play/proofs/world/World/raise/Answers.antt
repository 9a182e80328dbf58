use Rattle.std.proofs.Common.{set, arith, refl, sym, subst, true}
use Rattle.std.proofs.lemmas.Option.{slice_get_within}
use Rattle.lone_port.specs.World.{World, IsAtWork}
use Rattle.lone_port.specs.declared.event.Event.TheVariants.{Raise}
use Rattle.world_play.proofs.Happened.{Comes, raise_fair, raise_comes, idle_raise}
use Rattle.world_play.proofs.world.World.raise.Goals as goal

pub returns-in_default : goal.returns-in_default
returns-in_default c = idle_raise c.args.self.now c.args.number c.in_default.ensures.none

pub index_mut-requires : goal.index_mut-requires
index_mut-requires c =
    let w : World = record { port = c.self.inside.port; workers = c.self.inside.workers.items; raised = c.self.inside.raised.items } in
    let found = c.in-Some.ensures.some in
    let at : IsAtWork w c.args.number c.in-Some.place found.0 = subst (λ (v : World). IsAtWork v c.args.number c.in-Some.place found.0) (sym c.self.view_is) found.1 in
    let low = slice_get_within w.workers c.in-Some.place found.0 at.there in
    let many = c.self.invariant.raised in
    let o = c.self.inside.raised.ok in
    omega (arith, low, many, o)

pub invariant_of-self : goal.invariant_of-self
invariant_of-self c =
    let w : World = record { port = c.self.inside.port; workers = c.self.inside.workers.items; raised = c.self.inside.raised.items } in
    raise_fair w (record w { raised = set w.raised c.in-Some.place true }) c.in-Some.place c.self.invariant refl

pub returns : goal.returns
returns c =
    let w : World = record { port = c.self.inside.port; workers = c.self.inside.workers.items; raised = c.self.inside.raised.items } in
    let after : World = record w { raised = set w.raised c.in-Some.place true } in
    let found = c.in-Some.ensures.some in
    let at : IsAtWork w c.args.number c.in-Some.place found.0 = subst (λ (v : World). IsAtWork v c.args.number c.in-Some.place found.0) (sym c.self.view_is) found.1 in
    subst (λ (v : World). Comes v (Raise c.args.number) 0 after) c.self.view_is (raise_comes w after c.args.number c.in-Some.place found.0 at refl)
