use Rattle.std.proofs.Common.{◌+◌, List, take, get_or, sym, subst, arith}
use Rattle.std.proofs.lemmas.List.{take_more}
use Rattle.lone_port.specs.declared.event.Event.{Event}
use Rattle.lone_port.specs.declared.event.Event.TheVariants.{Step}
use Rattle.world_play.proofs.Happened.{Played, played_push}
use Rattle.world_play.proofs.world.World.play.Goals as goal

pub loop-event-preserved : goal.loop-event-preserved
loop-event-preserved c =
    let events = c.args.events.now in
    let i = c.loop-event.event-index in
    let e = c.happen-lost.ensures in
    let so_far = c.loop-event.invariant in (
      subst (λ (es : List Event). Played c.args.self.now es (c.loop-event.lost + c.happen-lost.result) c.happen-lost.new.self) (sym (take_more events i (Step 0) c.loop-event-test.true))
          (played_push c.args.self.now c.loop-event.self c.happen-lost.new.self (take i events) (get_or events i (Step 0)) c.loop-event.lost c.happen-lost.result so_far.0 e.played),
      (let low = so_far.1 in let one = e.one in omega (arith, low, one)),
    )
