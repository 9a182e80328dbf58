use Rattle.std.proofs.Common.{ap, ◌∙◌}
use Rattle.lone_port.specs.World.{World}
use Rattle.world_play.specs.Fair.{all_below}
use Rattle.world_play.proofs.Below.{below_is}
use Rattle.world_play.proofs.world.World.below.Goals as goal

pub returns : goal.returns
returns c =
    let w : World = record { port = c.self.inside.port; workers = c.self.inside.workers.items; raised = c.self.inside.raised.items } in
    let l = c.laws.ensures in
    below_is w c.args.key.now c.below.result c.self.invariant l.lone l.rows c.below.ensures ∙ ap (λ (v : World). all_below v.workers c.args.key.now) c.self.view_is
