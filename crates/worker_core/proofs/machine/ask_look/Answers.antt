use Rattle.std.proofs.Common.{◌∙◌}
use Rattle.std.specs.Prelude.{slice_get}
use Rattle.visit_log.specs.Frame.{FrameView}
use Rattle.worker_core.proofs.Steps.{look_asks, look_in}
use Rattle.worker_core.proofs.machine.ask_look.Goals as goal

pub returns-in-Some-child_key : goal.returns-in-Some-child_key
returns-in-Some-child_key c =
    let f : FrameView = c.in-Some.frame.now in
    look_asks (slice_get f.children c.args.place) c.child_key.result c.in-Some-child_key.key c.child_key.ensures.there c.child_key.ensures.none c.in-Some-child_key.is
    ∙ look_in c.args.stack.now.frames f c.args.place c.in-Some.ensures
