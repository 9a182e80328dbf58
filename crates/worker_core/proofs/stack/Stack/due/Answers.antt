use Rattle.std.proofs.Common.{◌≡◌, List, reverse, ap, ◌∙◌}
use Rattle.std.specs.Prelude.{Some}
use Rattle.visit_log.specs.Frame.{FrameView}
use Rattle.worker_core.specs.Stack.{StackView, top_of}
use Rattle.worker_core.proofs.Played.{top_looks}
use Rattle.worker_core.proofs.stack.Stack.due.Goals as goal

pub returns-in-Some : goal.returns-in-Some
returns-in-Some c =
    let f : FrameView = c.in-Some.frame.now in
    let is : Some f ≡ top_of c.args.self.now.frames = c.in-Some.ensures ∙ (ap (λ (z : List FrameView). top_of (reverse z)) c.deref.ensures.value ∙ ap (λ (z : StackView). top_of z.frames) c.self.view_is) in
    top_looks c.args.self.now.frames f c.due.result is c.due.ensures.next
