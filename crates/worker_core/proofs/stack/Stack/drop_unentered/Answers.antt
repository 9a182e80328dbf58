use Rattle.std.proofs.Common.{◌≡◌, List, reverse, ap, sym, ◌∙◌, not}
use Rattle.std.specs.Prelude.{Some, is_some}
use Rattle.visit_log.specs.Frame.{FrameView}
use Rattle.worker_core.specs.Stack.{StackView, top_of}
use Rattle.worker_core.proofs.Last.{unentered_dropped}
use Rattle.worker_core.proofs.stack.Stack.drop_unentered.Goals as goal

pub returns-then-is_none-clause-entered : goal.returns-then-is_none-clause-entered
returns-then-is_none-clause-entered c =
    let f : FrameView = c.in-Some.frame.now in
    let is : Some f ≡ top_of c.args.self.now.frames = c.in-Some.ensures ∙ (ap (λ (z : List FrameView). top_of (reverse z)) c.deref.ensures.value ∙ ap (λ (z : StackView). top_of z.frames) c.self.view_is) in
    c.end.ensures.rest ∙ unentered_dropped c.args.self.now.frames f is (ap is_some (sym c.kept.ensures) ∙ (c.is_none.ensures ∙ ap not c.if-is_none.true))
