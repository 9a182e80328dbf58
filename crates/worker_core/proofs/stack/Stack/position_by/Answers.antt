use Rattle.std.proofs.Common.{◌≡◌, List, reverse, subst, sym, ap, ◌∙◌}
use Rattle.std.specs.Prelude.{Option, Some}
use Rattle.board_core.specs.declared.keys.Key.{Key}
use Rattle.board_core.specs.declared.moves.Move.{Move}
use Rattle.visit_log.specs.Frame.{FrameView}
use Rattle.visit_log.specs.Sound.{IsListed, IsMoveTo}
use Rattle.worker_core.specs.Stack.{StackView, top_of}
use Rattle.worker_core.proofs.Played.{top_listed, top_child}
use Rattle.worker_core.proofs.stack.Stack.position_by.Goals as goal

pub played_after-requires-clause-listed : goal.played_after-requires-clause-listed
played_after-requires-clause-listed c =
    let f : FrameView = c.in-Some-top.frame.now in
    let is : Some f ≡ top_of c.args.self.now.frames = c.in-Some-top.ensures ∙ (ap (λ (z : List FrameView). top_of (reverse z)) c.deref.ensures.value ∙ ap (λ (z : StackView). top_of z.frames) c.self.view_is) in
    subst (λ (z : StackView). (path : List Key) × IsListed z.task path f) (sym c.self.view_is) (top_listed c.args.self.now.task c.args.self.now.frames f c.requires.sound is)

pub played_after-requires-clause-child : goal.played_after-requires-clause-child
played_after-requires-clause-child c =
    let f : FrameView = c.in-Some-top.frame.now in
    let is : Some f ≡ top_of c.args.self.now.frames = c.in-Some-top.ensures ∙ (ap (λ (z : List FrameView). top_of (reverse z)) c.deref.ensures.value ∙ ap (λ (z : StackView). top_of z.frames) c.self.view_is) in
    top_child c.args.self.now.frames f c.in-Some.by (subst (λ (by : Option Move). IsMoveTo c.args.self.now.frames by) c.in-Some.is c.requires.to) is
