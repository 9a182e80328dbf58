use Rattle.std.proofs.Common.{◌≡◌, ◌++◌, List, reverse, map, take, drop, length, sym, ap, ◌∙◌}
use Rattle.visit_log.specs.Frame.{FrameView, task_for}
use Rattle.visit_log.specs.Machine.{bare, path_of}
use Rattle.visit_log.proofs.Offered.{bare_path}
use Rattle.worker_core.specs.Stack.{StackView}
use Rattle.worker_core.proofs.Last.{bared}
use Rattle.worker_core.proofs.stack.Stack.bare.Goals as goal

pub invariant_of-self : goal.invariant_of-self
invariant_of-self c =
    let task = task_for c.self.inside.problem.position c.self.inside.worker in
    let items : List FrameView = c.self.inside.frames.items in
    let new : List FrameView = c.bare_all.new.frames in
    let e : reverse (take c.self.inside.frames.len (new ++ drop (length new) items)) ≡ map bare (reverse items) =
    bared _ _ _ _ c.as_mut_slice.ensures.value c.as_mut_slice.ensures.len c.bare_all.auto.frames c.bare_all.ensures in
    c.self.invariant ∙ (sym (bare_path task (reverse items)) ∙ ap (path_of task) (sym e))

pub returns-clause-bare : goal.returns-clause-bare
returns-clause-bare c =
    let items : List FrameView = c.self.inside.frames.items in
    let new : List FrameView = c.bare_all.new.frames in
    let e : reverse (take c.self.inside.frames.len (new ++ drop (length new) items)) ≡ map bare (reverse items) =
    bared _ _ _ _ c.as_mut_slice.ensures.value c.as_mut_slice.ensures.len c.bare_all.auto.frames c.bare_all.ensures in
    e ∙ ap (λ (z : StackView). map bare z.frames) c.self.view_is
