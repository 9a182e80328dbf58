use Rattle.std.proofs.Common.{◌++◌, reverse, take, drop, length, subst}
use Rattle.visit_log.specs.Machine.{Settles}
use Rattle.worker_core.specs.Stack.{StackView, ChangesTop}
use Rattle.worker_core.proofs.Last.{closes}
use Rattle.worker_core.proofs.stack.Stack.settle.Goals as goal

pub returns-clause-settles : goal.returns-clause-settles
returns-clause-settles c =
    let new = c.settle_top.new.frames in
    subst (λ (z : StackView). ChangesTop (λ f g. Settles z.task f c.settle_top.result g) z.frames (reverse (take c.self.inside.frames.len (new ++ drop (length new) c.self.inside.frames.items)))) c.self.view_is
    (closes _ _ _ _ _ c.as_mut_slice.ensures.value c.as_mut_slice.ensures.len c.settle_top.auto.frames c.settle_top.ensures.settles)
