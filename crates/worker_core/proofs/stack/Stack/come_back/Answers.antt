use Rattle.std.proofs.Common.{◌≡◌, ◌++◌, reverse, take, drop, length, subst}
use Rattle.std.specs.Prelude.{Some, slice_get}
use Rattle.visit_log.specs.declared.parts.Child.{Child}
use Rattle.visit_log.specs.Round.{came_back}
use Rattle.worker_core.specs.Stack.{StackView, ChangesTop}
use Rattle.worker_core.proofs.Last.{closes}
use Rattle.worker_core.proofs.stack.Stack.come_back.Goals as goal

pub returns-clause-back : goal.returns-clause-back
returns-clause-back c =
    let new = c.come_back_top.new.frames in
    subst (λ (z : StackView). ChangesTop (λ f g. (child : Child) × (slice_get f.children f.chosen ≡ Some child) × (g ≡ came_back f f.chosen child c.args.left)) z.frames (reverse (take c.self.inside.frames.len (new ++ drop (length new) c.self.inside.frames.items)))) c.self.view_is
    (closes _ _ _ _ _ c.as_mut_slice.ensures.value c.as_mut_slice.ensures.len c.come_back_top.auto.frames c.come_back_top.ensures.back)
