use Rattle.std.proofs.Common.{◌≡◌, ◌++◌, List, reverse, take, drop, length, subst, sym}
use Rattle.std.specs.Prelude.{OnOk, Some, slice_get}
use Rattle.board_core.specs.declared.keys.Key.{Key}
use Rattle.visit_log.specs.declared.parts.Child.{Child}
use Rattle.visit_log.specs.Frame.{FrameView, attacker_in, task_for}
use Rattle.visit_log.specs.Round.{Sight, Tells, MayShow, looked}
use Rattle.visit_log.specs.Sound.{IsListed}
use Rattle.worker_core.specs.Stack.{StackView, HasTop, ChangesTop}
use Rattle.worker_core.proofs.Last.{closes_ok}
use Rattle.worker_core.proofs.stack.Stack.look.Goals as goal

pub look_top-requires-clause-listed : goal.look_top-requires-clause-listed
look_top-requires-clause-listed c =
    subst (λ (z : List FrameView). HasTop (λ f. (path : List Key) × IsListed (task_for c.self.inside.problem.position c.self.inside.worker) path f × ((child : Child) → slice_get f.children c.args.place ≡ Some child → MayShow c.self.inside.problem.position.side child.key path c.args.seen)) (reverse z)) (sym c.as_mut_slice.ensures.value)
    (subst (λ (z : StackView). HasTop (λ f. (path : List Key) × IsListed z.task path f × ((child : Child) → slice_get f.children c.args.place ≡ Some child → MayShow (attacker_in z.task) child.key path c.args.seen)) z.frames) (sym c.self.view_is) c.requires.listed)

pub returns-clause-looked : goal.returns-clause-looked
returns-clause-looked c =
    let new = c.look_top.new.frames in
    subst (λ (z : StackView). OnOk c.look_top.result (ChangesTop (λ f g. (sight : Sight) × (sight.place ≡ c.args.place) × (sight.seen ≡ c.args.seen) × (slice_get f.children c.args.place ≡ Some sight.child) × Tells (attacker_in z.task) f.place.position sight.child.by c.args.seen sight.start × (g ≡ looked z.task f sight)) z.frames (reverse (take c.self.inside.frames.len (new ++ drop (length new) c.self.inside.frames.items))))) c.self.view_is
    (closes_ok c.look_top.result _ _ _ _ _ c.as_mut_slice.ensures.value c.as_mut_slice.ensures.len c.look_top.auto.frames c.look_top.ensures.looked)
