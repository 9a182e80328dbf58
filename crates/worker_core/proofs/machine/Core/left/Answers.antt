use Rattle.std.proofs.Common.{◌≡◌, List, refl, subst, sym, ◌∙◌}
use Rattle.std.specs.Prelude.{Some, slice_get}
use Rattle.board_core.specs.declared.keys.Key.{Key}
use Rattle.visit_log.specs.declared.parts.Child.{Child}
use Rattle.visit_log.specs.declared.parts.Stage.TheVariants.{Leaving}
use Rattle.visit_log.specs.Frame.{Task, FrameView}
use Rattle.visit_log.specs.Round.{came_back}
use Rattle.visit_log.specs.Machine.{State, GoesOn, Returns, rest_of}
use Rattle.visit_log.specs.Sound.{IsListed, IsSoundAt}
use Rattle.worker_core.specs.Stack.{HasTop, HasOver, ChangesTop}
use Rattle.worker_core.specs.Machine.{CoreView}
use Rattle.worker_core.proofs.Steps.{back_top, returns}
use Rattle.worker_core.proofs.machine.Core.left.Goals as goal

pub go_on-requires : goal.go_on-requires
go_on-requires c =
    let sound = subst (λ (z : CoreView). IsSoundAt z.task (Leaving c.args.left) z.state.frames) (sym c.self.view_is) c.requires in
    let changes = subst (λ (z : List FrameView). ChangesTop (λ f g. (child : Child) × (slice_get f.children f.chosen ≡ Some child) × (g ≡ came_back f f.chosen child c.args.left)) z c.come_back.new.self.frames) c.end.ensures.rest c.come_back.ensures.back in
    subst (λ (z : Task). HasTop (λ f. (path : List Key) × IsListed z path f) c.come_back.new.self.frames) (sym (c.come_back.ensures.task ∙ c.end.ensures.task))
    (back_top c.self.inside.stack.task c.self.inside.stack.frames c.args.left c.come_back.new.self.frames c.sound_laws.ensures.back sound changes)

pub returns-clause-leads : goal.returns-clause-leads
returns-clause-leads c =
    let s : State = record { stage = c.self.inside.stage; frames = c.self.inside.stack.frames; visits = c.self.inside.visits; claims = c.self.inside.claims } in
    let u : State = record { stage = c.self.inside.stage; frames = c.come_back.new.self.frames; visits = c.self.inside.visits; claims = c.self.inside.claims } in
    let t : State = c.go_on.new.self.state in
    let changes = subst (λ (z : List FrameView). ChangesTop (λ f g. (child : Child) × (slice_get f.children f.chosen ≡ Some child) × (g ≡ came_back f f.chosen child c.args.left)) z c.come_back.new.self.frames) c.end.ensures.rest c.come_back.ensures.back in
    let on = subst (λ (z : Task). HasOver (λ f fs. GoesOn z u f fs t) c.come_back.new.self.frames) (c.come_back.ensures.task ∙ c.end.ensures.task) c.go_on.ensures.on in
    subst (λ (z : CoreView). Returns z.task z.state (rest_of z.state.frames) c.args.left t) c.self.view_is
    (returns c.self.inside.stack.task s u t (rest_of c.self.inside.stack.frames) c.args.left c.come_back.new.self.frames changes refl refl on)
