use Rattle.std.proofs.Common.{◌≡◌, List, refl, subst, sym, ◌∙◌}
use Rattle.board_core.specs.declared.keys.Key.{Key}
use Rattle.visit_log.specs.Frame.{Task, FrameView, begun, attacker_in}
use Rattle.visit_log.specs.Children.{AreChildren}
use Rattle.visit_log.specs.Machine.{State, GoesOn, Opens, path_of}
use Rattle.visit_log.specs.Sound.{IsListed, IsSoundPlace}
use Rattle.worker_core.specs.Stack.{HasTop, HasOver, ChangesTop}
use Rattle.worker_core.specs.Machine.{CoreView}
use Rattle.worker_core.proofs.Steps.{kept_placed, listed_top, opens}
use Rattle.worker_core.proofs.machine.Core.entered.Goals as goal

pub list-requires : goal.list-requires
list-requires c =
    let sound = subst (λ (z : CoreView). HasOver (λ f fs. IsSoundPlace z.task fs f.place × (f ≡ begun f.place)) z.state.frames) (sym c.self.view_is) c.requires in
    subst (λ (z : Task). HasTop (λ f. (fs : List FrameView) × IsSoundPlace z fs f.place) c.keep.new.self.frames) (sym c.keep.ensures.task)
    (kept_placed c.self.inside.stack.task c.self.inside.stack.frames c.keep.new.self.frames c.args.kept sound c.keep.ensures.kept)

pub go_on-requires : goal.go_on-requires
go_on-requires c =
    let sound = subst (λ (z : CoreView). HasOver (λ f fs. IsSoundPlace z.task fs f.place × (f ≡ begun f.place)) z.state.frames) (sym c.self.view_is) c.requires in
    let listed = subst (λ (z : Task). ChangesTop (λ f g. AreChildren (attacker_in z) f.place.position (path_of z c.keep.new.self.frames) g.children × (g ≡ record { place = f.place; kept = f.kept; children = g.children; chosen = 0 })) c.keep.new.self.frames c.list.new.self.frames) c.keep.ensures.task c.in-Ok.ensures.listed in
    subst (λ (z : Task). HasTop (λ f. (path : List Key) × IsListed z path f) c.list.new.self.frames) (sym (c.in-Ok.ensures.task ∙ c.keep.ensures.task))
    (listed_top c.self.inside.stack.task c.self.inside.stack.frames c.keep.new.self.frames c.list.new.self.frames c.args.kept c.sound_laws.ensures.opened sound c.keep.ensures.kept listed)

pub returns-in-Ok-clause-leads : goal.returns-in-Ok-clause-leads
returns-in-Ok-clause-leads c =
    let s : State = record { stage = c.self.inside.stage; frames = c.self.inside.stack.frames; visits = c.self.inside.visits; claims = c.self.inside.claims } in
    let u : State = record { stage = c.self.inside.stage; frames = c.list.new.self.frames; visits = c.self.inside.visits; claims = c.self.inside.claims } in
    let t : State = c.go_on.new.self.state in
    let sound = subst (λ (z : CoreView). HasOver (λ f fs. IsSoundPlace z.task fs f.place × (f ≡ begun f.place)) z.state.frames) (sym c.self.view_is) c.requires in
    let listed = subst (λ (z : Task). ChangesTop (λ f g. AreChildren (attacker_in z) f.place.position (path_of z c.keep.new.self.frames) g.children × (g ≡ record { place = f.place; kept = f.kept; children = g.children; chosen = 0 })) c.keep.new.self.frames c.list.new.self.frames) c.keep.ensures.task c.in-Ok.ensures.listed in
    let on = subst (λ (z : Task). HasOver (λ f fs. GoesOn z u f fs t) c.list.new.self.frames) (c.in-Ok.ensures.task ∙ c.keep.ensures.task) c.go_on.ensures.on in
    subst (λ (z : CoreView). Opens z.task z.state z.state.frames c.args.kept t) c.self.view_is
    (opens c.self.inside.stack.task s u t c.self.inside.stack.frames c.keep.new.self.frames c.list.new.self.frames c.args.kept sound c.keep.ensures.kept listed refl refl on)
