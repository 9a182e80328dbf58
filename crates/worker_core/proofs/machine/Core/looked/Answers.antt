use Rattle.std.proofs.Common.{List, refl, subst, sym, ap}
use Rattle.board_core.specs.declared.keys.Key.{Key}
use Rattle.visit_log.specs.Frame.{Task}
use Rattle.visit_log.specs.Machine.{State, GoesOn, Sees, MayShowAt}
use Rattle.visit_log.specs.Sound.{IsListed, IsSoundVisit, IsLookedAt}
use Rattle.worker_core.specs.Stack.{StackView, HasTop, HasOver}
use Rattle.worker_core.specs.Machine.{CoreView}
use Rattle.worker_core.proofs.Steps.{looked_top, sees, sees_lost}
use Rattle.worker_core.proofs.machine.Core.looked.Goals as goal

pub go_on-requires : goal.go_on-requires
go_on-requires c =
    let sound = subst (λ (z : CoreView). HasOver (λ f fs. IsSoundVisit z.task f fs × IsLookedAt f c.args.place) z.state.frames) (sym c.self.view_is) c.requires.sound in
    let may = subst (λ (z : CoreView). MayShowAt z.task z.state.frames c.args.place c.args.seen) (sym c.self.view_is) c.requires.fits in
    subst (λ (z : Task). HasTop (λ f. (path : List Key) × IsListed z path f) c.look.new.self.frames) (sym c.in-Ok.ensures.task)
    (looked_top c.self.inside.stack.task c.args.place c.args.seen c.self.inside.stack.frames c.look.new.self.frames c.sound_laws.ensures.looked sound may c.in-Ok.ensures.looked)

pub returns-in-Ok-clause-leads : goal.returns-in-Ok-clause-leads
returns-in-Ok-clause-leads c =
    let s : State = record { stage = c.self.inside.stage; frames = c.self.inside.stack.frames; visits = c.self.inside.visits; claims = c.self.inside.claims } in
    let u : State = record { stage = c.self.inside.stage; frames = c.look.new.self.frames; visits = c.self.inside.visits; claims = c.self.inside.claims } in
    let t : State = c.go_on.new.self.state in
    let on = subst (λ (z : Task). HasOver (λ f fs. GoesOn z u f fs t) c.look.new.self.frames) c.in-Ok.ensures.task c.go_on.ensures.on in
    subst (λ (z : CoreView). Sees z.task z.state c.args.place z.state.frames c.args.seen t) c.self.view_is
    (sees c.self.inside.stack.task s u t c.args.place c.args.seen c.self.inside.stack.frames c.look.new.self.frames c.in-Ok.ensures.looked refl refl on)

pub returns-in-Err-clause-leads : goal.returns-in-Err-clause-leads
returns-in-Err-clause-leads c =
    let s : State = record { stage = c.self.inside.stage; frames = c.self.inside.stack.frames; visits = c.self.inside.visits; claims = c.self.inside.claims } in
    let u : State = record { stage = c.self.inside.stage; frames = c.look.new.self.frames; visits = c.self.inside.visits; claims = c.self.inside.claims } in
    let sound = subst (λ (z : CoreView). HasOver (λ f fs. IsSoundVisit z.task f fs × IsLookedAt f c.args.place) z.state.frames) (sym c.self.view_is) c.requires.sound in
    subst (λ (z : CoreView). Sees z.task z.state c.args.place z.state.frames c.args.seen c.wind.new.self.state) c.self.view_is
    (sees_lost c.self.inside.stack.task s u c.wind.new.self.state c.args.place c.args.seen c.self.inside.stack.frames sound c.in-Err.ensures.lost
    (ap (λ (z : StackView). z.frames) c.in-Err.ensures.unchanged) refl refl c.wind.ensures.state)
