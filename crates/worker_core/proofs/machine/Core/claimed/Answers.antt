use Rattle.std.proofs.Common.{◌≤◌, ◌+◌, arith, refl, subst, sym}
use Rattle.search_limits.specs.declared.expansions.TheConstants.{MOST_EXPANSIONS}
use Rattle.notes.specs.declared.words.RoomAnswer.{RoomAnswer}
use Rattle.visit_log.specs.declared.parts.Stage.TheVariants.{Claiming, Leaving}
use Rattle.visit_log.specs.declared.parts.Left.TheVariants.{Solved}
use Rattle.visit_log.specs.declared.words.Reply.TheVariants.{Claim as Claimed}
use Rattle.visit_log.specs.Machine.{State, LeadsAt, Makes}
use Rattle.worker_core.specs.Machine.{CoreView}
use Rattle.worker_core.proofs.Steps.{makes}
use Rattle.worker_core.proofs.machine.Core.claimed.Goals as goal

pub overflow_add-self : goal.overflow_add-self
overflow_add-self c =
    let few : c.self.inside.claims ≤ MOST_EXPANSIONS = subst (λ (z : CoreView). z.state.claims ≤ MOST_EXPANSIONS) (sym c.self.view_is) c.requires.few in
    omega (arith, few)

pub returns-in-Ok-clause-leads : goal.returns-in-Ok-clause-leads
returns-in-Ok-clause-leads c =
    let s : State = record { stage = c.self.inside.stage; frames = c.self.inside.stack.frames; visits = c.self.inside.visits; claims = c.self.inside.claims } in
    let t : State = record { stage = Leaving (Solved c.in-Ok.note); frames = c.self.inside.stack.frames; visits = c.self.inside.visits; claims = c.self.inside.claims + 1 } in
    subst (λ (z : RoomAnswer). LeadsAt c.args.self.now.task c.args.self.now.state Claiming (Claimed z) t) (sym c.in-Room.is)
    (subst (λ (z : CoreView). Makes z.task z.state z.state.frames t) c.self.view_is
    (makes c.self.inside.stack.task s t c.self.inside.stack.frames c.in-Ok.note c.in-Ok.ensures.made refl))
