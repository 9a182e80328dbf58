use Rattle.std.proofs.Common.{[], ◌∷◌, refl, sym, ap, ◌∙◌, subst, inl, inr}
use Rattle.std.specs.Prelude.{Some, None}
use Rattle.visit_log.specs.declared.words.Request.{Request}
use Rattle.visit_log.specs.declared.words.Request.TheVariants.{Poll, Draw as Draws, Claim as Claims, Look, Enter, Leave, Post}
use Rattle.visit_log.specs.declared.words.Reply.TheVariants.{Poll as Polled, Draw as Drew, Claim as Claimed, Look as Looked, Enter as Entered, Leave as LeftIt, Post as PostedIt}
use Rattle.visit_log.specs.Machine.{path_of}
use Rattle.visit_log.specs.Run.{WorkerView}
use Rattle.visit_log.specs.Sound.{IsSoundRequest}
use Rattle.worker_core.proofs.Turns.{port_goes, few_slots, left_held, left_sound, post_sound, visit_may, shown_may, answer_fits, on_path, turned_by, turned_dark, went_none, keeps_none, no_end}
use Rattle.worker_core.proofs.working.turn.Goals as goal

pub draw-draw-requires : goal.draw-draw-requires
draw-draw-requires g c = port_goes c.args.worker.now (g.P.Port.book c.args.port.now) Draws c.requires.suits (sym c.in-Draw.is ∙ c.request.ensures.request) (inl refl)

pub claim-claim-requires : goal.claim-claim-requires
claim-claim-requires g c = port_goes c.args.worker.now (g.P.Port.book c.args.port.now) Claims c.requires.suits (sym c.in-Claim.is ∙ c.request.ensures.request) (inr refl)

pub enter-kept-requires-clause-in_range : goal.enter-kept-requires-clause-in_range
enter-kept-requires-clause-in_range g c = subst (λ (z : Request). IsSoundRequest c.args.worker.now.task z) c.in-Enter.is c.request.ensures.sound

pub enter-kept-requires-clause-few : goal.enter-kept-requires-clause-few
enter-kept-requires-clause-few g c = few_slots c.args.worker.now (g.P.Port.book c.args.port.now) c.in-Enter.key c.in-Enter.numbers c.requires.suits (sym c.in-Enter.is ∙ c.request.ensures.request)

pub leave-requires-clause-sound : goal.leave-requires-clause-sound
leave-requires-clause-sound g c = left_sound c.args.worker.now (g.P.Port.book c.args.port.now) c.in-Leave.kept c.in-Leave.key c.in-Leave.update c.requires.suits (subst (λ (z : Request). IsSoundRequest c.args.worker.now.task z) c.in-Leave.is c.request.ensures.sound)

pub leave-requires-clause-held : goal.leave-requires-clause-held
leave-requires-clause-held g c = left_held c.count_laws.ensures.own c.args.worker.now (g.P.Port.book c.args.port.now) c.in-Leave.kept c.in-Leave.key c.in-Leave.update c.requires.suits (sym c.in-Leave.is ∙ c.request.ensures.request)

pub post-requires : goal.post-requires
post-requires g c = post_sound c.args.worker.now (g.P.Port.book c.args.port.now) c.in-Post.note c.requires.suits (subst (λ (z : Request). IsSoundRequest c.args.worker.now.task z) c.in-Post.is c.request.ensures.sound)

pub advance-requires-clause-waiting : goal.advance-requires-clause-waiting
advance-requires-clause-waiting g c = ap (λ (z : WorkerView). z.waiting) c.request.ensures.asked

pub advance-requires-clause-fits : goal.advance-requires-clause-fits
advance-requires-clause-fits g c = answer_fits c.args.worker.now c.request.new.self Poll (Polled c.poll-stop.result) (sym c.in-Poll.is ∙ c.request.ensures.request) c.request.ensures.asked tt

pub returns-in-Poll-clause-idle : goal.returns-in-Poll-clause-idle
returns-in-Poll-clause-idle g c = c.advance.ensures.answered

pub returns-in-Poll-clause-suits : goal.returns-in-Poll-clause-suits
returns-in-Poll-clause-suits g c =
    let a = c.advance.ensures in
    let t = turned_by g.P.Port.turn g.P.Port.book c.args.port.now c.poll-stop.new.self c.args.worker.now c.advance.new.self c.request.new.self Poll (Polled c.poll-stop.result)
    (sym c.in-Poll.is ∙ c.request.ensures.request) c.request.ensures.asked (c.poll-stop.ensures.turn (path_of c.args.worker.now.task c.args.worker.now.state.frames)) c.poll-stop.ensures.book c.requires.suits a.task a.log a.happens a.leads a.slots a.sizes a.visits a.claims a.less in
    t.suits

pub returns-in-Poll-clause-went : goal.returns-in-Poll-clause-went
returns-in-Poll-clause-went g c =
    let a = c.advance.ensures in
    let t = turned_by g.P.Port.turn g.P.Port.book c.args.port.now c.poll-stop.new.self c.args.worker.now c.advance.new.self c.request.new.self Poll (Polled c.poll-stop.result)
    (sym c.in-Poll.is ∙ c.request.ensures.request) c.request.ensures.asked (c.poll-stop.ensures.turn (path_of c.args.worker.now.task c.args.worker.now.state.frames)) c.poll-stop.ensures.book c.requires.suits a.task a.log a.happens a.leads a.slots a.sizes a.visits a.claims a.less in
    ((Poll, Some (Polled c.poll-stop.result)) ∷ [], t.went, refl)

pub returns-in-Poll-clause-others : goal.returns-in-Poll-clause-others
returns-in-Poll-clause-others g c =
    let a = c.advance.ensures in
    let t = turned_by g.P.Port.turn g.P.Port.book c.args.port.now c.poll-stop.new.self c.args.worker.now c.advance.new.self c.request.new.self Poll (Polled c.poll-stop.result)
    (sym c.in-Poll.is ∙ c.request.ensures.request) c.request.ensures.asked (c.poll-stop.ensures.turn (path_of c.args.worker.now.task c.args.worker.now.state.frames)) c.poll-stop.ensures.book c.requires.suits a.task a.log a.happens a.leads a.slots a.sizes a.visits a.claims a.less in
    t.others

pub returns-in-Poll-clause-less : goal.returns-in-Poll-clause-less
returns-in-Poll-clause-less g c =
    let a = c.advance.ensures in
    let t = turned_by g.P.Port.turn g.P.Port.book c.args.port.now c.poll-stop.new.self c.args.worker.now c.advance.new.self c.request.new.self Poll (Polled c.poll-stop.result)
    (sym c.in-Poll.is ∙ c.request.ensures.request) c.request.ensures.asked (c.poll-stop.ensures.turn (path_of c.args.worker.now.task c.args.worker.now.state.frames)) c.poll-stop.ensures.book c.requires.suits a.task a.log a.happens a.leads a.slots a.sizes a.visits a.claims a.less in
    t.less

pub returns-in-Poll-clause-ended : goal.returns-in-Poll-clause-ended
returns-in-Poll-clause-ended g c = tt

pub advance-requires-in-Draw-clause-waiting : goal.advance-requires-in-Draw-clause-waiting
advance-requires-in-Draw-clause-waiting g c = ap (λ (z : WorkerView). z.waiting) c.request.ensures.asked

pub advance-requires-in-Draw-clause-fits : goal.advance-requires-in-Draw-clause-fits
advance-requires-in-Draw-clause-fits g c = answer_fits c.args.worker.now c.request.new.self Draws (Drew c.draw-draw.result) (sym c.in-Draw.is ∙ c.request.ensures.request) c.request.ensures.asked (visit_may c.args.worker.now (g.P.Port.book c.args.port.now) (g.P.Port.book c.draw-draw.new.self) c.draw-draw.result c.requires.suits c.draw-draw.ensures.book)

pub returns-in-Draw-clause-idle : goal.returns-in-Draw-clause-idle
returns-in-Draw-clause-idle g c = c.advance-in-Draw.ensures.answered

pub returns-in-Draw-clause-suits : goal.returns-in-Draw-clause-suits
returns-in-Draw-clause-suits g c =
    let a = c.advance-in-Draw.ensures in
    let t = turned_by g.P.Port.turn g.P.Port.book c.args.port.now c.draw-draw.new.self c.args.worker.now c.advance-in-Draw.new.self c.request.new.self Draws (Drew c.draw-draw.result)
    (sym c.in-Draw.is ∙ c.request.ensures.request) c.request.ensures.asked (c.draw-draw.ensures.turn (path_of c.args.worker.now.task c.args.worker.now.state.frames)) c.draw-draw.ensures.book c.requires.suits a.task a.log a.happens a.leads a.slots a.sizes a.visits a.claims a.less in
    t.suits

pub returns-in-Draw-clause-went : goal.returns-in-Draw-clause-went
returns-in-Draw-clause-went g c =
    let a = c.advance-in-Draw.ensures in
    let t = turned_by g.P.Port.turn g.P.Port.book c.args.port.now c.draw-draw.new.self c.args.worker.now c.advance-in-Draw.new.self c.request.new.self Draws (Drew c.draw-draw.result)
    (sym c.in-Draw.is ∙ c.request.ensures.request) c.request.ensures.asked (c.draw-draw.ensures.turn (path_of c.args.worker.now.task c.args.worker.now.state.frames)) c.draw-draw.ensures.book c.requires.suits a.task a.log a.happens a.leads a.slots a.sizes a.visits a.claims a.less in
    ((Draws, Some (Drew c.draw-draw.result)) ∷ [], t.went, refl)

pub returns-in-Draw-clause-others : goal.returns-in-Draw-clause-others
returns-in-Draw-clause-others g c =
    let a = c.advance-in-Draw.ensures in
    let t = turned_by g.P.Port.turn g.P.Port.book c.args.port.now c.draw-draw.new.self c.args.worker.now c.advance-in-Draw.new.self c.request.new.self Draws (Drew c.draw-draw.result)
    (sym c.in-Draw.is ∙ c.request.ensures.request) c.request.ensures.asked (c.draw-draw.ensures.turn (path_of c.args.worker.now.task c.args.worker.now.state.frames)) c.draw-draw.ensures.book c.requires.suits a.task a.log a.happens a.leads a.slots a.sizes a.visits a.claims a.less in
    t.others

pub returns-in-Draw-clause-less : goal.returns-in-Draw-clause-less
returns-in-Draw-clause-less g c =
    let a = c.advance-in-Draw.ensures in
    let t = turned_by g.P.Port.turn g.P.Port.book c.args.port.now c.draw-draw.new.self c.args.worker.now c.advance-in-Draw.new.self c.request.new.self Draws (Drew c.draw-draw.result)
    (sym c.in-Draw.is ∙ c.request.ensures.request) c.request.ensures.asked (c.draw-draw.ensures.turn (path_of c.args.worker.now.task c.args.worker.now.state.frames)) c.draw-draw.ensures.book c.requires.suits a.task a.log a.happens a.leads a.slots a.sizes a.visits a.claims a.less in
    t.less

pub returns-in-Draw-clause-ended : goal.returns-in-Draw-clause-ended
returns-in-Draw-clause-ended g c = tt

pub advance-requires-in-Claim-clause-waiting : goal.advance-requires-in-Claim-clause-waiting
advance-requires-in-Claim-clause-waiting g c = ap (λ (z : WorkerView). z.waiting) c.request.ensures.asked

pub advance-requires-in-Claim-clause-fits : goal.advance-requires-in-Claim-clause-fits
advance-requires-in-Claim-clause-fits g c = answer_fits c.args.worker.now c.request.new.self Claims (Claimed c.claim-claim.result) (sym c.in-Claim.is ∙ c.request.ensures.request) c.request.ensures.asked tt

pub returns-in-Claim-clause-idle : goal.returns-in-Claim-clause-idle
returns-in-Claim-clause-idle g c = c.advance-in-Claim.ensures.answered

pub returns-in-Claim-clause-suits : goal.returns-in-Claim-clause-suits
returns-in-Claim-clause-suits g c =
    let a = c.advance-in-Claim.ensures in
    let t = turned_by g.P.Port.turn g.P.Port.book c.args.port.now c.claim-claim.new.self c.args.worker.now c.advance-in-Claim.new.self c.request.new.self Claims (Claimed c.claim-claim.result)
    (sym c.in-Claim.is ∙ c.request.ensures.request) c.request.ensures.asked (c.claim-claim.ensures.turn (path_of c.args.worker.now.task c.args.worker.now.state.frames)) c.claim-claim.ensures.book c.requires.suits a.task a.log a.happens a.leads a.slots a.sizes a.visits a.claims a.less in
    t.suits

pub returns-in-Claim-clause-went : goal.returns-in-Claim-clause-went
returns-in-Claim-clause-went g c =
    let a = c.advance-in-Claim.ensures in
    let t = turned_by g.P.Port.turn g.P.Port.book c.args.port.now c.claim-claim.new.self c.args.worker.now c.advance-in-Claim.new.self c.request.new.self Claims (Claimed c.claim-claim.result)
    (sym c.in-Claim.is ∙ c.request.ensures.request) c.request.ensures.asked (c.claim-claim.ensures.turn (path_of c.args.worker.now.task c.args.worker.now.state.frames)) c.claim-claim.ensures.book c.requires.suits a.task a.log a.happens a.leads a.slots a.sizes a.visits a.claims a.less in
    ((Claims, Some (Claimed c.claim-claim.result)) ∷ [], t.went, refl)

pub returns-in-Claim-clause-others : goal.returns-in-Claim-clause-others
returns-in-Claim-clause-others g c =
    let a = c.advance-in-Claim.ensures in
    let t = turned_by g.P.Port.turn g.P.Port.book c.args.port.now c.claim-claim.new.self c.args.worker.now c.advance-in-Claim.new.self c.request.new.self Claims (Claimed c.claim-claim.result)
    (sym c.in-Claim.is ∙ c.request.ensures.request) c.request.ensures.asked (c.claim-claim.ensures.turn (path_of c.args.worker.now.task c.args.worker.now.state.frames)) c.claim-claim.ensures.book c.requires.suits a.task a.log a.happens a.leads a.slots a.sizes a.visits a.claims a.less in
    t.others

pub returns-in-Claim-clause-less : goal.returns-in-Claim-clause-less
returns-in-Claim-clause-less g c =
    let a = c.advance-in-Claim.ensures in
    let t = turned_by g.P.Port.turn g.P.Port.book c.args.port.now c.claim-claim.new.self c.args.worker.now c.advance-in-Claim.new.self c.request.new.self Claims (Claimed c.claim-claim.result)
    (sym c.in-Claim.is ∙ c.request.ensures.request) c.request.ensures.asked (c.claim-claim.ensures.turn (path_of c.args.worker.now.task c.args.worker.now.state.frames)) c.claim-claim.ensures.book c.requires.suits a.task a.log a.happens a.leads a.slots a.sizes a.visits a.claims a.less in
    t.less

pub returns-in-Claim-clause-ended : goal.returns-in-Claim-clause-ended
returns-in-Claim-clause-ended g c = tt

pub advance-requires-in-Ok-clause-waiting : goal.advance-requires-in-Ok-clause-waiting
advance-requires-in-Ok-clause-waiting g c = ap (λ (z : WorkerView). z.waiting) c.request.ensures.asked

pub advance-requires-in-Ok-clause-fits : goal.advance-requires-in-Ok-clause-fits
advance-requires-in-Ok-clause-fits g c = answer_fits c.args.worker.now c.request.new.self (Look c.in-Look.key) (Looked c.in-Ok.seen) (sym c.in-Look.is ∙ c.request.ensures.request) c.request.ensures.asked (shown_may c.args.worker.now (g.P.Port.book c.args.port.now) c.in-Look.key c.path.result.now c.in-Ok.seen c.requires.suits (c.path.ensures ∙ ap (λ (z : WorkerView). path_of z.task z.state.frames) c.request.ensures.asked) c.in-Ok.ensures.may)

pub returns-in-Ok-clause-idle : goal.returns-in-Ok-clause-idle
returns-in-Ok-clause-idle g c = c.advance-in-Ok.ensures.answered

pub returns-in-Ok-clause-suits : goal.returns-in-Ok-clause-suits
returns-in-Ok-clause-suits g c =
    let a = c.advance-in-Ok.ensures in
    let t = turned_by g.P.Port.turn g.P.Port.book c.args.port.now c.look.new.self c.args.worker.now c.advance-in-Ok.new.self c.request.new.self (Look c.in-Look.key) (Looked c.in-Ok.seen)
    (sym c.in-Look.is ∙ c.request.ensures.request) c.request.ensures.asked (on_path g.P.Port.turn c.args.port.now c.look.new.self (Look c.in-Look.key) (Some (Looked c.in-Ok.seen)) c.path.result.now c.args.worker.now c.request.new.self c.path.ensures c.request.ensures.asked c.in-Ok.ensures.turn) c.in-Ok.ensures.book c.requires.suits a.task a.log a.happens a.leads a.slots a.sizes a.visits a.claims a.less in
    t.suits

pub returns-in-Ok-clause-went : goal.returns-in-Ok-clause-went
returns-in-Ok-clause-went g c =
    let a = c.advance-in-Ok.ensures in
    let t = turned_by g.P.Port.turn g.P.Port.book c.args.port.now c.look.new.self c.args.worker.now c.advance-in-Ok.new.self c.request.new.self (Look c.in-Look.key) (Looked c.in-Ok.seen)
    (sym c.in-Look.is ∙ c.request.ensures.request) c.request.ensures.asked (on_path g.P.Port.turn c.args.port.now c.look.new.self (Look c.in-Look.key) (Some (Looked c.in-Ok.seen)) c.path.result.now c.args.worker.now c.request.new.self c.path.ensures c.request.ensures.asked c.in-Ok.ensures.turn) c.in-Ok.ensures.book c.requires.suits a.task a.log a.happens a.leads a.slots a.sizes a.visits a.claims a.less in
    (((Look c.in-Look.key), Some (Looked c.in-Ok.seen)) ∷ [], t.went, refl)

pub returns-in-Ok-clause-others : goal.returns-in-Ok-clause-others
returns-in-Ok-clause-others g c =
    let a = c.advance-in-Ok.ensures in
    let t = turned_by g.P.Port.turn g.P.Port.book c.args.port.now c.look.new.self c.args.worker.now c.advance-in-Ok.new.self c.request.new.self (Look c.in-Look.key) (Looked c.in-Ok.seen)
    (sym c.in-Look.is ∙ c.request.ensures.request) c.request.ensures.asked (on_path g.P.Port.turn c.args.port.now c.look.new.self (Look c.in-Look.key) (Some (Looked c.in-Ok.seen)) c.path.result.now c.args.worker.now c.request.new.self c.path.ensures c.request.ensures.asked c.in-Ok.ensures.turn) c.in-Ok.ensures.book c.requires.suits a.task a.log a.happens a.leads a.slots a.sizes a.visits a.claims a.less in
    t.others

pub returns-in-Ok-clause-less : goal.returns-in-Ok-clause-less
returns-in-Ok-clause-less g c =
    let a = c.advance-in-Ok.ensures in
    let t = turned_by g.P.Port.turn g.P.Port.book c.args.port.now c.look.new.self c.args.worker.now c.advance-in-Ok.new.self c.request.new.self (Look c.in-Look.key) (Looked c.in-Ok.seen)
    (sym c.in-Look.is ∙ c.request.ensures.request) c.request.ensures.asked (on_path g.P.Port.turn c.args.port.now c.look.new.self (Look c.in-Look.key) (Some (Looked c.in-Ok.seen)) c.path.result.now c.args.worker.now c.request.new.self c.path.ensures c.request.ensures.asked c.in-Ok.ensures.turn) c.in-Ok.ensures.book c.requires.suits a.task a.log a.happens a.leads a.slots a.sizes a.visits a.claims a.less in
    t.less

pub returns-in-Ok-clause-ended : goal.returns-in-Ok-clause-ended
returns-in-Ok-clause-ended g c = tt

pub advance-requires-in-Enter-clause-waiting : goal.advance-requires-in-Enter-clause-waiting
advance-requires-in-Enter-clause-waiting g c = ap (λ (z : WorkerView). z.waiting) c.request.ensures.asked

pub advance-requires-in-Enter-clause-fits : goal.advance-requires-in-Enter-clause-fits
advance-requires-in-Enter-clause-fits g c = answer_fits c.args.worker.now c.request.new.self (Enter c.in-Enter.key c.in-Enter.numbers) (Entered c.enter-kept.result) (sym c.in-Enter.is ∙ c.request.ensures.request) c.request.ensures.asked tt

pub returns-in-Enter-clause-idle : goal.returns-in-Enter-clause-idle
returns-in-Enter-clause-idle g c = c.advance-in-Enter.ensures.answered

pub returns-in-Enter-clause-suits : goal.returns-in-Enter-clause-suits
returns-in-Enter-clause-suits g c =
    let a = c.advance-in-Enter.ensures in
    let t = turned_by g.P.Port.turn g.P.Port.book c.args.port.now c.enter-kept.new.self c.args.worker.now c.advance-in-Enter.new.self c.request.new.self (Enter c.in-Enter.key c.in-Enter.numbers) (Entered c.enter-kept.result)
    (sym c.in-Enter.is ∙ c.request.ensures.request) c.request.ensures.asked (c.enter-kept.ensures.turn (path_of c.args.worker.now.task c.args.worker.now.state.frames)) c.enter-kept.ensures.book c.requires.suits a.task a.log a.happens a.leads a.slots a.sizes a.visits a.claims a.less in
    t.suits

pub returns-in-Enter-clause-went : goal.returns-in-Enter-clause-went
returns-in-Enter-clause-went g c =
    let a = c.advance-in-Enter.ensures in
    let t = turned_by g.P.Port.turn g.P.Port.book c.args.port.now c.enter-kept.new.self c.args.worker.now c.advance-in-Enter.new.self c.request.new.self (Enter c.in-Enter.key c.in-Enter.numbers) (Entered c.enter-kept.result)
    (sym c.in-Enter.is ∙ c.request.ensures.request) c.request.ensures.asked (c.enter-kept.ensures.turn (path_of c.args.worker.now.task c.args.worker.now.state.frames)) c.enter-kept.ensures.book c.requires.suits a.task a.log a.happens a.leads a.slots a.sizes a.visits a.claims a.less in
    (((Enter c.in-Enter.key c.in-Enter.numbers), Some (Entered c.enter-kept.result)) ∷ [], t.went, refl)

pub returns-in-Enter-clause-others : goal.returns-in-Enter-clause-others
returns-in-Enter-clause-others g c =
    let a = c.advance-in-Enter.ensures in
    let t = turned_by g.P.Port.turn g.P.Port.book c.args.port.now c.enter-kept.new.self c.args.worker.now c.advance-in-Enter.new.self c.request.new.self (Enter c.in-Enter.key c.in-Enter.numbers) (Entered c.enter-kept.result)
    (sym c.in-Enter.is ∙ c.request.ensures.request) c.request.ensures.asked (c.enter-kept.ensures.turn (path_of c.args.worker.now.task c.args.worker.now.state.frames)) c.enter-kept.ensures.book c.requires.suits a.task a.log a.happens a.leads a.slots a.sizes a.visits a.claims a.less in
    t.others

pub returns-in-Enter-clause-less : goal.returns-in-Enter-clause-less
returns-in-Enter-clause-less g c =
    let a = c.advance-in-Enter.ensures in
    let t = turned_by g.P.Port.turn g.P.Port.book c.args.port.now c.enter-kept.new.self c.args.worker.now c.advance-in-Enter.new.self c.request.new.self (Enter c.in-Enter.key c.in-Enter.numbers) (Entered c.enter-kept.result)
    (sym c.in-Enter.is ∙ c.request.ensures.request) c.request.ensures.asked (c.enter-kept.ensures.turn (path_of c.args.worker.now.task c.args.worker.now.state.frames)) c.enter-kept.ensures.book c.requires.suits a.task a.log a.happens a.leads a.slots a.sizes a.visits a.claims a.less in
    t.less

pub returns-in-Enter-clause-ended : goal.returns-in-Enter-clause-ended
returns-in-Enter-clause-ended g c = tt

pub advance-requires-in-Leave-clause-waiting : goal.advance-requires-in-Leave-clause-waiting
advance-requires-in-Leave-clause-waiting g c = ap (λ (z : WorkerView). z.waiting) c.request.ensures.asked

pub advance-requires-in-Leave-clause-fits : goal.advance-requires-in-Leave-clause-fits
advance-requires-in-Leave-clause-fits g c = answer_fits c.args.worker.now c.request.new.self (Leave c.in-Leave.kept c.in-Leave.key c.in-Leave.update) LeftIt (sym c.in-Leave.is ∙ c.request.ensures.request) c.request.ensures.asked tt

pub returns-in-Leave-clause-idle : goal.returns-in-Leave-clause-idle
returns-in-Leave-clause-idle g c = c.advance-in-Leave.ensures.answered

pub returns-in-Leave-clause-suits : goal.returns-in-Leave-clause-suits
returns-in-Leave-clause-suits g c =
    let a = c.advance-in-Leave.ensures in
    let t = turned_by g.P.Port.turn g.P.Port.book c.args.port.now c.leave.new.self c.args.worker.now c.advance-in-Leave.new.self c.request.new.self (Leave c.in-Leave.kept c.in-Leave.key c.in-Leave.update) LeftIt
    (sym c.in-Leave.is ∙ c.request.ensures.request) c.request.ensures.asked (c.leave.ensures.turn (path_of c.args.worker.now.task c.args.worker.now.state.frames)) c.leave.ensures.book c.requires.suits a.task a.log a.happens a.leads a.slots a.sizes a.visits a.claims a.less in
    t.suits

pub returns-in-Leave-clause-went : goal.returns-in-Leave-clause-went
returns-in-Leave-clause-went g c =
    let a = c.advance-in-Leave.ensures in
    let t = turned_by g.P.Port.turn g.P.Port.book c.args.port.now c.leave.new.self c.args.worker.now c.advance-in-Leave.new.self c.request.new.self (Leave c.in-Leave.kept c.in-Leave.key c.in-Leave.update) LeftIt
    (sym c.in-Leave.is ∙ c.request.ensures.request) c.request.ensures.asked (c.leave.ensures.turn (path_of c.args.worker.now.task c.args.worker.now.state.frames)) c.leave.ensures.book c.requires.suits a.task a.log a.happens a.leads a.slots a.sizes a.visits a.claims a.less in
    (((Leave c.in-Leave.kept c.in-Leave.key c.in-Leave.update), Some LeftIt) ∷ [], t.went, refl)

pub returns-in-Leave-clause-others : goal.returns-in-Leave-clause-others
returns-in-Leave-clause-others g c =
    let a = c.advance-in-Leave.ensures in
    let t = turned_by g.P.Port.turn g.P.Port.book c.args.port.now c.leave.new.self c.args.worker.now c.advance-in-Leave.new.self c.request.new.self (Leave c.in-Leave.kept c.in-Leave.key c.in-Leave.update) LeftIt
    (sym c.in-Leave.is ∙ c.request.ensures.request) c.request.ensures.asked (c.leave.ensures.turn (path_of c.args.worker.now.task c.args.worker.now.state.frames)) c.leave.ensures.book c.requires.suits a.task a.log a.happens a.leads a.slots a.sizes a.visits a.claims a.less in
    t.others

pub returns-in-Leave-clause-less : goal.returns-in-Leave-clause-less
returns-in-Leave-clause-less g c =
    let a = c.advance-in-Leave.ensures in
    let t = turned_by g.P.Port.turn g.P.Port.book c.args.port.now c.leave.new.self c.args.worker.now c.advance-in-Leave.new.self c.request.new.self (Leave c.in-Leave.kept c.in-Leave.key c.in-Leave.update) LeftIt
    (sym c.in-Leave.is ∙ c.request.ensures.request) c.request.ensures.asked (c.leave.ensures.turn (path_of c.args.worker.now.task c.args.worker.now.state.frames)) c.leave.ensures.book c.requires.suits a.task a.log a.happens a.leads a.slots a.sizes a.visits a.claims a.less in
    t.less

pub returns-in-Leave-clause-ended : goal.returns-in-Leave-clause-ended
returns-in-Leave-clause-ended g c = tt

pub advance-requires-in-Post-clause-waiting : goal.advance-requires-in-Post-clause-waiting
advance-requires-in-Post-clause-waiting g c = ap (λ (z : WorkerView). z.waiting) c.request.ensures.asked

pub advance-requires-in-Post-clause-fits : goal.advance-requires-in-Post-clause-fits
advance-requires-in-Post-clause-fits g c = answer_fits c.args.worker.now c.request.new.self (Post c.in-Post.note) PostedIt (sym c.in-Post.is ∙ c.request.ensures.request) c.request.ensures.asked tt

pub returns-in-Post-clause-idle : goal.returns-in-Post-clause-idle
returns-in-Post-clause-idle g c = c.advance-in-Post.ensures.answered

pub returns-in-Post-clause-suits : goal.returns-in-Post-clause-suits
returns-in-Post-clause-suits g c =
    let a = c.advance-in-Post.ensures in
    let t = turned_by g.P.Port.turn g.P.Port.book c.args.port.now c.post.new.self c.args.worker.now c.advance-in-Post.new.self c.request.new.self (Post c.in-Post.note) PostedIt
    (sym c.in-Post.is ∙ c.request.ensures.request) c.request.ensures.asked (c.post.ensures.turn (path_of c.args.worker.now.task c.args.worker.now.state.frames)) c.post.ensures.book c.requires.suits a.task a.log a.happens a.leads a.slots a.sizes a.visits a.claims a.less in
    t.suits

pub returns-in-Post-clause-went : goal.returns-in-Post-clause-went
returns-in-Post-clause-went g c =
    let a = c.advance-in-Post.ensures in
    let t = turned_by g.P.Port.turn g.P.Port.book c.args.port.now c.post.new.self c.args.worker.now c.advance-in-Post.new.self c.request.new.self (Post c.in-Post.note) PostedIt
    (sym c.in-Post.is ∙ c.request.ensures.request) c.request.ensures.asked (c.post.ensures.turn (path_of c.args.worker.now.task c.args.worker.now.state.frames)) c.post.ensures.book c.requires.suits a.task a.log a.happens a.leads a.slots a.sizes a.visits a.claims a.less in
    (((Post c.in-Post.note), Some PostedIt) ∷ [], t.went, refl)

pub returns-in-Post-clause-others : goal.returns-in-Post-clause-others
returns-in-Post-clause-others g c =
    let a = c.advance-in-Post.ensures in
    let t = turned_by g.P.Port.turn g.P.Port.book c.args.port.now c.post.new.self c.args.worker.now c.advance-in-Post.new.self c.request.new.self (Post c.in-Post.note) PostedIt
    (sym c.in-Post.is ∙ c.request.ensures.request) c.request.ensures.asked (c.post.ensures.turn (path_of c.args.worker.now.task c.args.worker.now.state.frames)) c.post.ensures.book c.requires.suits a.task a.log a.happens a.leads a.slots a.sizes a.visits a.claims a.less in
    t.others

pub returns-in-Post-clause-less : goal.returns-in-Post-clause-less
returns-in-Post-clause-less g c =
    let a = c.advance-in-Post.ensures in
    let t = turned_by g.P.Port.turn g.P.Port.book c.args.port.now c.post.new.self c.args.worker.now c.advance-in-Post.new.self c.request.new.self (Post c.in-Post.note) PostedIt
    (sym c.in-Post.is ∙ c.request.ensures.request) c.request.ensures.asked (c.post.ensures.turn (path_of c.args.worker.now.task c.args.worker.now.state.frames)) c.post.ensures.book c.requires.suits a.task a.log a.happens a.leads a.slots a.sizes a.visits a.claims a.less in
    t.less

pub returns-in-Post-clause-ended : goal.returns-in-Post-clause-ended
returns-in-Post-clause-ended g c = tt

pub returns-in-Err-clause-idle : goal.returns-in-Err-clause-idle
returns-in-Err-clause-idle g c = ap (λ (z : WorkerView). z.waiting) c.starve.ensures.starved

pub returns-in-Err-clause-suits : goal.returns-in-Err-clause-suits
returns-in-Err-clause-suits g c =
    let s = c.starve.ensures in
    let t = turned_dark g.P.Port.turn g.P.Port.book c.args.port.now c.look.new.self c.args.worker.now c.starve.new.self c.request.new.self c.in-Look.key
    (sym c.in-Look.is ∙ c.request.ensures.request) c.request.ensures.asked (on_path g.P.Port.turn c.args.port.now c.look.new.self (Look c.in-Look.key) None c.path.result.now c.args.worker.now c.request.new.self c.path.ensures c.request.ensures.asked c.in-Err.ensures.turn) c.in-Err.ensures.book c.requires.suits s.starved s.dark s.alone in
    t.suits

pub returns-in-Err-clause-went : goal.returns-in-Err-clause-went
returns-in-Err-clause-went g c =
    let s = c.starve.ensures in
    let t = turned_dark g.P.Port.turn g.P.Port.book c.args.port.now c.look.new.self c.args.worker.now c.starve.new.self c.request.new.self c.in-Look.key
    (sym c.in-Look.is ∙ c.request.ensures.request) c.request.ensures.asked (on_path g.P.Port.turn c.args.port.now c.look.new.self (Look c.in-Look.key) None c.path.result.now c.args.worker.now c.request.new.self c.path.ensures c.request.ensures.asked c.in-Err.ensures.turn) c.in-Err.ensures.book c.requires.suits s.starved s.dark s.alone in
    ((Look c.in-Look.key, None) ∷ [], t.went, refl)

pub returns-in-Err-clause-others : goal.returns-in-Err-clause-others
returns-in-Err-clause-others g c =
    let s = c.starve.ensures in
    let t = turned_dark g.P.Port.turn g.P.Port.book c.args.port.now c.look.new.self c.args.worker.now c.starve.new.self c.request.new.self c.in-Look.key
    (sym c.in-Look.is ∙ c.request.ensures.request) c.request.ensures.asked (on_path g.P.Port.turn c.args.port.now c.look.new.self (Look c.in-Look.key) None c.path.result.now c.args.worker.now c.request.new.self c.path.ensures c.request.ensures.asked c.in-Err.ensures.turn) c.in-Err.ensures.book c.requires.suits s.starved s.dark s.alone in
    t.others

pub returns-in-Err-clause-less : goal.returns-in-Err-clause-less
returns-in-Err-clause-less g c =
    let s = c.starve.ensures in
    let t = turned_dark g.P.Port.turn g.P.Port.book c.args.port.now c.look.new.self c.args.worker.now c.starve.new.self c.request.new.self c.in-Look.key
    (sym c.in-Look.is ∙ c.request.ensures.request) c.request.ensures.asked (on_path g.P.Port.turn c.args.port.now c.look.new.self (Look c.in-Look.key) None c.path.result.now c.args.worker.now c.request.new.self c.path.ensures c.request.ensures.asked c.in-Err.ensures.turn) c.in-Err.ensures.book c.requires.suits s.starved s.dark s.alone in
    t.less

pub returns-in-Err-clause-ended : goal.returns-in-Err-clause-ended
returns-in-Err-clause-ended g c = tt

pub returns-in-Some-clause-idle : goal.returns-in-Some-clause-idle
returns-in-Some-clause-idle g c = c.requires.idle

pub returns-in-Some-clause-suits : goal.returns-in-Some-clause-suits
returns-in-Some-clause-suits g c = c.requires.suits

pub returns-in-Some-clause-went : goal.returns-in-Some-clause-went
returns-in-Some-clause-went g c = ([], went_none g.P.Port.turn c.args.port.now c.args.worker.now, refl)

pub returns-in-Some-clause-others : goal.returns-in-Some-clause-others
returns-in-Some-clause-others g c = keeps_none c.args.worker.now (g.P.Port.book c.args.port.now)

pub returns-in-Some-clause-less : goal.returns-in-Some-clause-less
returns-in-Some-clause-less g c = tt

pub returns-in-Some-clause-ended : goal.returns-in-Some-clause-ended
returns-in-Some-clause-ended g c = sym c.in-Some.ensures

pub returns-in-End-clause-idle : goal.returns-in-End-clause-idle
returns-in-End-clause-idle g c = absurd (no_end c.in_default.ensures ((c.request.ensures.ends c.in-End.end).0 c.in-End.is))

pub returns-in-End-clause-suits : goal.returns-in-End-clause-suits
returns-in-End-clause-suits g c = absurd (no_end c.in_default.ensures ((c.request.ensures.ends c.in-End.end).0 c.in-End.is))

pub returns-in-End-clause-went : goal.returns-in-End-clause-went
returns-in-End-clause-went g c = absurd (no_end c.in_default.ensures ((c.request.ensures.ends c.in-End.end).0 c.in-End.is))

pub returns-in-End-clause-others : goal.returns-in-End-clause-others
returns-in-End-clause-others g c = absurd (no_end c.in_default.ensures ((c.request.ensures.ends c.in-End.end).0 c.in-End.is))

pub returns-in-End-clause-less : goal.returns-in-End-clause-less
returns-in-End-clause-less g c = tt

pub returns-in-End-clause-ended : goal.returns-in-End-clause-ended
returns-in-End-clause-ended g c = absurd (no_end c.in_default.ensures ((c.request.ensures.ends c.in-End.end).0 c.in-End.is))
