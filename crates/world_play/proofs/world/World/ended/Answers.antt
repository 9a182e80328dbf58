use Rattle.std.proofs.Common.{◌≡◌, ◌<◌, ◌≤◌, List, length, get_or, ap, ◌∙◌, subst, refl}
use Rattle.std.proofs.lemmas.Bool.{false≢true}
use Rattle.visit_log.specs.Run.{WorkerView}
use Rattle.lone_port.specs.World.{World}
use Rattle.world_play.proofs.Promised.{not_all_ended, one_more_ended, all_have_ended}
use Rattle.world_play.proofs.world.World.ended.Goals as goal

pub returns-in-None : goal.returns-in-None
returns-in-None c =
    let same : c.deref-worker-items.result.now ≡ c.args.self.now.workers = c.deref-worker-items.ensures.value ∙ ap (λ (w : World). w.workers) c.self.view_is in
    let i = c.loop-worker.worker-index in
    let w = c.worker-item.result in
    let is = subst (λ (ws : List WorkerView). w ≡ get_or ws i w) same c.worker-item.is in
    let low = subst (λ (ws : List WorkerView). i < length ws) same c.loop-worker-test.true in
    (λ no. absurd (false≢true no), λ all. absurd (not_all_ended c.args.self.now.workers i w c.end.result low is c.end.ensures c.in-None.is all))

pub loop-worker-preserved : goal.loop-worker-preserved
loop-worker-preserved c =
    let same : c.deref-worker-items.result.now ≡ c.args.self.now.workers = c.deref-worker-items.ensures.value ∙ ap (λ (w : World). w.workers) c.self.view_is in
    let i = c.loop-worker.worker-index in
    let w = c.worker-item.result in
    let is = subst (λ (ws : List WorkerView). w ≡ get_or ws i w) same c.worker-item.is in
    let low = subst (λ (ws : List WorkerView). i < length ws) same c.loop-worker-test.true in
    one_more_ended c.args.self.now.workers i w c.in-Some.field-0 c.end.result low is c.end.ensures c.in-Some.is c.loop-worker.invariant

pub returns : goal.returns
returns c =
    let same : c.deref-worker-items.result.now ≡ c.args.self.now.workers = c.deref-worker-items.ensures.value ∙ ap (λ (w : World). w.workers) c.self.view_is in
    let i = c.loop-worker.worker-index in
    let done = subst (λ (ws : List WorkerView). length ws ≤ i) same c.loop-worker-test.false in
    (λ _. all_have_ended c.args.self.now.workers i done c.loop-worker.invariant, λ _. refl)
