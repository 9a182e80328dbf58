use Rattle.std.proofs.Common.{◌++◌, ◌∷◌, [], List, ap, ◌∙◌, Bool, false}
use Rattle.visit_log.specs.Run.{WorkerView}
use Rattle.world_play.proofs.First.{one_more, false_push}
use Rattle.world_play.proofs.world.idle_crew.Goals as goal

pub loop-place-preserved : goal.loop-place-preserved
loop-place-preserved c = record {
  workers = (
      let i = c.loop-place.invariant.workers in
      let problem = c.args.problem.now.position in
      let place = c.loop-place.place in
      c.in_ok-push.ensures.items
      ∙ (ap (λ (w : WorkerView). c.loop-place.workers.items ++ w ∷ []) c.make.ensures ∙ one_more problem place c.loop-place.workers.items i));
  raised = c.in_ok-push-2.ensures.items ∙ (ap (λ (r : List Bool). r ++ false ∷ []) c.loop-place.invariant.raised ∙ false_push c.loop-place.place);
}
