use Rattle.std.proofs.Common.{◌≡◌, List, ◌++◌, ◌∷◌, [], reverse, sym, ap, ◌∙◌}
use Rattle.std.specs.Prelude.{IsTrue}
use Rattle.board_core.specs.Board.{Board}
use Rattle.visit_log.specs.Frame.{Task, FrameView, task_for}
use Rattle.visit_log.specs.Machine.{path_of}
use Rattle.worker_core.proofs.Last.{popped, attacks, reverse-snoc}
use Rattle.worker_core.proofs.stack.Stack.end.Goals as goal

pub invariant_of-self-then-is_attackers : goal.invariant_of-self-then-is_attackers
invariant_of-self-then-is_attackers c =
    let task : Task = task_for c.self.inside.problem.position c.self.inside.worker in
    let rest : List FrameView = c.pop.new.self.items in
    let f : FrameView = c.in-Some.frame in
    let items : c.self.inside.frames.items ≡ rest ++ f ∷ [] = c.in-Some.ensures.items in
    let path : c.self.inside.path ≡ path_of task (f ∷ reverse rest) =
    c.self.invariant ∙ (ap (λ (z : List FrameView). path_of task (reverse z)) items ∙ ap (path_of task) (reverse-snoc rest f)) in
    let yes : IsTrue c.is_attackers.result = c.if-is_attackers.true in
    let here : c.position.result.now ≡ f.place.position = c.position.ensures in
    let side : f.place.position.side ≡ c.self.inside.problem.position.side = sym (ap (λ (b : Board). b.side) here) ∙ c.is_attackers.ensures.0 yes in
    popped task (reverse rest) f c.self.inside.path c.pop-then-is_attackers.new.self c.pop-then-is_attackers.result path (attacks task f.place.position side)
    c.pop-then-is_attackers.ensures.popped c.pop-then-is_attackers.ensures.none
