use Rattle.std.proofs.Common.{◌≡◌, ◌++◌, List, reverse, take, drop, length, subst, sym}
use Rattle.std.specs.Prelude.{OnOk}
use Rattle.board_core.specs.declared.keys.Key.{Key}
use Rattle.visit_log.specs.Frame.{Task, FrameView, attacker_in}
use Rattle.visit_log.specs.Children.{AreChildren}
use Rattle.visit_log.specs.Machine.{path_of}
use Rattle.visit_log.specs.Sound.{IsSoundPlace}
use Rattle.worker_core.specs.Stack.{StackView, HasTop, ChangesTop}
use Rattle.worker_core.proofs.Last.{closes_ok, has_top_more}
use Rattle.worker_core.proofs.stack.Stack.list.Goals as goal

pub list_top-requires-clause-placed : goal.list_top-requires-clause-placed
list_top-requires-clause-placed c =
    subst (λ (z : List FrameView). HasTop (λ f. (task : Task) × (fs : List FrameView) × IsSoundPlace task fs f.place) (reverse z)) (sym c.as_mut_slice.ensures.value)
    (subst (λ (z : StackView). HasTop (λ f. (task : Task) × (fs : List FrameView) × IsSoundPlace task fs f.place) z.frames) (sym c.self.view_is)
    (has_top_more _ _ c.args.self.now.frames (λ f is. (c.args.self.now.task, is.0, is.1)) c.requires))

pub returns-clause-listed : goal.returns-clause-listed
returns-clause-listed c =
    let new = c.list_top.new.frames in
    subst (λ (z : StackView). OnOk c.list_top.result (ChangesTop (λ f g. AreChildren (attacker_in z.task) f.place.position (path_of z.task z.frames) g.children × (g ≡ record { place = f.place; kept = f.kept; children = g.children; chosen = 0 })) z.frames (reverse (take c.self.inside.frames.len (new ++ drop (length new) c.self.inside.frames.items))))) c.self.view_is
    (subst (λ (path : List Key). OnOk c.list_top.result (ChangesTop (λ f g. AreChildren c.self.inside.problem.position.side f.place.position path g.children × (g ≡ record { place = f.place; kept = f.kept; children = g.children; chosen = 0 })) (reverse c.self.inside.frames.items) (reverse (take c.self.inside.frames.len (new ++ drop (length new) c.self.inside.frames.items))))) c.self.invariant
    (closes_ok c.list_top.result _ _ _ _ _ c.as_mut_slice.ensures.value c.as_mut_slice.ensures.len c.list_top.auto.frames c.list_top.ensures.listed))
