use Rattle.std.proofs.Common.{◌≡◌, ℕ, List, sym, ap, subst, ◌∙◌}
use Rattle.std.specs.Prelude.{slice_get, IsSome, All}
use Rattle.visit_log.specs.declared.parts.Child.{Child}
use Rattle.visit_log.specs.Frame.{Task, FrameView, task_for}
use Rattle.pn_numbers.specs.declared.node.Node.{Node}
use Rattle.pn_numbers.specs.declared.numbers.Numbers.{Numbers}
use Rattle.pn_numbers.specs.Numbers.{IsOpen}
use Rattle.pn_numbers.specs.Selection.{IsSelected}
use Rattle.visit_log.specs.Children.{is_solved, counted, own_numbers, reaches}
use Rattle.visit_log.specs.Round.{node_in, own, Selects}
use Rattle.visit_log.specs.Machine.{Settles}
use Rattle.visit_log.specs.Sound.{IsListed}
use Rattle.visit_frame.proofs.Settling.{opens_of}
use Rattle.visit_frame.proofs.frame.Frame.settle_round.Goals as goal

pub reckon-reckoned-requires-clause-opens : goal.reckon-reckoned-requires-clause-opens
reckon-reckoned-requires-clause-opens c =
    let f = c.args.self.now in
    let listed = c.requires.listed in
    let kids : c.deref-2.result.now ≡ f.children = c.deref-2.ensures.value ∙ ap (λ (v : FrameView). v.children) c.self.view_is in
    subst (λ (l : List Child). All (λ (child : Child). IsOpen child.numbers) l) (sym kids) (opens_of (task_for c.args.problem.now.position c.args.worker) listed.0 f listed.1)

pub returns-in-Reached : goal.returns-in-Reached
returns-in-Reached c =
    let f = c.args.self.now in
    let task : Task = task_for c.args.problem.now.position c.args.worker in
    let n = c.node_at-node.result in
    let found = c.in-Reached.own in
    let kids : c.deref.result.now ≡ f.children = c.deref.ensures.value ∙ ap (λ (v : FrameView). v.children) c.self.view_is in
    let again : c.deref-2.result.now ≡ f.children = c.deref-2.ensures.value ∙ ap (λ (v : FrameView). v.children) c.self.view_is in
    let node : n ≡ node_in task f = c.node_at-node.ensures ∙ ap (λ (v : FrameView). node_in task v) c.self.view_is in
    let is : found ≡ own task f = c.in-Reached.ensures.0 ∙ (ap (own_numbers n) again ∙ ap (λ (m : Node). own_numbers m f.children) node) in (
      record {
        none_due = c.requires.none_due;
        unsolved = ap (λ (m : Node). is_solved m f.children) (sym node) ∙ (ap (is_solved n) (sym kids) ∙ (sym c.is_solved.ensures ∙ c.if-is_solved.false));
        reached = ap (λ (o : Numbers). reaches o f.place.limits) (sym is) ∙ (ap (λ (v : FrameView). reaches found v.place.limits) (sym c.self.view_is) ∙ c.in-Reached.ensures.1);
        in_range = subst IsOpen is c.in-Reached.ensures.2;
      },
      is,
      c.self.view_is,
    )

pub go_to-requires : goal.go_to-requires
go_to-requires c = subst (λ (l : List Child). IsSome (slice_get l c.in-Chosen.place)) c.deref-2.ensures.value c.in-Chosen.ensures.3

pub returns-in-Chosen : goal.returns-in-Chosen
returns-in-Chosen c =
    let f = c.args.self.now in
    let task : Task = task_for c.args.problem.now.position c.args.worker in
    let n = c.node_at-node.result in
    let found : Numbers = c.in-Chosen.own in
    let place : ℕ = c.in-Chosen.place in
    let second : ℕ = c.in-Chosen.second in
    let kids : c.deref.result.now ≡ f.children = c.deref.ensures.value ∙ ap (λ (v : FrameView). v.children) c.self.view_is in
    let again : c.deref-2.result.now ≡ f.children = c.deref-2.ensures.value ∙ ap (λ (v : FrameView). v.children) c.self.view_is in
    let node : n ≡ node_in task f = c.node_at-node.ensures ∙ ap (λ (v : FrameView). node_in task v) c.self.view_is in
    let is : found ≡ own task f = c.in-Chosen.ensures.0 ∙ (ap (own_numbers n) again ∙ ap (λ (m : Node). own_numbers m f.children) node) in
    let selects : Selects task f place second = record {
      none_due = c.requires.none_due;
      unsolved = ap (λ (m : Node). is_solved m f.children) (sym node) ∙ (ap (is_solved n) (sym kids) ∙ (sym c.is_solved.ensures ∙ c.if-is_solved.false));
      below = ap (λ (o : Numbers). reaches o f.place.limits) (sym is) ∙ (ap (λ (v : FrameView). reaches found v.place.limits) (sym c.self.view_is) ∙ c.in-Chosen.ensures.1);
      selected = subst (λ (m : Node). IsSelected m (counted m f.children) c.args.worker place second) node
          (subst (λ (l : List Child). IsSelected n (counted n l) c.args.worker place second) again c.in-Chosen.ensures.2);
    } in
    let path = c.requires.listed.0 in
    subst (λ (v : FrameView). Settles task v c.go_to.result c.go_to.new.self) c.self.view_is
    (c.go_to.ensures task
    c.node_at-node.ensures
    (subst (λ (v : FrameView). found ≡ own task v) (sym c.self.view_is) is)
    (subst (λ (v : FrameView). Selects task v place second) (sym c.self.view_is) selects)
    (path, subst (λ (v : FrameView). IsListed task path v) (sym c.self.view_is) c.requires.listed.1))
