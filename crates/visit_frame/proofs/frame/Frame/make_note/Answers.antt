use Rattle.std.proofs.Common.{List, refl, sym, subst}
use Rattle.visit_log.specs.declared.parts.Child.{Child}
use Rattle.pn_numbers.specs.declared.node.Node.{Node}
use Rattle.visit_log.specs.Frame.{task_for, FrameView}
use Rattle.visit_log.specs.Round.{node_in}
use Rattle.visit_frame.specs.Making.{IsKnown}
use Rattle.visit_frame.proofs.frame.Frame.make_note.Goals as goal

pub note_of-requires-clause-known : goal.note_of-requires-clause-known
note_of-requires-clause-known c =
    let task = task_for c.args.problem.now.position c.args.worker in
    let path = c.requires.listed.0 in
    let listed = c.requires.listed.1 in
    let f = c.args.self.now in
    let b = c.self.inside.position in
    let known : IsKnown task path (node_in task f) f.place.position f.children =
    record { is_node = refl; played = listed.played; moves = listed.moves; sound = listed.children } in (
      c.args.worker,
      path,
      subst (λ (l : List Child). IsKnown task path c.node_at-node.result b l) (sym c.deref.ensures.value)
          (subst (λ (n : Node). IsKnown task path n b c.self.inside.children.items) (sym c.node_at-node.ensures)
          (subst (λ (v : FrameView). IsKnown task path (node_in task v) v.place.position v.children) (sym c.self.view_is) known)),
    )
