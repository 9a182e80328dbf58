use Rattle.std.proofs.Common.{List, subst, ◌∙◌}
use Rattle.std.specs.Prelude.{Contains}
use Rattle.board_core.specs.declared.moves.Move.{Move}
use Rattle.visit_frame.proofs.listing.children_of.Goals as goal
use Rattle.visit_frame.proofs.listing.children_of.Goals.{in-Attacker+in_ok-moves-in-Attacker, in-Defender+in_ok-moves-in-Defender}

pub new_children-requires-clause-legal : goal.new_children-requires-clause-legal
new_children-requires-clause-legal c = λ move held. elim c.match-node_at.branch [
  | in-Attacker+in_ok-moves-in-Attacker w ↦
      (w.in_ok-moves-in-Attacker.ensures.sound move (subst (λ (l : List Move). Contains l move) (c.as_slice.ensures.moves ∙ w.moves-is) held)).legal
  | in-Defender+in_ok-moves-in-Defender w ↦
      (w.in_ok-moves-in-Defender.ensures.sound move (subst (λ (l : List Move). Contains l move) (c.as_slice.ensures.moves ∙ w.moves-is) held)).legal
]
