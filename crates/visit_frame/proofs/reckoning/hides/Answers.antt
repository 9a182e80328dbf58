use Rattle.std.proofs.Common.{sym, ◌∙◌}
use Rattle.visit_frame.proofs.Counting.{drops_hide, boards_show}
use Rattle.visit_frame.proofs.reckoning.hides.Goals as goal

pub returns-in-Board : goal.returns-in-Board
returns-in-Board c = λ before child drops is. sym (boards_show before child c.in-Board.from c.in-Board.to c.in-Board.promote (is ∙ c.in-Board.is))

pub returns-in-Drop : goal.returns-in-Drop
returns-in-Drop c = λ before child drops is.
    c.contains.ensures ∙ (drops c.in-Drop.to.number ∙ drops_hide before child c.in-Drop.kind c.in-Drop.to (is ∙ c.in-Drop.is))
