use Rattle.std.proofs.Common.{length, ◌∙◌}
use Rattle.visit_frame.proofs.Places.{empty_if, some_if}
use Rattle.visit_frame.proofs.Refuted.{ends_in_escape, escapes_after}
use Rattle.visit_frame.proofs.making.escape_from_all.Goals as goal

pub escape_end-requires-clause-end : goal.escape_end-requires-clause-end
escape_end-requires-clause-end c =
    ends_in_escape c.args.problem.now.position.side c.args.position.now c.args.children.now c.requires.all
    (empty_if (length c.args.children.now) c.is_empty.result c.if-is_empty.true c.is_empty.ensures)

pub escape_all-requires-clause-all : goal.escape_all-requires-clause-all
escape_all-requires-clause-all c =
    escapes_after c.args.problem.now.position.side c.args.position.now c.args.children.now c.deref.result.now c.requires.all
    (c.deref.ensures.value ∙ c.in_ok-notes.ensures) (some_if (length c.args.children.now) c.is_empty.result c.if-is_empty.false c.is_empty.ensures)
