use Rattle.std.proofs.Common.{◌+◌, List, [], length, subst, ◌∙◌}
use Rattle.notes.specs.Derivation.{Derivation, highest}
use Rattle.notes.specs.declared.rule.Rule.{Rule}
use Rattle.notes.specs.declared.rule.Rule.TheVariants.{MateAll}
use Rattle.visit_log.specs.Children.{notes_in}
use Rattle.visit_frame.specs.Making.{IsNoteFor}
use Rattle.visit_frame.proofs.Places.{empty_if, some_if}
use Rattle.visit_frame.proofs.Refuted.{ends_in_mate, mates_after, defends, made_over, rule_mates}
use Rattle.visit_frame.proofs.making.mate_from_all.Goals as goal

pub mate_end-requires-clause-end : goal.mate_end-requires-clause-end
mate_end-requires-clause-end c =
    let side = c.args.problem.now.position.side in
    let b = c.args.position.now in
    ends_in_mate side b c.args.children.now c.requires.played (defends side b c.requires.all.turn) c.requires.all
    (empty_if (length c.args.children.now) c.is_empty.result c.if-is_empty.true c.is_empty.ensures)

pub mate_all-requires-clause-all : goal.mate_all-requires-clause-all
mate_all-requires-clause-all c =
    mates_after c.args.problem.now.position.side c.args.position.now c.args.children.now c.deref.result.now c.requires.all
    (c.deref.ensures.value ∙ c.in_ok-notes.ensures) (some_if (length c.args.children.now) c.is_empty.result c.if-is_empty.false c.is_empty.ensures)

pub returns-clause-made : goal.returns-clause-made
returns-clause-made c =
    let side = c.args.problem.now.position.side in
    let b = c.args.position.now in
    let xs = c.args.children.now in
    let note = c.in_ok-note-2.note in
    let under = c.deref.result.now in
    let some = some_if (length xs) c.is_empty.result c.if-is_empty.false c.is_empty.ensures in
    subst (λ (rule : Rule). IsNoteFor rule side b (notes_in xs) note) (rule_mates xs some)
    (subst (λ (l : List Derivation). IsNoteFor MateAll side b l note) (c.deref.ensures.value ∙ c.in_ok-notes.ensures)
    (made_over MateAll side b [] (highest under + 1) under note c.in_ok-note-2.ensures.note c.laws-2.ensures.valid))
