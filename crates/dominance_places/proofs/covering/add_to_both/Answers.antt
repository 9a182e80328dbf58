use Rattle.dominance_places.proofs.Both.{both_added, kept_up, none_kept}
use Rattle.dominance_places.proofs.covering.add_to_both.Goals as goal
use Rattle.dominance_places.proofs.covering.add_to_both.Goals.{in-Some+in_ok-add, in_default}

pub returns-else-is_err-clause-added : goal.returns-else-is_err-clause-added
returns-else-is_err-clause-added c =
    both_added c.add-added.result c.args.position.now c.args.boards.now c.add-added.new.self c.args.by_key.now c.match-by_key.by_key c.add-added.ensures.added
    (elim c.match-by_key.branch [
      | in-Some+in_ok-add w ↦ kept_up c.args.position.now c.args.by_key.now c.match-by_key.by_key w.in-Some.places w.add.new.self w.in-Some.is w.by_key-is w.in_ok-add.ensures.added
      | in_default w ↦ none_kept c.args.position.now c.args.by_key.now c.match-by_key.by_key w.in_default.is w.by_key-is
    ])
