use Rattle.attack_lines.proofs.reach.reached.Goals as goal

pub returns : goal.returns
returns c = c.reached_over.ensures c.args.position.now.cells c.all_occupied.ensures
