use Rattle.attack_lines.proofs.sight.Sight.of.Goals as goal

pub returns-clause-sight : goal.returns-clause-sight
returns-clause-sight c =
    let cells = c.args.position.now.cells in
    record { straight = c.straight.ensures cells c.all_occupied.ensures; diagonal = c.diagonal.ensures cells c.all_occupied-2.ensures }
