use Rattle.check_moves.proofs.Meaning.{stands_quiet, drop_checks_are}
use Rattle.check_moves.proofs.aim.Aim.drop_checks.Goals as goal

pub returns : goal.returns
returns c = λ to.
    let b = c.args.position.now in
    let king = c.args.self.now.sight.square in
    let q = stands_quiet b king.number c.laws.ensures c.requires.quiet king.on_board c.requires.aim.king c.requires.aim.only in
    drop_checks_are c.legal_laws.ensures.drops b king.number q c.args.kind to c.drops.result c.reached_from-aims.result (c.drops.ensures to.number)
    (rw (c.plain.ensures, c.side-2.ensures) at (c.reached_from-aims.ensures b.cells c.requires.aim.sight to.number))
