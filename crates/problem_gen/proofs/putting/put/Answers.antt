use Rattle.problem_gen.proofs.Attacking.{stands_under_way}
use Rattle.problem_gen.proofs.putting.put.Goals as goal

pub returns-in-Some-clause-under_way : goal.returns-in-Some-clause-under_way
returns-in-Some-clause-under_way c =
    stands_under_way c.args.position.now c.put.new.self c.args.king.number c.args.piece.now c.requires.under_way c.in-Some.ensures.some.1
    c.requires.no_king
    (rw (c.plain.ensures, c.in-Some.ensures.some.0) at c.put.ensures.position)
    (rw (c.plain.ensures, c.in-Some.ensures.some.0) at c.put.ensures.changes)
