use Rattle.std.proofs.Common.{sym, subst}
use Rattle.bit_boards.specs.declared.piece.Side.{Side}
use Rattle.notes.specs.Valid.{IsInPlay}
use Rattle.notes.proofs.Carrying.{carried_play}
use Rattle.notes.proofs.carried.carry.Goals as goal

pub made-requires-clause-play : goal.made-requires-clause-play
made-requires-clause-play c =
    subst (λ (side : Side). IsInPlay side c.args.position.now) (sym c.attacker.ensures)
    (carried_play c.args.problem.now.position.side c.args.position.now c.args.note.now c.laws.ensures.valid c.requires)
