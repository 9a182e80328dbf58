use Rattle.bit_boards.proofs.Looked.{toward_is, toward_none}
use Rattle.bit_boards.proofs.rays.direction_to.Goals as goal

pub returns-clause-toward : goal.returns-clause-toward
returns-clause-toward c = toward_is c.args.from.number c.args.to.number c.args.from.on_board c.args.to.on_board

pub returns-clause-none : goal.returns-clause-none
returns-clause-none c = toward_none c.args.from.number c.args.to.number c.args.from.on_board c.args.to.on_board
