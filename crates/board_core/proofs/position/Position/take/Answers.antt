use Rattle.std.proofs.Common.{None, arith}
use Rattle.board_core.proofs.Packed.{as_many_cells}
use Rattle.board_core.proofs.Changed.{board_in, kept_written, sets_written, position_written, changes_written}
use Rattle.board_core.proofs.Keeps.{take_kept}
use Rattle.board_core.proofs.position.Position.take.Goals as goal

pub invariant_of-self : goal.invariant_of-self
invariant_of-self c =
    let before = board_in c.self.inside.codes c.self.inside.black c.self.inside.white c.self.inside.side in (
      kept_written c.self.inside.codes c.self.inside.black c.self.inside.white c.self.inside.side c.args.square.number c.of.result None c.of.ensures
          (take_kept before c.args.square.number c.self.invariant.0 c.args.square.on_board),
      sets_written c.self.inside.codes c.args.square.number c.of.result None c.self.inside.sets _ c.of.ensures
          (omega (arith, c.self.invariant.0.cells, as_many_cells c.self.inside.codes, c.args.square.on_board)) c.self.invariant.1 c.with-self-inside.ensures,
    )

pub returns-clause-position : goal.returns-clause-position
returns-clause-position c = position_written c.self.inside.codes c.self.inside.black c.self.inside.white c.self.inside.side c.args.square.number c.of.result
    None c.args.self.now c.of.ensures c.self.view_is

pub returns-clause-changes : goal.returns-clause-changes
returns-clause-changes c = changes_written c.self.inside.codes c.self.inside.black c.self.inside.white c.self.inside.side c.args.square.number c.of.result
    None c.args.self.now c.of.ensures
    (omega (arith, c.self.invariant.0.cells, as_many_cells c.self.inside.codes, c.args.square.on_board)) c.self.view_is
