use Rattle.std.proofs.Common.{Some, arith, sym, subst}
use Rattle.board_core.specs.Board.{Board}
use Rattle.board_core.proofs.Packed.{as_many_cells}
use Rattle.board_core.proofs.Changed.{board_in, kept_written, sets_written, position_written, changes_written}
use Rattle.board_core.proofs.Keeps.{MayStand, put_kept}
use Rattle.board_core.proofs.position.Position.put.Goals as goal

pub invariant_of-self : goal.invariant_of-self
invariant_of-self c =
    let before = board_in c.self.inside.codes c.self.inside.black c.self.inside.white c.self.inside.side in (
      kept_written c.self.inside.codes c.self.inside.black c.self.inside.white c.self.inside.side c.args.square.number c.of.result (Some c.args.piece) c.of.ensures
          (put_kept before c.args.square.number c.args.piece c.self.invariant.0
          (subst (λ (b : Board). MayStand b c.args.square.number c.args.piece) (sym c.self.view_is) (record {
            within = c.args.square.on_board;
            empty = c.requires.empty;
            left_over = c.requires.left_over;
            king = c.requires.king;
            alive = c.requires.alive;
            pawn = c.requires.pawn;
          }))),
      sets_written c.self.inside.codes c.args.square.number c.of.result (Some c.args.piece) c.self.inside.sets _ c.of.ensures
          (omega (arith, c.self.invariant.0.cells, as_many_cells c.self.inside.codes, c.args.square.on_board)) c.self.invariant.1 c.with-self-inside.ensures,
    )

pub returns-clause-position : goal.returns-clause-position
returns-clause-position c = position_written c.self.inside.codes c.self.inside.black c.self.inside.white c.self.inside.side c.args.square.number c.of.result
    (Some c.args.piece) c.args.self.now c.of.ensures c.self.view_is

pub returns-clause-changes : goal.returns-clause-changes
returns-clause-changes c = changes_written c.self.inside.codes c.self.inside.black c.self.inside.white c.self.inside.side c.args.square.number c.of.result
    (Some c.args.piece) c.args.self.now c.of.ensures
    (omega (arith, c.self.invariant.0.cells, as_many_cells c.self.inside.codes, c.args.square.on_board)) c.self.view_is
