use Rattle.bit_boards.specs.declared.piece.Side.TheVariants.{Black, White}
use Rattle.board_core.specs.Sets.{is_of_side, is_king, is_pawn, is_slider}
use Rattle.board_core.proofs.Squares.{follows}
use Rattle.board_core.proofs.sets.Sets.with.Goals as goal

pub returns : goal.returns
returns c = λ at before.
    let i = c.args.square.number in
    let v = c.args.cell in
    record {
      black = follows (is_of_side Black) c.args.self.black _ at i v before.black (rw c.is_of_side.ensures at c.changed.ensures);
      white = follows (is_of_side White) c.args.self.white _ at i v before.white (rw c.is_of_side-2.ensures at c.changed-2.ensures);
      kings = follows is_king c.args.self.kings _ at i v before.kings (rw c.is_king.ensures at c.changed-3.ensures);
      pawns = follows is_pawn c.args.self.pawns _ at i v before.pawns (rw c.is_pawn.ensures at c.changed-4.ensures);
      sliders = follows is_slider c.args.self.sliders _ at i v before.sliders (rw c.is_slider.ensures at c.changed-5.ensures);
    }
