use Rattle.std.proofs.Common.{◌≡◌, None, refl}
use Rattle.board_core.specs.Board.{piece_at, kings_of}
use Rattle.bit_boards.specs.Piece.{plain_piece}
use Rattle.shogi_rules.proofs.Moves.{empty_there, kings_dropped}
use Rattle.shogi_rules.proofs.moving.drop_piece.Goals as goal

pub returns-clause-kings : goal.returns-clause-kings
returns-clause-kings c = λ owner.
    let empty : piece_at c.spend.new.self.cells c.args.to.number ≡ None =
    rw c.spend.ensures.position (empty_there (piece_at c.args.position.now.cells c.args.to.number) c.requires.empty) in
    let last : kings_of c.pass.new.self owner ≡ kings_of c.put.new.self owner = rw c.pass.ensures refl in
    let first : kings_of c.spend.new.self owner ≡ kings_of c.args.position.now owner = rw c.spend.ensures.position refl in
    rw (
      last,
      kings_dropped c.spend.new.self c.put.new.self c.args.to.number (plain_piece c.args.kind c.args.position.now.side) owner c.spend.ensures.king empty
          (rw (c.plain.ensures, c.side-side.ensures) at c.put.ensures.changes),
      first,
    ) refl
