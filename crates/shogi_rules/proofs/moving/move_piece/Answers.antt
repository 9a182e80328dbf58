use Rattle.std.proofs.Common.{◌≡◌, ◌+◌, ◌∙◌, Some, IsTrue, sym, refl}
use Rattle.board_core.specs.Board.{piece_at, is_of_kind, is_king_of, count_of, kings_of, one_if}
use Rattle.bit_boards.specs.Movement.{fits}
use Rattle.shogi_rules.proofs.Moves.{king_gone, pawn_alone, goes_elsewhere, no_king_taken, taken_left, moved_is, conserves, no_king_there, kings_stay}
use Rattle.shogi_rules.proofs.moving.move_piece.Goals as goal

pub put-requires-clause-king : goal.put-requires-clause-king
put-requires-clause-king c =
    let there : piece_at c.args.position.now.cells c.args.from.number ≡ Some c.in-Some.piece = cc in
    rw c.landed_piece.ensures (λ kind. king_gone c.args.position.now c.take.new.self c.take-in-Some.new.self c.args.from.number c.args.to.number c.in-Some.piece
    kind (c.laws.ensures.kings c.in-Some.piece.side) there c.take.ensures.changes c.take-in-Some.ensures.changes)

pub put-requires-clause-pawn : goal.put-requires-clause-pawn
put-requires-clause-pawn c =
    let there : piece_at c.args.position.now.cells c.args.from.number ≡ Some c.in-Some.piece = cc in
    let fit : IsTrue (fits c.in-Some.piece c.args.from.number c.args.to.number) = rw there at c.requires.fits in
    rw c.landed_piece.ensures (λ pawn. pawn_alone c.args.position.now c.take.new.self c.take-in-Some.new.self c.args.from.number c.args.to.number c.args.promote c.in-Some.piece
    c.laws.ensures c.args.from.on_board there fit c.take.ensures.changes c.take-in-Some.ensures.changes pawn)

pub capture-requires : goal.capture-requires
capture-requires c = λ taken is.
    let there : piece_at c.args.position.now.cells c.args.from.number ≡ Some c.in-Some.piece = cc in
    let at : piece_at c.args.position.now.cells c.args.to.number ≡ Some taken = sym c.piece_at-in-Some.ensures ∙ is in
    let fit : IsTrue (fits c.in-Some.piece c.args.from.number c.args.to.number) = rw there at c.requires.fits in
    let owner : c.in-Some.piece.side ≡ c.args.position.now.side = rw there at c.requires.own in
    let king = no_king_taken c.args.position.now c.args.from.number c.args.to.number c.in-Some.piece taken
    c.requires.quiet c.args.from.on_board c.args.to.on_board there owner c.requires.free fit c.requires.clear at in (
      king,
      taken_left c.args.position.now c.take.new.self c.take-in-Some.new.self c.put.new.self c.args.from.number c.args.to.number c.args.promote c.in-Some.piece taken
          c.laws.ensures (goes_elsewhere c.args.position.now c.args.from.number c.args.to.number c.requires.own c.requires.free) king there at
          c.take.ensures.changes c.take-in-Some.ensures.changes (rw c.landed_piece.ensures at c.put.ensures.changes),
    )

pub returns-clause-moves : goal.returns-clause-moves
returns-clause-moves c = goes_elsewhere c.args.position.now c.args.from.number c.args.to.number c.requires.own c.requires.free

pub returns-clause-position : goal.returns-clause-position
returns-clause-position c =
    let there : piece_at c.args.position.now.cells c.args.from.number ≡ Some c.in-Some.piece = cc in
    rw (c.pass.ensures, c.capture.ensures.position, c.put.ensures.position, c.take-in-Some.ensures.position, c.take.ensures.position, c.landed_piece.ensures, c.side-side.ensures, c.piece_at-in-Some.ensures)
    (moved_is c.args.position.now c.args.from.number c.args.to.number c.args.promote c.in-Some.piece there)

pub returns-clause-conserved : goal.returns-clause-conserved
returns-clause-conserved c = λ kind.
    let there : piece_at c.args.position.now.cells c.args.from.number ≡ Some c.in-Some.piece = cc in
    let caught : count_of c.capture.new.position kind ≡ count_of c.put.new.self kind + one_if (is_of_kind kind (piece_at c.args.position.now.cells c.args.to.number)) =
    rw c.piece_at-in-Some.ensures at (c.capture.ensures.counts kind) in
    let last : count_of c.pass.new.self kind ≡ count_of c.put.new.self kind + one_if (is_of_kind kind (piece_at c.args.position.now.cells c.args.to.number)) =
    rw c.pass.ensures caught in
    conserves c.args.position.now c.take.new.self c.take-in-Some.new.self c.put.new.self c.pass.new.self c.args.from.number c.args.to.number c.args.promote c.in-Some.piece kind
    (goes_elsewhere c.args.position.now c.args.from.number c.args.to.number c.requires.own c.requires.free) there
    c.take.ensures.changes c.take-in-Some.ensures.changes (rw c.landed_piece.ensures at c.put.ensures.changes) last

pub returns-clause-kings : goal.returns-clause-kings
returns-clause-kings c = λ side.
    let there : piece_at c.args.position.now.cells c.args.from.number ≡ Some c.in-Some.piece = cc in
    let fit : IsTrue (fits c.in-Some.piece c.args.from.number c.args.to.number) = rw there at c.requires.fits in
    let owner : c.in-Some.piece.side ≡ c.args.position.now.side = rw there at c.requires.own in
    let free : one_if (is_king_of side (piece_at c.args.position.now.cells c.args.to.number)) ≡ 0 =
    no_king_there side (piece_at c.args.position.now.cells c.args.to.number) (λ taken is.
    no_king_taken c.args.position.now c.args.from.number c.args.to.number c.in-Some.piece taken
    c.requires.quiet c.args.from.on_board c.args.to.on_board there owner c.requires.free fit c.requires.clear is) in
    let last : kings_of c.pass.new.self side ≡ kings_of c.put.new.self side = rw (c.pass.ensures, c.capture.ensures.position) refl in
    kings_stay c.args.position.now c.take.new.self c.take-in-Some.new.self c.put.new.self c.pass.new.self c.args.from.number c.args.to.number c.args.promote c.in-Some.piece side
    (goes_elsewhere c.args.position.now c.args.from.number c.args.to.number c.requires.own c.requires.free) there free
    c.take.ensures.changes c.take-in-Some.ensures.changes (rw c.landed_piece.ensures at c.put.ensures.changes) last
