use Rattle.std.proofs.Common.{◌≡◌, ◌∙◌, sym, subst}
use Rattle.bit_boards.specs.declared.square.Square.{Square}
use Rattle.board_core.specs.declared.moves.Move.TheVariants.{Drop}
use Rattle.shogi_rules.specs.Rules.{IsDropped}
use Rattle.shogi_rules.specs.declared.illegal.Illegal.TheVariants.{NotThere, OwnPiece, NoStep, Blocked, BadPromotion, Occupied, NotInHand, DeadDrop, TwoPawns, KingLeft}
use Rattle.shogi_rules.proofs.Decided.{own_decided, fits_decided, clear_decided, promotion_decided}
use Rattle.shogi_rules.proofs.Turns.{legal_board_of, legal_drop_of, quiet_board, quiet_drop}
use Rattle.shogi_rules.proofs.moving.apply.Goals as goal

pub move_piece-requires-clause-own : goal.move_piece-requires-clause-own
move_piece-requires-clause-own c = own_decided c.args.position.now c.in-Board.from.number (legal_board_of c.args.position.now c.args.by c.in-Board.from c.in-Board.to c.in-Board.promote c.in-Board.is c.requires.legal NotThere)

pub move_piece-requires-clause-free : goal.move_piece-requires-clause-free
move_piece-requires-clause-free c = legal_board_of c.args.position.now c.args.by c.in-Board.from c.in-Board.to c.in-Board.promote c.in-Board.is c.requires.legal OwnPiece

pub move_piece-requires-clause-fits : goal.move_piece-requires-clause-fits
move_piece-requires-clause-fits c = fits_decided c.args.position.now c.in-Board.from.number c.in-Board.to.number (legal_board_of c.args.position.now c.args.by c.in-Board.from c.in-Board.to c.in-Board.promote c.in-Board.is c.requires.legal NoStep)

pub move_piece-requires-clause-clear : goal.move_piece-requires-clause-clear
move_piece-requires-clause-clear c = clear_decided c.args.position.now.cells c.in-Board.from.number c.in-Board.to.number (legal_board_of c.args.position.now c.args.by c.in-Board.from c.in-Board.to c.in-Board.promote c.in-Board.is c.requires.legal Blocked)

pub move_piece-requires-clause-promotion : goal.move_piece-requires-clause-promotion
move_piece-requires-clause-promotion c = promotion_decided c.args.position.now c.in-Board.from.number c.in-Board.to.number c.in-Board.promote (legal_board_of c.args.position.now c.args.by c.in-Board.from c.in-Board.to c.in-Board.promote c.in-Board.is c.requires.legal BadPromotion)

pub drop_piece-requires-clause-empty : goal.drop_piece-requires-clause-empty
drop_piece-requires-clause-empty c = legal_drop_of c.args.position.now c.args.by c.in-Drop.kind c.in-Drop.to c.in-Drop.is c.requires.legal Occupied

pub drop_piece-requires-clause-in_hand : goal.drop_piece-requires-clause-in_hand
drop_piece-requires-clause-in_hand c = legal_drop_of c.args.position.now c.args.by c.in-Drop.kind c.in-Drop.to c.in-Drop.is c.requires.legal NotInHand

pub drop_piece-requires-clause-alive : goal.drop_piece-requires-clause-alive
drop_piece-requires-clause-alive c = legal_drop_of c.args.position.now c.args.by c.in-Drop.kind c.in-Drop.to c.in-Drop.is c.requires.legal DeadDrop

pub drop_piece-requires-clause-pawn : goal.drop_piece-requires-clause-pawn
drop_piece-requires-clause-pawn c = legal_drop_of c.args.position.now c.args.by c.in-Drop.kind c.in-Drop.to c.in-Drop.is c.requires.legal TwoPawns

pub returns-in-Board-clause-quiet : goal.returns-in-Board-clause-quiet
returns-in-Board-clause-quiet c =
    rw c.move_piece.ensures.position (quiet_board c.args.position.now c.in-Board.from.number c.in-Board.to.number c.in-Board.promote (legal_board_of c.args.position.now c.args.by c.in-Board.from c.in-Board.to c.in-Board.promote c.in-Board.is c.requires.legal KingLeft))

pub returns-in-Drop-clause-quiet : goal.returns-in-Drop-clause-quiet
returns-in-Drop-clause-quiet c =
    rw c.drop_piece.ensures.position (quiet_drop c.args.position.now c.in-Drop.kind c.in-Drop.to.number (legal_drop_of c.args.position.now c.args.by c.in-Drop.kind c.in-Drop.to c.in-Drop.is c.requires.legal KingLeft))

pub returns-in-Drop-clause-drop : goal.returns-in-Drop-clause-drop
returns-in-Drop-clause-drop c = λ kind to is.
    let same : Drop c.in-Drop.kind c.in-Drop.to ≡ Drop kind to = sym c.in-Drop.is ∙ is in
    let k : c.in-Drop.kind ≡ kind = cc in
    let t : c.in-Drop.to ≡ to = cc in
    let first : IsDropped c.args.position.now c.drop_piece.result kind c.in-Drop.to.number = rw k at c.drop_piece.ensures.changes in
    subst (λ (s : Square). IsDropped c.args.position.now c.drop_piece.result kind s.number) t first
