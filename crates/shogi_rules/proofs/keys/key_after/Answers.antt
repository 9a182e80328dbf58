use Rattle.shogi_rules.specs.declared.illegal.Illegal.TheVariants.{NotThere, OwnPiece, Occupied, NotInHand}
use Rattle.shogi_rules.proofs.Decided.{own_decided}
use Rattle.shogi_rules.proofs.KeptAfter.{kept_after}
use Rattle.shogi_rules.proofs.Turns.{legal_board_of, legal_drop_of}
use Rattle.shogi_rules.proofs.keys.key_after.Goals as goal

pub key_after_board-requires-clause-own : goal.key_after_board-requires-clause-own
key_after_board-requires-clause-own c = own_decided c.args.position.now c.in-Board.from.number (legal_board_of c.args.position.now c.args.by c.in-Board.from c.in-Board.to c.in-Board.promote c.in-Board.is c.requires.legal NotThere)

pub key_after_board-requires-clause-free : goal.key_after_board-requires-clause-free
key_after_board-requires-clause-free c = legal_board_of c.args.position.now c.args.by c.in-Board.from c.in-Board.to c.in-Board.promote c.in-Board.is c.requires.legal OwnPiece

pub key_after_drop-requires-clause-empty : goal.key_after_drop-requires-clause-empty
key_after_drop-requires-clause-empty c = legal_drop_of c.args.position.now c.args.by c.in-Drop.kind c.in-Drop.to c.in-Drop.is c.requires.legal Occupied

pub key_after_drop-requires-clause-in_hand : goal.key_after_drop-requires-clause-in_hand
key_after_drop-requires-clause-in_hand c = legal_drop_of c.args.position.now c.args.by c.in-Drop.kind c.in-Drop.to c.in-Drop.is c.requires.legal NotInHand

pub returns-in-Board-clause-kept : goal.returns-in-Board-clause-kept
returns-in-Board-clause-kept c = kept_after c.args.position.now c.args.by c.laws.ensures c.requires.legal

pub returns-in-Drop-clause-kept : goal.returns-in-Drop-clause-kept
returns-in-Drop-clause-kept c = kept_after c.args.position.now c.args.by c.laws.ensures c.requires.legal
