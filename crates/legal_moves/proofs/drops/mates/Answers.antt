use Rattle.std.proofs.Common.{arith}
use Rattle.std.proofs.lemmas.Bool.{both_ways}
use Rattle.board_laws.proofs.Cells.{full_there}
use Rattle.board_core.specs.Board.{piece_at}
use Rattle.legal_moves.proofs.drops.mates.Goals as goal

pub drop_piece-next-requires-clause-empty : goal.drop_piece-next-requires-clause-empty
drop_piece-next-requires-clause-empty c = full_there (piece_at c.args.position.now.cells c.args.to.number) c.requires.empty

pub drop_piece-next-requires-clause-in_hand : goal.drop_piece-next-requires-clause-in_hand
drop_piece-next-requires-clause-in_hand c = λ none. let some = c.requires.in_hand in omega (arith, none, some)

pub drop_piece-next-requires-clause-alive : goal.drop_piece-next-requires-clause-alive
drop_piece-next-requires-clause-alive c = λ dead. both_ways _ c.requires.alive dead

pub drop_piece-next-requires-clause-pawn : goal.drop_piece-next-requires-clause-pawn
drop_piece-next-requires-clause-pawn c = c.requires.pawn
