-- What a search ends with may cross threads, and its table.
use denote.Param.Send.{IsSend, sendable}
use Rattle.std.proofs.Crossing.{crosses}
use Rattle.notes.proofs.note.Note.TheLaws.TheKnot as knot
use Rattle.board_core.proofs.Kind.TheSendSync as of_kind
use Rattle.board_core.proofs.Side.TheSendSync as of_side
use Rattle.board_core.proofs.Square.TheSendSync as of_square
use Rattle.board_core.proofs.code.Code.TheSendSync as of_code
use Rattle.board_core.proofs.keys.Key.TheSendSync as of_key
use Rattle.board_core.proofs.moves.Move.TheSendSync as of_move
use Rattle.board_core.proofs.sets.Sets.TheSendSync as of_sets
use Rattle.board_core.proofs.hand.Hand.TheSendSync as of_hand
use Rattle.board_core.proofs.position.Position.TheSendSync as of_position
use Rattle.worker_core.specs.contracts.crew.Crew as crew
use Rattle.search_pool.specs.contracts.table.Table as table
use Rattle.worker_core.proofs.Offered.{worker_send}
use Rattle.lone_port.proofs.Offered.{lone_send}

ruleset parts = (of_kind.the_send, of_kind.the_field_send, of_side.the_send, of_side.the_field_send, of_square.the_send, of_square.the_field_send, of_code.the_send, of_code.the_field_send, of_key.the_send, of_key.the_field_send, of_move.the_send, of_move.the_field_send, of_sets.the_send, of_sets.the_field_send, of_hand.the_send, of_position.the_send, crosses, knot.crosses, sendable)

pub crew_send : IsSend crew.the_row
crew_send = search (worker_send, parts) depth 60 fits 20000

pub table_send : IsSend table.the_row
table_send = search (lone_send, parts) depth 60 fits 20000
