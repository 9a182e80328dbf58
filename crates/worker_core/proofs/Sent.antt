-- Workers may cross threads.
use denote.Param.Send.{IsSend, sendable}
use Rattle.std.proofs.Crossing.{crosses}
use Rattle.notes.proofs.note.Note.TheLaws.TheKnot as knot
use Rattle.board_core.proofs.Kind.TheSendSync as of_kind
use Rattle.board_core.proofs.Side.TheSendSync as of_side
use Rattle.board_core.proofs.Square.TheSendSync as of_square
use Rattle.board_core.proofs.code.Code.TheSendSync as of_code
use Rattle.board_core.proofs.keys.Key.TheSendSync as of_key
use Rattle.board_core.proofs.moves.Move.TheSendSync as of_move
use Rattle.board_core.proofs.sets.Sets.TheSendSync as of_sets
use Rattle.board_core.proofs.hand.Hand.TheSendSync as of_hand
use Rattle.board_core.proofs.position.Position.TheSendSync as of_position
use Rattle.pn_numbers.proofs.numbers.Numbers.TheSendSync as of_numbers
use Rattle.pn_numbers.proofs.selecting.Child.TheSendSync as of_child_pn
use Rattle.visit_log.proofs.parts.Entry.TheSendSync as of_entry_visit
use Rattle.visit_log.proofs.parts.Look.TheSendSync as of_look
use Rattle.visit_log.proofs.words.WorkEnd.TheSendSync as of_workend
use Rattle.path_tags.proofs.tag.Tag.TheSendSync as of_tag
use Rattle.shogi_rules.proofs.problem.Problem.TheSendSync as of_problem
use Rattle.path_tags.proofs.path.Path.TheSendSync as of_path
use Rattle.worker_core.specs.contracts.stack.Stack as stack
use Rattle.worker_core.specs.contracts.machine.Core as core
use Rattle.worker_core.specs.contracts.worker.Worker as worker
use Rattle.notes.proofs.Offered.{note_send}
use Rattle.visit_frame.proofs.Offered.{frame_send, starts_send}

ruleset parts = (of_kind.the_send, of_kind.the_field_send, of_side.the_send, of_side.the_field_send, of_square.the_send, of_square.the_field_send, of_code.the_send, of_code.the_field_send, of_key.the_send, of_key.the_field_send, of_move.the_send, of_move.the_field_send, of_sets.the_send, of_sets.the_field_send, of_hand.the_send, of_position.the_send, of_numbers.the_send, of_numbers.the_field_send, of_child_pn.the_send, of_child_pn.the_field_send, of_entry_visit.the_send, of_entry_visit.the_field_send, of_look.the_send, of_look.the_field_send, of_workend.the_send, of_workend.the_field_send, of_tag.the_send, of_problem.the_send, of_path.the_send, crosses, knot.crosses, sendable)

pub stack_send : IsSend stack.the_row
stack_send = search (frame_send, starts_send, parts) depth 60 fits 20000

pub core_send : IsSend core.the_row
core_send = search (stack_send, note_send, parts) depth 60 fits 20000

pub worker_send : IsSend worker.the_row
worker_send = search (core_send, note_send, parts) depth 60 fits 20000
