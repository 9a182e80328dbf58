-- Notes may cross threads: each type from those that it is made of.
use denote.Param.Send.{IsSend, sendable}
use Rattle.std.proofs.Crossing.{crosses}
use Rattle.notes.proofs.note.Note.TheLaws.TheKnot as knot
use Rattle.board_core.proofs.Kind.TheSendSync as of_kind
use Rattle.board_core.proofs.Side.TheSendSync as of_side
use Rattle.board_core.proofs.Square.TheSendSync as of_square
use Rattle.board_core.proofs.code.Code.TheSendSync as of_code
use Rattle.board_core.proofs.keys.Key.TheSendSync as of_key
use Rattle.board_core.proofs.moves.Move.TheSendSync as of_move
use Rattle.board_core.proofs.sets.Sets.TheSendSync as of_sets
use Rattle.board_core.proofs.hand.Hand.TheSendSync as of_hand
use Rattle.board_core.proofs.position.Position.TheSendSync as of_position
use Rattle.mate_facts.proofs.rank.Rank.TheSendSync as of_rank
use Rattle.mate_facts.proofs.entry.MateEntry.TheSendSync as of_entry
use Rattle.hand_dominance.proofs.version.Version.TheSendSync as of_version
use Rattle.notes.proofs.rule.Rule.TheSendSync as of_rule
use Rattle.notes.proofs.set.Set.TheSendSync as of_set
use Rattle.path_tags.proofs.tag.Tag.TheSendSync as of_tag
use Rattle.notes.specs.contracts.note.Note as note

ruleset parts = (of_kind.the_send, of_kind.the_field_send, of_side.the_send, of_side.the_field_send, of_square.the_send, of_square.the_field_send, of_code.the_send, of_code.the_field_send, of_key.the_send, of_key.the_field_send, of_move.the_send, of_move.the_field_send, of_sets.the_send, of_sets.the_field_send, of_hand.the_send, of_position.the_send, of_rank.the_send, of_rank.the_field_send, of_entry.the_send, of_entry.the_field_send, of_version.the_send, of_version.the_field_send, of_rule.the_send, of_rule.the_field_send, of_set.the_send, of_set.the_field_send, of_tag.the_send, crosses, knot.crosses, sendable)

pub note_send : IsSend note.the_row
note_send = search (parts) depth 60 fits 20000
