-- What may cross threads: each type, from those that it is made of.
use denote.Param.Send.{IsSend, sendable}
use denote.Param.SendFields.{declared_send, variants_send}
use denote.Hole.{as_row}
use denote.Ref.{NamedLft}
use Rattle.std.proofs.Crossing.{crosses}
use Rattle.notes.proofs.note.Note.TheLaws.TheKnot as knot
use Rattle.cmd_collection.proofs.report.LineFault.TheSendSync as of_linefault
use Rattle.search_pool.proofs.Offered.{crew_send}
use Rattle.board_core.proofs.Kind.TheSendSync as of_kind
use Rattle.board_core.proofs.Side.TheSendSync as of_side
use Rattle.board_core.proofs.Square.TheSendSync as of_square
use Rattle.board_core.proofs.code.Code.TheSendSync as of_code
use Rattle.board_core.proofs.keys.Key.TheSendSync as of_key
use Rattle.board_core.proofs.moves.Move.TheSendSync as of_move
use Rattle.board_core.proofs.sets.Sets.TheSendSync as of_sets
use Rattle.notes.proofs.rule.Rule.TheSendSync as of_rule
use Rattle.pn_numbers.proofs.numbers.Numbers.TheSendSync as of_numbers
use Rattle.pn_numbers.proofs.selecting.Child.TheSendSync as of_child_pn
use Rattle.visit_log.proofs.parts.Entry.TheSendSync as of_entry_visit
use Rattle.visit_log.proofs.parts.Look.TheSendSync as of_look
use Rattle.visit_log.proofs.words.WorkEnd.TheSendSync as of_workend
use Rattle.search_limits.proofs.cause.Cause.TheSendSync as of_cause
use Rattle.search_limits.proofs.settings.Settings.TheSendSync as of_settings
use Rattle.path_tags.proofs.tag.Tag.TheSendSync as of_tag
use Rattle.board_core.proofs.hand.Hand.TheSendSync as of_hand
use Rattle.board_core.proofs.position.Position.TheSendSync as of_position
use Rattle.shogi_rules.proofs.problem.Problem.TheSendSync as of_problem
use Rattle.path_tags.proofs.path.Path.TheSendSync as of_path
use Rattle.app_texts.specs.contracts.answer.Solution as solution
use Rattle.cmd_collection.specs.contracts.report.Report as report
use Rattle.cmd_collection.specs.contracts.report.LineFault as line_fault
use Rattle.problem_lines.proofs.line.Line.TheSendSync as of_line
use Rattle.problem_lines.specs.contracts.line.Line as line
use Rattle.cmd_collection.specs.contracts.reports.Reported as reported

pub ruleset parts = (of_linefault.the_send, of_linefault.the_field_send, of_kind.the_send, of_kind.the_field_send, of_side.the_send, of_side.the_field_send, of_square.the_send, of_square.the_field_send, of_code.the_send, of_code.the_field_send, of_key.the_send, of_key.the_field_send, of_move.the_send, of_move.the_field_send, of_sets.the_send, of_sets.the_field_send, of_rule.the_send, of_rule.the_field_send, of_numbers.the_send, of_numbers.the_field_send, of_child_pn.the_send, of_child_pn.the_field_send, of_entry_visit.the_send, of_entry_visit.the_field_send, of_look.the_send, of_look.the_field_send, of_workend.the_send, of_workend.the_field_send, of_cause.the_send, of_cause.the_field_send, of_settings.the_send, of_settings.the_field_send, of_tag.the_send, of_hand.the_send, of_position.the_send, of_problem.the_send, of_path.the_send, crosses, knot.crosses, sendable)

pub solution_send : IsSend solution.the_row
solution_send = search (crew_send, parts) depth 60 fits 20000

pub solution_field_send : IsSend (as_row solution.the_field)
solution_field_send = search (solution_send, parts) depth 60 fits 20000

pub line_fault_send : IsSend line_fault.the_row
line_fault_send = search (of_linefault.the_send, parts) depth 60 fits 20000

pub line_fault_field_send : IsSend (as_row line_fault.the_field)
line_fault_field_send = search (line_fault_send, parts) depth 60 fits 20000

pub report_send : IsSend report.the_row
report_send = search (variants_send, solution_field_send, line_fault_field_send, tt) depth 40

pub report_field_send : IsSend (as_row report.the_field)
report_field_send = search (report_send, parts) depth 60 fits 20000

pub line_field_send : (κ : NamedLft) → IsSend (as_row (line.the_field κ))
line_field_send κ = search (of_line.the_send, parts) depth 60 fits 20000

pub reported_send : (κ : NamedLft) → IsSend (reported.the_row κ)
reported_send κ = search (declared_send, report_field_send, line_field_send κ, sendable) depth 20 fits 20000
