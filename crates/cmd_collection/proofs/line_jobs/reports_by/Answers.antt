-- A table may cross threads, and so may what is told of a line.
use denote.Param.Send.{sendable}
use Rattle.search_pool.proofs.Offered.{table_send}
use Rattle.cmd_collection.proofs.Sent.{reported_send}
use Rattle.cmd_collection.proofs.line_jobs.reports_by.Goals as goal

pub first_answers-requires-send-T : goal.first_answers-requires-send-T
first_answers-requires-send-T g c κs within = search (table_send, sendable) depth 20

pub first_answers-requires-send-A : goal.first_answers-requires-send-A
first_answers-requires-send-A g c κs within = search (reported_send, sendable) depth 20
