-- A table may cross threads.
use denote.Param.Send.{sendable}
use Rattle.search_pool.proofs.Offered.{table_send}
use Rattle.survey.proofs.tallies.survey.Goals as goal

pub answers-requires-send-T : goal.answers-requires-send-T
answers-requires-send-T g c κs within = search (table_send, sendable) depth 20
