-- A worker with its port may cross threads.
use denote.Param.Send.{IsSend, IsSync, view_send, sendable}
use denote.Param.SendFields.{declared_send}
use denote.RattleType.{RattleType}
use denote.Ref.{NamedLft}
use Rattle.std.proofs.Crossing.{crosses}
use Rattle.notes.proofs.note.Note.TheLaws.TheKnot as knot
use Rattle.board_core.proofs.Kind.TheSendSync as of_kind
use Rattle.board_core.proofs.Side.TheSendSync as of_side
use Rattle.board_core.proofs.Square.TheSendSync as of_square
use Rattle.board_core.proofs.code.Code.TheSendSync as of_code
use Rattle.board_core.proofs.keys.Key.TheSendSync as of_key
use Rattle.board_core.proofs.moves.Move.TheSendSync as of_move
use Rattle.board_core.proofs.sets.Sets.TheSendSync as of_sets
use Rattle.board_core.proofs.hand.Hand.TheSendSync as of_hand
use Rattle.board_core.proofs.position.Position.TheSendSync as of_position
use Rattle.notes.proofs.Offered.{note_send}
use Rattle.worker_core.proofs.Offered.{worker_send}
use Rattle.atomic_table.proofs.shared.Seat.TheSendSync as of_seat
use Rattle.atomic_table.proofs.shared.Shared.TheSendSync as of_shared
use Rattle.atomic_table.proofs.send_lease.SendLease.TheSendSync as of_lease
use Rattle.worker_counts.specs.contracts.seat.CountSeat as count_seat
use Rattle.worker_counts.specs.contracts.counts.WorkerCounts as counts
use Rattle.word_desk.specs.contracts.desk.WordDesk as desk
use Rattle.word_desk.specs.contracts.seat.DeskSeat as desk_seat
use Rattle.shared_table.specs.contracts.seat.RowSeat as row_seat
use Rattle.table_port.specs.contracts.parts.Seats as seats
use Rattle.table_port.specs.contracts.port.TablePort as port
use Rattle.table_port.proofs.parts.Cut.TheSendSync as of_cut
use Rattle.table_port.proofs.parts.Watch.TheSendSync as of_watch
use Rattle.shared_table.specs.declared.job.Job as job
use Rattle.shared_table.specs.declared.rows.Rows as rows
use Rattle.search_gate.specs.declared.stop.Stop as stop
use Rattle.shared_table.specs.contracts.rows.LockedRows as locked
use Rattle.shared_table.specs.contracts.shard.JobShard as job_shard
use Rattle.shared_table.specs.contracts.shard.JobShard.TheInside as shard_inside
use Rattle.crossbeam_utils.proofs.cache_padded.CachePadded.TheSendSync as of_padded
use Rattle.crossbeam_utils.specs.contracts.cache_padded.CachePadded as padded
use Rattle.core.specs.contracts.sync.Mutex as mutex
use Rattle.table_shard.proofs.Offered.{shard_send}
use Rattle.search_crew.specs.contracts.lane.Lane as lane
use Rattle.search_crew.specs.contracts.lane.Lane.TheInside as inside

ruleset parts = (of_kind.the_send, of_kind.the_field_send, of_side.the_send, of_side.the_field_send, of_square.the_send, of_square.the_field_send, of_code.the_send, of_code.the_field_send, of_key.the_send, of_key.the_field_send, of_move.the_send, of_move.the_field_send, of_sets.the_send, of_sets.the_field_send, of_hand.the_send, of_position.the_send, crosses, knot.crosses, sendable)

pub count_seat_send : IsSend count_seat.the_row
count_seat_send = search (of_seat.the_send, crosses, sendable) depth 60 fits 20000

pub counts_sync : IsSync counts.the_row
counts_sync = search (of_shared.the_sync, of_lease.the_sync, crosses, sendable) depth 60 fits 20000

pub desk_sync : IsSync desk.the_row
desk_sync = search (of_shared.the_sync, of_lease.the_sync, parts) depth 60 fits 20000

pub desk_seat_send : IsSend desk_seat.the_row
desk_seat_send = search (of_seat.the_send, note_send, parts) depth 60 fits 20000

pub row_seat_send : (κ : NamedLft) → IsSend (row_seat.the_row κ)
row_seat_send κ = search (count_seat_send, counts_sync, crosses, sendable) depth 60 fits 20000

pub seats_send : (κ : NamedLft) → IsSend (seats.the_row κ)
seats_send κ = search (row_seat_send, desk_sync, desk_seat_send, crosses, sendable) depth 60 fits 20000

pub port_send : (κ : NamedLft) (N X G T : RattleType) (j : job.Ghosts N.Denot) (x : rows.Ghosts X.Denot N.Denot) (t : stop.Ghosts T.Denot)
    → IsSend X → IsSync G → IsSend T → IsSend (port.the_row κ N X G T j x t)
port_send κ N X G T j x t its_rows gate its_stop =
    search (its_rows, seats_send, of_watch.the_send, gate, its_stop, of_cut.the_send, declared_send, crosses, sendable) depth 60 fits 20000

-- A worker with its port.
pub lane_send : (κ : NamedLft) (N X G T : RattleType) (j : job.Ghosts N.Denot) (x : rows.Ghosts X.Denot N.Denot) (t : stop.Ghosts T.Denot)
    → IsSend X → IsSync G → IsSend T → IsSend (lane.the_row κ N X G T j x t)
lane_send κ N X G T j x t its_rows gate its_stop =
    view_send (inside.the_row κ N X G T j x t) _ _ _ _ (search (port_send, its_rows, gate, its_stop, worker_send, declared_send, crosses, sendable) depth 60 fits 20000)

pub job_shard_send : (N : RattleType) (j : job.Ghosts N.Denot) → IsSend (job_shard.the_row N j)
job_shard_send N j = view_send (shard_inside.the_row N j) _ _ _ _ (declared_send (shard_inside.the_type N j) (search (shard_send, parts) depth 60 fits 20000, (search (crosses, sendable) depth 60 fits 20000, tt)))

-- Rows behind locks.
lock_sync : (N : RattleType) (j : job.Ghosts N.Denot) → IsSync (padded.the_row (mutex.the_row (job_shard.the_row N j)))
lock_sync N j = search (job_shard_send, of_padded.the_sync, crosses, sendable) depth 60 fits 20000

pub locked_send : (κ : NamedLft) (N R : RattleType) (j : job.Ghosts N.Denot) → IsSync R → IsSend (locked.the_row κ N R j)
locked_send κ N R j wait =
    declared_send (locked.the_type κ N R j)
    (search (wait, sendable) depth 60 fits 20000, (search (lock_sync, sendable) depth 60 fits 20000, tt))
