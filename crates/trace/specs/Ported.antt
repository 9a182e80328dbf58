-- A worker with a port of its own.
use Rattle.std.specs.Prelude.{None}
use Rattle.visit_log.specs.Run.{WorkerView}
use Rattle.word_desk.specs.WordDesk.{DeskSeatView}
use Rattle.shared_table.specs.Seat.{RowSeatView}
use Rattle.table_port.specs.Port.{TablePortView}
use Rattle.table_port.specs.declared.parts.Cut.{Cut}

-- The worker, and of its port how the table is cut, and its seats.
pub record LaneView : Type 0 where
  pub worker : WorkerView
  pub cut : Cut
  pub seat : RowSeatView
  pub desk : DeskSeatView

-- A port with these, whose rows aren't told.
abbrev pub port_of : Cut → RowSeatView → DeskSeatView → TablePortView
port_of its_cut its_seat its_desk = record { cut = its_cut; shards = None; seat = its_seat; desk = its_desk }
