use Rattle.std.proofs.Common.{subst}
use Rattle.search_crew.specs.Inside.{HasWorked, LaneView}
use Rattle.search_crew.proofs.lane.work_lane.Goals as goal

pub returns : goal.returns
returns g c =
    let later : LaneView = record { worker = c.work_over.new.worker; cut = c.work_over.new.port.cut; seat = c.work_over.new.port.seats.row; desk = c.work_over.new.port.seats.desk_seat; signal = g.T.Stop.signal c.work_over.new.port.watch.stop } in
    subst (λ (lane : LaneView). HasWorked lane later) c.lane.view_is c.work_over.ensures.worked
