use denote.Param.Send.{param_send, param_sync, arg_send, arg_sync}
use denote.Param.{param}
use denote.Exit.{no}
use mir.Syntax.{named}
use Rattle.std.proofs.Common.{subst}
use Rattle.std.specs.Prelude.{slice_index_or}
use Rattle.search_crew.specs.Inside.{HasWorked, LaneView}
use Rattle.search_crew.proofs.Sent.{lane_send}
use Rattle.search_crew.proofs.lane.work_all.Goals as goal

pub for_each_mut-requires-send-T : goal.for_each_mut-requires-send-T
for_each_mut-requires-send-T g c κs within =
    param_send 1 _ (arg_send _ no _ (lane_send (record { mir = named 6; lft = κs.1.1.1.1.1.1.0 }) (param 0 g.row.J) (param 1 g.row.X) (param 2 g.row.G) (param 3 g.row.T)
    g.J.Job g.X.Rows g.T.Stop c.type_bounds.send-X c.type_bounds.sync-G c.type_bounds.send-T))

pub for_each_mut-requires-clause-accepts : goal.for_each_mut-requires-clause-accepts
for_each_mut-requires-clause-accepts g c κs within = λ place lane low is. (
  param_send 0 _ (arg_send _ no _ c.type_bounds.send-J),
  param_send 1 _ (arg_send _ no _ c.type_bounds.send-X),
  param_send 3 _ (arg_send _ no _ c.type_bounds.send-T),
  param_sync 0 _ (arg_sync _ no _ c.type_bounds.sync-J),
  param_sync 2 _ (arg_sync _ no _ c.type_bounds.sync-G),
)

pub returns-clause-worked : goal.returns-clause-worked
returns-clause-worked g c = λ place none low.
    let did = (c.for_each_mut.ensures place none low).1 in
    let later = slice_index_or c.for_each_mut.new.s place none in
    subst (λ (lane : LaneView). HasWorked lane later) did.argument_is (subst (λ (lane : LaneView). HasWorked did.argument.now lane) did.left did.call)
