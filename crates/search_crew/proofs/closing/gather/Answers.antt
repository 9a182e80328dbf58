use Rattle.std.proofs.Common.{rules, ◌≡◌, ◌++◌, List, ◌∷◌, [], map, subst, sym, ap, ◌∙◌}
use Rattle.std.specs.Prelude.{reverse, All}
use Rattle.std.proofs.lemmas.List.{map_push}
use Rattle.visit_log.specs.Run.{WorkerView}
use Rattle.search_gate.specs.Stop.{Signal}
use Rattle.word_desk.specs.WordDesk.{DeskSeatView}
use Rattle.search_crew.specs.Inside.{IsAtRest, LaneView, joined_all}
use Rattle.search_crew.proofs.Crews.{all_before, all_last, handed, joined_last}
use Rattle.search_crew.proofs.closing.gather.Goals as goal

pub join_lane-worker-requires-clause-rest : goal.join_lane-worker-requires-clause-rest
join_lane-worker-requires-clause-rest g c κs within =
    all_last (IsAtRest c.args.words.counts.now c.args.words.desk.now) c.pop.new.self.items c.in-Some.lane
    (subst (All (IsAtRest c.args.words.counts.now c.args.words.desk.now)) c.in-Some.ensures.items c.loop-lane.invariant.3)

pub loop-lane-preserved : goal.loop-lane-preserved
loop-lane-preserved g c =
    let rest = c.pop.new.self.items in
    let lane = c.in-Some.lane in
    let inv = c.loop-lane.invariant in
    let was : c.loop-lane.lanes.items ≡ rest ++ lane ∷ [] = c.in-Some.ensures.items in
    let join = c.join_lane-worker in (
      search rules,
      search rules,
      search rules,
      all_before (IsAtRest c.args.words.counts.now c.args.words.desk.now) rest lane (subst (All (IsAtRest c.args.words.counts.now c.args.words.desk.now)) was inv.3),
      (ap (λ (ws : List WorkerView). map (λ (each : LaneView). each.worker) rest ++ reverse ws) c.push_reserved.ensures.items
          ∙ (handed (λ (each : LaneView). each.worker) rest lane c.loop-lane.crew.items join.result.0 join.ensures.worker
          ∙ (ap (λ (ls : List LaneView). map (λ (each : LaneView). each.worker) ls ++ reverse c.loop-lane.crew.items) (sym was) ∙ inv.4))),
      (ap (λ ss. map (λ (each : LaneView). each.signal) rest ++ reverse (map g.T.Stop.signal ss)) c.push_reserved-in-Some.ensures.items
          ∙ (ap (λ (ss : List Signal). map (λ (each : LaneView). each.signal) rest ++ reverse ss) (map_push g.T.Stop.signal c.loop-lane.stops.items join.result.1)
          ∙ (handed (λ (each : LaneView). each.signal) rest lane (map g.T.Stop.signal c.loop-lane.stops.items) (g.T.Stop.signal join.result.1) join.ensures.stop
          ∙ (ap (λ (ls : List LaneView). map (λ (each : LaneView). each.signal) ls ++ reverse (map g.T.Stop.signal c.loop-lane.stops.items)) (sym was) ∙ inv.5)))),
      search rules,
      search rules,
      search rules,
      (ap (λ (d : DeskSeatView). joined_all d rest) join.ensures.desk ∙ (sym (joined_last c.loop-lane.desk_seat rest lane)
          ∙ (ap (joined_all c.loop-lane.desk_seat) (sym was) ∙ inv.9))),
      search rules,
    )
