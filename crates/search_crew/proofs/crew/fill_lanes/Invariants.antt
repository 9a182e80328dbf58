use Rattle.std.proofs.Common.{◌≡◌, ◌+◌, ◌++◌, [], length, map}
use Rattle.std.specs.Prelude.{reverse}
use Rattle.std.specs.Vec.{vec_capacity}
use Rattle.word_desk.specs.WordDesk.{unused}
use Rattle.worker_counts.specs.declared.view.TheConstants.{MOST_SEATS}
use Rattle.search_crew.specs.Inside.{AreFresh}
use Rattle.search_crew.proofs.crew.fill_lanes.Given as goal

-- the workers so far, and a part of both seats and a stop for each that is still to come
abbrev pub invariant-loop-place : goal.invariant-loop-place
invariant-loop-place g l =
    AreFresh (record { problem = l.ground.problem.now.position; words = l.ground.table.now.words; desk = l.ground.desk.now }) 1 l.lanes.items
    × (length l.lanes.items ≡ l.place) × (vec_capacity l.lanes ≡ vec_capacity l.initial.lanes)
    × (map (λ lane. lane.signal) l.lanes.items ++ reverse (map g.T.Stop.signal l.stops.items) ≡ reverse (map g.T.Stop.signal l.initial.stops.items))
    × (vec_capacity l.stops ≡ vec_capacity l.initial.stops) × (length l.stops.items + l.place ≡ length l.initial.stops.items)
    × (l.seat.counts ≡ l.initial.seat.counts) × (l.seat.view.added ≡ []) × (l.seat.view.parts + l.place ≡ MOST_SEATS)
    × (l.desk_seat ≡ unused l.ground.desk.now l.desk_seat.parts) × (l.desk_seat.parts + l.place ≡ MOST_SEATS)
