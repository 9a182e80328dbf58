use Rattle.std.proofs.Common.{◌≡◌, ◌+◌, ◌++◌, ◌≤◌, [], length, map}
use Rattle.std.specs.Prelude.{All, reverse}
use Rattle.std.specs.Vec.{vec_capacity}
use Rattle.search_crew.specs.Inside.{IsAtRest, joined_all}
use Rattle.search_crew.proofs.closing.gather.Given as goal

-- the lanes that are left, with what came of those that were taken apart, the last one first
abbrev pub invariant-loop-lane : goal.invariant-loop-lane
invariant-loop-lane g l =
    (l.seat.counts ≡ l.initial.seat.counts) × (l.seat.view.added ≡ []) × (l.desk_seat.desk ≡ l.initial.desk_seat.desk) × All (IsAtRest l.words.counts.now l.words.desk.now) l.lanes.items
    × (map (λ lane. lane.worker) l.lanes.items ++ reverse l.crew.items ≡ map (λ lane. lane.worker) l.initial.lanes.items ++ reverse l.initial.crew.items)
    × (map (λ lane. lane.signal) l.lanes.items ++ reverse (map g.T.Stop.signal l.stops.items)
    ≡ map (λ lane. lane.signal) l.initial.lanes.items ++ reverse (map g.T.Stop.signal l.initial.stops.items))
    × (length l.crew.items + length l.lanes.items ≤ vec_capacity l.crew)
    × (length l.stops.items + length l.lanes.items ≤ vec_capacity l.stops)
    × (l.seat.view.parts + length l.lanes.items ≡ l.initial.seat.view.parts + length l.initial.lanes.items)
    × (joined_all l.desk_seat l.lanes.items ≡ joined_all l.initial.desk_seat l.initial.lanes.items)
    × (l.desk_seat.parts + length l.lanes.items ≡ l.initial.desk_seat.parts + length l.initial.lanes.items)

abbrev pub decreases-loop-lane : goal.decreases-loop-lane
decreases-loop-lane g l = goal.left-loop-lane g l
