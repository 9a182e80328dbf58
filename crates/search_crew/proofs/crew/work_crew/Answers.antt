use denote.Exit.{no}
use denote.Param.{param}
use denote.Param.Send.{param_send, arg_send}
use mir.Syntax.{named}
use Rattle.std.proofs.Common.{◌≡◌, ◌<◌, ◌++◌, ℕ, List, [], length, map, subst, sym, ap, ◌∙◌, arith, take, drop}
use Rattle.std.specs.Prelude.{reverse, slice_index_or, All}
use Rattle.std.proofs.lemmas.List.{append-nil, length-append, length-map}
use Rattle.visit_log.specs.Run.{WorkerView}
use Rattle.search_gate.specs.Polls.{ArePolled}
use Rattle.search_gate.specs.Stop.{Signal}
use Rattle.word_desk.specs.WordDesk.{DeskSeatView}
use Rattle.search_crew.specs.Inside.{CrewTells, HasWorked, IsAtRest, LaneView, Shared, joined_all}
use Rattle.search_crew.proofs.Crews.{all_done, all_of, are_at_rest, are_polled, crew_tells, map_reverse, none_polled, turned_twice}
use Rattle.atomic_table.specs.Seated.{TableId}
use Rattle.search_crew.proofs.Sent.{locked_send}
use Rattle.search_crew.proofs.crew.work_crew.Goals as goal

pub returns-in_err-crew-clause-polled : goal.returns-in_err-crew-clause-polled
returns-in_err-crew-clause-polled g c = none_polled c.args.ground.now.count (map g.T.Stop.signal c.args.stops.now.items)

pub returns-in_err-lanes-clause-polled : goal.returns-in_err-lanes-clause-polled
returns-in_err-lanes-clause-polled g c = none_polled c.args.ground.now.count (map g.T.Stop.signal c.args.stops.now.items)

pub work_all-requires-send-X : goal.work_all-requires-send-X
work_all-requires-send-X g c κs within =
    param_send 1 _ (arg_send _ no _ (locked_send (record { mir = named 4; lft = κs.1.1.1.1.0 }) (param 0 g.row.J) (param 2 g.row.R) g.J.Job c.type_bounds.sync-R))

pub gather-requires-clause-rest : goal.gather-requires-clause-rest
gather-requires-clause-rest g c κs within =
    let its : Shared = record { problem = c.args.ground.now.problem.now.position; words = c.args.ground.now.table.now.words; desk = c.args.ground.now.desk.now } in
    let lanes = c.fill_lanes.new.lanes.items in
    let ys = c.work_all.new.lanes in
    let value = c.deref_mut.ensures.value in
    let same : length ys ≡ length lanes = c.work_all.ensures.count ∙ ap length value in
    let whole = all_of c.fill_lanes.new.lanes.len ys lanes (c.work_all.ensures.count ∙ c.deref_mut.ensures.len) (sym (ap length value) ∙ c.deref_mut.ensures.len) in
    let done = all_done its 1 lanes ys [] c.fill_lanes.ensures.fresh same
    (subst (λ (l : List LaneView). (place : ℕ) (none : LaneView) → place < length l → HasWorked (slice_index_or l place none) (slice_index_or ys place none)) value c.work_all.ensures.worked) in
    subst (λ (words : TableId). All (IsAtRest words c.args.ground.now.desk.now) (take c.fill_lanes.new.lanes.len (ys ++ drop (length ys) lanes))) (sym c.words.ensures)
    (subst (All (IsAtRest its.words its.desk)) (sym whole)
    (are_at_rest its 1 (map (λ lane. lane.signal) lanes ++ []) (map (λ lane. lane.signal) ys ++ []) ys done))

pub returns-clause-tells : goal.returns-clause-tells
returns-clause-tells g c =
    let its : Shared = record { problem = c.args.ground.now.problem.now.position; words = c.args.ground.now.table.now.words; desk = c.args.ground.now.desk.now } in
    let tell = g.T.Stop.signal in
    let lanes = c.fill_lanes.new.lanes.items in
    let ys = c.work_all.new.lanes in
    let value = c.deref_mut.ensures.value in
    let same : length ys ≡ length lanes = c.work_all.ensures.count ∙ ap length value in
    let whole = all_of c.fill_lanes.new.lanes.len ys lanes (c.work_all.ensures.count ∙ c.deref_mut.ensures.len) (sym (ap length value) ∙ c.deref_mut.ensures.len) in
    let rest = reverse (map tell c.fill_lanes.new.stops.items) in
    let before : map (λ (lane : LaneView). lane.signal) lanes ++ rest ≡ map tell c.args.stops.now.items =
    c.fill_lanes.ensures.signals ∙ turned_twice tell c.args.stops.now.items c.reverse.new.self.items c.reverse.ensures.items in
    let after : map tell c.reverse-2.new.self.items ≡ map (λ (lane : LaneView). lane.signal) ys ++ rest =
    ap (map tell) c.reverse-2.ensures.items ∙ (map_reverse tell c.gather.new.stops.items
    ∙ (sym c.gather.ensures.stops ∙ ap (λ (l : List LaneView). map (λ (lane : LaneView). lane.signal) l ++ rest) whole)) in
    let done = all_done its 1 lanes ys rest c.fill_lanes.ensures.fresh same
    (subst (λ (l : List LaneView). (place : ℕ) (none : LaneView) → place < length l → HasWorked (slice_index_or l place none) (slice_index_or ys place none)) value c.work_all.ensures.worked) in
    let crew : c.reverse-3.new.self.items ≡ map (λ (lane : LaneView). lane.worker) ys =
    c.reverse-3.ensures.items ∙ (sym c.gather.ensures.crew
    ∙ (ap (λ (ws : List WorkerView). map (λ (lane : LaneView). lane.worker) (take c.fill_lanes.new.lanes.len (ys ++ drop (length ys) lanes)) ++ reverse ws) c.in_ok-crew.ensures.items
    ∙ (append-nil (map (λ (lane : LaneView). lane.worker) (take c.fill_lanes.new.lanes.len (ys ++ drop (length ys) lanes))) ∙ ap (map (λ (lane : LaneView). lane.worker)) whole))) in
    let first = c.fill_lanes.new.desk_seat in
    let unused_first = c.fill_lanes.ensures.desk_seat.0 in
    subst (λ (b : List Signal). CrewTells its b (map tell c.reverse-2.new.self.items) c.reverse-3.new.self.items c.gather.new.desk_seat) before
    (subst (λ (a : List Signal). CrewTells its (map (λ (lane : LaneView). lane.signal) lanes ++ rest) a c.reverse-3.new.self.items c.gather.new.desk_seat) (sym after)
    (crew_tells its (map (λ (lane : LaneView). lane.signal) lanes ++ rest) (map (λ (lane : LaneView). lane.signal) ys ++ rest) ys first c.gather.new.desk_seat c.reverse-3.new.self.items
    done (ap (λ (d : DeskSeatView). d.desk) unused_first) (ap (λ (d : DeskSeatView). d.visits) unused_first) (ap (λ (d : DeskSeatView). d.claims) unused_first)
    (c.gather.ensures.desk ∙ ap (joined_all first) whole) crew))

pub returns-clause-seat : goal.returns-clause-seat
returns-clause-seat g c =
    let ys = c.work_all.new.lanes in
    let lanes = c.fill_lanes.new.lanes.items in
    let value = c.deref_mut.ensures.value in
    let same : length ys ≡ length lanes = c.work_all.ensures.count ∙ ap length value in
    let whole = ap length (all_of c.fill_lanes.new.lanes.len ys lanes (c.work_all.ensures.count ∙ c.deref_mut.ensures.len) (sym (ap length value) ∙ c.deref_mut.ensures.len)) in
    let parts = c.gather.ensures.parts in
    let had = c.fill_lanes.ensures.seat.2 in
    let count = c.fill_lanes.ensures.count in
    (c.gather.ensures.counts ∙ c.fill_lanes.ensures.seat.0, c.gather.ensures.none, omega (arith, parts, had, count, whole, same))

pub returns-clause-desk_parts : goal.returns-clause-desk_parts
returns-clause-desk_parts g c =
    let ys = c.work_all.new.lanes in
    let lanes = c.fill_lanes.new.lanes.items in
    let value = c.deref_mut.ensures.value in
    let same : length ys ≡ length lanes = c.work_all.ensures.count ∙ ap length value in
    let whole = ap length (all_of c.fill_lanes.new.lanes.len ys lanes (c.work_all.ensures.count ∙ c.deref_mut.ensures.len) (sym (ap length value) ∙ c.deref_mut.ensures.len)) in
    let parts = c.gather.ensures.desk_parts in
    let had = c.fill_lanes.ensures.desk_seat.1 in
    let count = c.fill_lanes.ensures.count in
    omega (arith, parts, had, count, whole, same)

pub returns-clause-polled : goal.returns-clause-polled
returns-clause-polled g c =
    let tell = g.T.Stop.signal in
    let ys = c.work_all.new.lanes in
    let lanes = c.fill_lanes.new.lanes.items in
    let value = c.deref_mut.ensures.value in
    let same : length ys ≡ length lanes = c.work_all.ensures.count ∙ ap length value in
    let whole = ap length (all_of c.fill_lanes.new.lanes.len ys lanes (c.work_all.ensures.count ∙ c.deref_mut.ensures.len) (sym (ap length value) ∙ c.deref_mut.ensures.len)) in
    let crew = ap length (c.reverse-3.ensures.items ∙ sym c.gather.ensures.crew) in
    let long = length-append (map (λ (lane : LaneView). lane.worker) (take c.fill_lanes.new.lanes.len (ys ++ drop (length ys) lanes))) (reverse c.in_ok-crew.crew.items) in
    let of_all = length-map (take c.fill_lanes.new.lanes.len (ys ++ drop (length ys) lanes)) (λ (lane : LaneView). lane.worker) in
    let none = ap (λ (ws : List WorkerView). length (reverse ws)) c.in_ok-crew.ensures.items in
    let count = c.fill_lanes.ensures.count in
    let many : length c.reverse-3.new.self.items ≡ c.args.ground.now.count = omega (arith, crew, long, of_all, none, whole, same, count) in
    subst (λ (n : ℕ). ArePolled n (map tell c.args.stops.now.items) (map tell c.reverse-2.new.self.items)) many
    (are_polled c.args.ground.now.problem.now.position 1 (map tell c.args.stops.now.items) (map tell c.reverse-2.new.self.items) c.reverse-3.new.self.items
    (returns-clause-tells g c).searched)
