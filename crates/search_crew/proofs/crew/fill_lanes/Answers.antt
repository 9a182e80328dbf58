use Rattle.std.proofs.Common.{rules, ◌≡◌, ◌++◌, ℕ, List, ◌∷◌, [], length, map, subst, sym, ap, ◌∙◌, arith}
use Rattle.std.specs.Prelude.{reverse}
use Rattle.std.proofs.lemmas.List.{map_push}
use Rattle.search_gate.specs.Stop.{Signal}
use Rattle.search_crew.specs.Inside.{AreFresh, IsFresh, LaneView, Shared}
use Rattle.search_crew.proofs.Crews.{fresh_push, taken}
use Rattle.search_crew.proofs.crew.fill_lanes.Goals as goal

pub loop-place-preserved : goal.loop-place-preserved
loop-place-preserved g c =
    let its : Shared = record { problem = c.args.ground.now.problem.now.position; words = c.args.ground.now.table.now.words; desk = c.args.ground.now.desk.now } in
    let lanes = c.loop-place.lanes.items in
    let lane = c.make_lane.result in
    let more : c.push_reserved.new.self.items ≡ lanes ++ lane ∷ [] = c.push_reserved.ensures.items in
    let inv = c.loop-place.invariant in
    let rest : c.loop-place.stops.items ≡ c.pop.new.self.items ++ c.in-Some.stop ∷ [] = search rules in
    let long : length lanes ≡ c.loop-place.place = inv.1 in (
      subst (AreFresh its 1) (sym more)
          (fresh_push its 1 lanes lane inv.0 (subst (λ (n : ℕ). IsFresh its n lane) (omega (arith, long)) c.make_lane.ensures.fresh)),
      search rules,
      search rules,
      subst (λ (l : List LaneView). map (λ each. each.signal) l ++ reverse (map g.T.Stop.signal c.pop.new.self.items) ≡ reverse (map g.T.Stop.signal c.args.stops.now.items)) (sym more)
          (ap (λ (told : List Signal). told ++ reverse (map g.T.Stop.signal c.pop.new.self.items)) (map_push (λ (each : LaneView). each.signal) lanes lane)
          ∙ (taken g.T.Stop.signal (map (λ each. each.signal) lanes) c.pop.new.self.items c.in-Some.stop lane.signal c.make_lane.ensures.signal
          ∙ (ap (λ l. map (λ (each : LaneView). each.signal) lanes ++ reverse (map g.T.Stop.signal l)) (sym rest) ∙ inv.3))),
      search rules,
      search rules,
      search rules,
      search rules,
      search rules,
      search rules,
      search rules,
    )
