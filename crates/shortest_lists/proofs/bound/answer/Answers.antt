use Rattle.std.proofs.Common.{◌-◌, ◌<◌, refl, subst, arith, Contains}
use Rattle.std.specs.Prelude.{Bool}
use Rattle.mate_def.specs.Mate.{HasEvasionTo}
use Rattle.bound_text.specs.Bound.{bounded_in}
use Rattle.bound_text.specs.declared.entry.BoundEntry.{BoundEntry}
use Rattle.shortest_facts.specs.Keys.{known_of}
use Rattle.shortest_lists.specs.Reached.{IsBoundStep}
use Rattle.shortest_lists.specs.Placing.{IsPlaced}
use Rattle.shortest_lists.specs.Ends.{IsEndFor}
use Rattle.shortest_lists.proofs.Putting.{ended, read_at, at_only, stand_same, stand_more}
use Rattle.shortest_lists.proofs.Bounds.{IsBoundNext, as_many, led_back, checked_above, next_held, bound_full, walk_more, evaded_to, last_listed}
use Rattle.shortest_lists.proofs.bound.answer.Goals as goal
use Rattle.shortest_lists.proofs.bound.answer.Goals.{After-laws}

next : (c : After-laws)
    → IsBoundNext (known_of c.args.facts.now) c.args.problem.now.position c.apply-next.result (c.index-entry.result.now.bound.number - 1)
next c =
    let k = known_of c.args.facts.now in
    let p = c.args.problem.now.position in
    let old = c.args.walk.now.entries.items in
    let here = c.index-entry.result.now in
    let at = read_at old c.args.place here c.requires.place c.index-entry.ensures in
    next_held k p c.args.most c.args.place c.args.walk.now c.requires.same c.requires.borne_out c.requires.walk here at
    c.args.check (c.requires.is_check here at) (c.requires.above here at) c.apply-checked.result c.apply-checked.ensures.position
    c.holding_out.result c.apply-next.result c.holding_out.ensures.by c.holding_out.ensures.holds_out c.apply-next.ensures.position c.laws.ensures
    c.apply-next.ensures.quiet c.apply-checked.ensures.kings c.apply-next.ensures.kings

pub returns-then-branch-clause-answered : goal.returns-then-branch-clause-answered
returns-then-branch-clause-answered c =
    let k = known_of c.args.facts.now in
    let p = c.args.problem.now.position in
    let old = c.args.walk.now.entries.items in
    let here = c.index-entry.result.now in
    let at = read_at old c.args.place here c.requires.place c.index-entry.ensures in
    at_only (λ (entry : BoundEntry). HasEvasionTo k.attacker (Contains (bounded_in old)) entry.at c.args.check) old c.args.place here at
    (led_back k p c.args.most c.args.place c.args.walk.now c.requires.same c.requires.borne_out c.requires.walk here at
    c.args.check (c.requires.is_check here at) (c.requires.above here at) c.apply-checked.result c.apply-checked.ensures.position old
    (c.in_ok-leads_back.ensures c.if-branch.true))

pub holding_out-requires-clause-known : goal.holding_out-requires-clause-known
holding_out-requires-clause-known c =
    let k = known_of c.args.facts.now in
    let p = c.args.problem.now.position in
    let old = c.args.walk.now.entries.items in
    let here = c.index-entry.result.now in
    let at = read_at old c.args.place here c.requires.place c.index-entry.ensures in
    checked_above k p c.args.most c.args.place c.args.walk.now c.requires.same c.requires.borne_out c.requires.walk here at
    c.args.check (c.requires.is_check here at) (c.requires.above here at) c.apply-checked.result c.apply-checked.ensures.position

pub returns-in_err-takes_place-clause-too_many : goal.returns-in_err-takes_place-clause-too_many
returns-in_err-takes_place-clause-too_many c =
    let k = known_of c.args.facts.now in
    let p = c.args.problem.now.position in
    let old = c.args.walk.now.entries.items in
    let here = c.index-entry.result.now in
    let at = read_at old c.args.place here c.requires.place c.index-entry.ensures in
    ended (IsEndFor (IsBoundStep k) p c.args.most) c.from_residual-in_err-takes_place.result c.in_err-takes_place.field-0.0
    c.from_residual-in_err-takes_place.ensures.0 c.from_residual-in_err-takes_place.ensures.1
    (bound_full k p c.apply-next.result c.args.most c.args.place (here.bound.number - 1) c.args.walk.now c.requires.walk
    (next (goal.at.returns-in_err-takes_place-clause-too_many c).After-laws) c.in_err-takes_place.field-0.0
    (c.in_err-takes_place.ensures.no_place (bounded_in old) c.requires.walk.placed (let many = as_many old in omega (arith, many))))

pub invariant_of-push : goal.invariant_of-push
invariant_of-push c =
    let here = c.index-entry.result.now in
    let some : 1 < here.bound.number =
    c.requires.above here (read_at c.args.walk.now.entries.items c.args.place here c.requires.place c.index-entry.ensures) in
    let within = here.bound.within in
    record { some = omega (arith, some); within = omega (arith, within) }

pub returns-in_ok-push-clause-walk : goal.returns-in_ok-push-clause-walk
returns-in_ok-push-clause-walk c =
    let k = known_of c.args.facts.now in
    let p = c.args.problem.now.position in
    let old = c.args.walk.now.entries.items in
    let here = c.index-entry.result.now in
    let at = read_at old c.args.place here c.requires.place c.index-entry.ensures in
    let placed = subst (λ (b : Bool). IsPlaced c.takes_place.new.places (bounded_in old) c.apply-next.result c.args.most b) c.if-branch-2.true
    (c.in_ok-takes_place.ensures.placed (bounded_in old) c.requires.walk.placed (let many = as_many old in omega (arith, many))) in
    walk_more k p c.args.most c.args.place c.args.walk.now _ here _ c.requires.walk at refl (c.requires.above here at) c.in_ok-push.ensures.items
    c.apply-next.result refl (next (goal.at.returns-in_ok-push-clause-walk c).After-laws) placed.1 placed.2

pub returns-in_ok-push-clause-stand : goal.returns-in_ok-push-clause-stand
returns-in_ok-push-clause-stand c =
    let old = c.args.walk.now.entries.items in
    stand_more old old _ _ c.in_ok-push.ensures.items (stand_same old)

pub returns-in_ok-push-clause-answered : goal.returns-in_ok-push-clause-answered
returns-in_ok-push-clause-answered c =
    let k = known_of c.args.facts.now in
    let p = c.args.problem.now.position in
    let old = c.args.walk.now.entries.items in
    let here = c.index-entry.result.now in
    let at = read_at old c.args.place here c.requires.place c.index-entry.ensures in
    at_only (λ (entry : BoundEntry). HasEvasionTo k.attacker (Contains (bounded_in c.push.new.self.items)) entry.at c.args.check) old c.args.place here at
    (evaded_to k p c.args.most c.args.place c.args.walk.now c.requires.same c.requires.borne_out c.requires.walk here at
    c.args.check (c.requires.is_check here at) (c.requires.above here at) c.apply-checked.result c.apply-checked.ensures.position
    c.push.new.self.items c.holding_out.result c.apply-next.result c.holding_out.ensures.holds_out.is_evasion c.apply-next.ensures.position
    (last_listed old c.push.new.self.items _ c.in_ok-push.ensures.items))

pub returns-else-branch-2-clause-answered : goal.returns-else-branch-2-clause-answered
returns-else-branch-2-clause-answered c =
    let k = known_of c.args.facts.now in
    let p = c.args.problem.now.position in
    let old = c.args.walk.now.entries.items in
    let here = c.index-entry.result.now in
    let at = read_at old c.args.place here c.requires.place c.index-entry.ensures in
    let placed = subst (λ (b : Bool). IsPlaced c.takes_place.new.places (bounded_in old) c.apply-next.result c.args.most b) c.if-branch-2.false
    (c.in_ok-takes_place.ensures.placed (bounded_in old) c.requires.walk.placed (let many = as_many old in omega (arith, many))) in
    at_only (λ (entry : BoundEntry). HasEvasionTo k.attacker (Contains (bounded_in old)) entry.at c.args.check) old c.args.place here at
    (evaded_to k p c.args.most c.args.place c.args.walk.now c.requires.same c.requires.borne_out c.requires.walk here at
    c.args.check (c.requires.is_check here at) (c.requires.above here at) c.apply-checked.result c.apply-checked.ensures.position
    old c.holding_out.result c.apply-next.result c.holding_out.ensures.holds_out.is_evasion c.apply-next.ensures.position placed.0)
