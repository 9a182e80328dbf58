use Rattle.std.proofs.Common.{[], refl, sym, subst}
use Rattle.std.specs.Prelude.{Bool}
use Rattle.bound_check.specs.Valid.{IsListedFrom}
use Rattle.shortest_facts.specs.Keys.{known_of}
use Rattle.shortest_lists.specs.Reached.{IsBoundStep}
use Rattle.shortest_lists.specs.Placing.{IsPlaced}
use Rattle.shortest_lists.specs.Ends.{IsEndFor}
use Rattle.shortest_lists.specs.BoundWalk.{IsBoundWalk}
use Rattle.shortest_lists.specs.declared.bound.BoundWalk.{BoundWalk}
use Rattle.shortest_lists.proofs.Putting.{ended, none_in, pushed_first}
use Rattle.shortest_lists.proofs.Bounds.{root_next, begun_full, begun_walk, begun_root}
use Rattle.shortest_lists.proofs.bound.begun.Goals as goal
use Rattle.shortest_lists.proofs.bound.begun.Goals.{then-branch+in_ok-push, else-branch}

pub returns-in_err-takes_place-clause-too_many : goal.returns-in_err-takes_place-clause-too_many
returns-in_err-takes_place-clause-too_many c =
    let k = known_of c.args.facts.now in
    let p = c.args.problem.now.position in
    ended (IsEndFor (IsBoundStep k) p c.args.most) c.from_residual.result c.in_err-takes_place.field-0.0 c.from_residual.ensures.0 c.from_residual.ensures.1
    (begun_full k p c.args.most c.in_err-takes_place.field-0.0 (c.in_err-takes_place.ensures.no_place [] c.new-2.ensures refl))

pub returns-clause-walk : goal.returns-clause-walk
returns-clause-walk c =
    let k = known_of c.args.facts.now in
    let p = c.args.problem.now.position in
    let placed = c.in_ok-takes_place.ensures.placed [] c.new-2.ensures refl in
    elim c.if-branch.branch [
      | then-branch+in_ok-push w ↦
          subst (λ (walk : BoundWalk). IsBoundWalk k p c.args.most 0 walk) (sym w.walk-is)
          (begun_walk k p c.args.most c.args.within _ _ (root_next k p c.args.within c.args.problem.now.accepted c.laws.ensures c.requires.known) refl refl
          (subst (λ (b : Bool). IsPlaced c.takes_place.new.places [] p c.args.most b) w.if-branch.true placed)
          (pushed_first c.new.result.items _ _ c.new.ensures.items w.in_ok-push.ensures.items))
      | else-branch w ↦
          absurd (none_in p (subst (λ (b : Bool). IsPlaced c.takes_place.new.places [] p c.args.most b) w.if-branch.false placed).0)
    ]

pub returns-clause-root : goal.returns-clause-root
returns-clause-root c some =
    let p = c.args.problem.now.position in
    let placed = c.in_ok-takes_place.ensures.placed [] c.new-2.ensures refl in
    elim c.if-branch.branch [
      | then-branch+in_ok-push w ↦
          subst (λ (walk : BoundWalk). IsListedFrom walk.entries.items c.args.within p) (sym w.walk-is)
          (begun_root p c.args.within _ _ refl refl (pushed_first c.new.result.items _ _ c.new.ensures.items w.in_ok-push.ensures.items))
      | else-branch w ↦
          absurd (none_in p (subst (λ (b : Bool). IsPlaced c.takes_place.new.places [] p c.args.most b) w.if-branch.false placed).0)
    ]
