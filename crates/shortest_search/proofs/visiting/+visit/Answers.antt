use Rattle.std.proofs.Common.{◌<◌, ◌+◌, ◌-◌, ℕ, Option, List, Contains, arith, sym, subst}
use Rattle.std.specs.Prelude.{Ok}
use Rattle.std.proofs.lemmas.Option.{slice_get_within, get_or_from_slice_get}
use Rattle.bit_boards.specs.declared.piece.Side.{Side}
use Rattle.search_gate.specs.Polls.{IsPolledForEach}
use Rattle.shogi_rules.specs.Rules.{after}
use Rattle.shogi_rules.specs.Tsume.{IsCheck, IsEvasion}
use Rattle.shortest_facts.specs.Keys.{known_of}
use Rattle.shortest_search.specs.declared.child.Child.{Child}
use Rattle.shortest_search.specs.Children.{IsKnownCheck, IsKnownEvasion}
use Rattle.shortest_search.specs.Visit.{IsTried, HasMate, TakesMore, TakesNoMore}
use Rattle.shortest_search.proofs.Attacking.{child_at, move_at, lift_check, lift_evasion, lasts_on, mated_on, run_on, quiet_on, all_evaded, all_longer, all_mated}
use Rattle.shortest_search.proofs.visiting.+visit.Goals as goal

pub attack-mates-requires-clause-is_check : goal.attack-mates-requires-clause-is_check
attack-mates-requires-clause-is_check g t c =
    let there = subst (λ (cs : List Child). Contains cs c.in-Some.child) c.deref.ensures.value c.in-Some.ensures.0 in
    (c.in_ok-children.ensures.each c.in-Some.child there).is_check

pub attack-try_check-requires-clause-known : goal.attack-try_check-requires-clause-known
attack-try_check-requires-clause-known g t c κs within =
    lift_check (known_of c.args.run.now.facts) (known_of c.loop-child.run.facts) c.args.position.now c.child-item.result c.laws.ensures c.loop-child.invariant.goes_on.better
    (child_at (IsKnownCheck (known_of c.args.run.now.facts) c.args.position.now) (IsCheck c.args.run.now.facts.attacker c.args.position.now) c.in_ok-children.children.items
    c.in_turn-children.result.items c.as_slice-child-items.result.now c.loop-child.child-index c.child-item.result
    c.in_ok-children.ensures c.in_turn-children.ensures c.as_slice-child-items.ensures.value c.loop-child-test.true c.child-item.is)

pub attack-loop-child-preserved : goal.attack-loop-child-preserved
attack-loop-child-preserved g t c = record {
  goes_on = run_on c.args.run.now c.loop-child.run c.try_check.new.run c.loop-child.invariant.goes_on c.in_ok-try_check.ensures.goes_on;
  lasts =
      lasts_on (known_of c.loop-child.run.facts) (known_of c.try_check.new.run.facts) c.args.position.now c.as_slice-child-items.result.now c.loop-child.child-index (c.args.within - 1) c.loop-child.low c.in-Some-2.least c.min-low.result
      c.child-item.result c.laws.ensures c.in_ok-try_check.ensures.goes_on.better
      (λ i x there.
      let known = child_at (IsKnownCheck (known_of c.args.run.now.facts) c.args.position.now) (IsCheck c.args.run.now.facts.attacker c.args.position.now) c.in_ok-children.children.items
      c.in_turn-children.result.items c.as_slice-child-items.result.now i x
      c.in_ok-children.ensures c.in_turn-children.ensures c.as_slice-child-items.ensures.value (slice_get_within _ i x there) (sym (get_or_from_slice_get _ i x x there)) in
      subst (λ (s : Side). IsCheck s c.args.position.now x.by) (sym c.loop-child.invariant.goes_on.better.same) known.is_check)
      c.loop-child.invariant.lasts c.loop-child-test.true c.child-item.is
      (subst (λ (o : Option ℕ). IsTried (HasMate (known_of c.try_check.new.run.facts) c.args.position.now ((c.args.within - 1) + 1)) (TakesMore (known_of c.try_check.new.run.facts) (after c.args.position.now c.child-item.result.by) (c.args.within - 1)) c.try_check.new.run (Ok o))
      c.in-Some-2.is c.in_ok-try_check.ensures.outcome)
      c.min-low.ensures;
  quiet = quiet_on c.args.run.now.made c.loop-child.run.made c.try_check.new.run.made (g.T.Stop.signal c.args.stop.now) (g.T.Stop.signal c.loop-child.stop)
      (g.T.Stop.signal c.try_check.new.stop) c.loop-child.invariant.quiet
      c.in_ok-try_check.ensures.polled c.in_ok-try_check.ensures.goes_on.made c.in_ok-try_check.ensures.stopped;
}

pub attack-takes-requires-clause-evaded : goal.attack-takes-requires-clause-evaded
attack-takes-requires-clause-evaded g t c = λ more.
    all_evaded (known_of c.loop-child.run.facts) c.args.position.now c.as_slice-child-items.result.now c.loop-child.child-index (c.args.within - 1) c.loop-child.low c.laws.ensures
    c.loop-child.invariant.goes_on.borne_out c.loop-child-test.false (let h = c.requires.two in omega (arith, h)) c.loop-child.invariant.lasts
    (λ check is. move_at (IsKnownCheck (known_of c.args.run.now.facts) c.args.position.now) (IsCheck c.args.run.now.facts.attacker c.args.position.now) c.in_ok-children.children.items
    c.in_turn-children.result.items c.as_slice-child-items.result.now check c.in_ok-children.ensures c.in_turn-children.ensures c.as_slice-child-items.ensures.value
    (subst (λ (s : Side). IsCheck s c.args.position.now check) c.loop-child.invariant.goes_on.better.same is))

pub attack-takes-requires-clause-longer : goal.attack-takes-requires-clause-longer
attack-takes-requires-clause-longer g t c = λ more.
    all_longer (known_of c.loop-child.run.facts) c.args.position.now c.as_slice-child-items.result.now c.loop-child.child-index (c.args.within - 1) c.loop-child.low c.next_length.result
    c.loop-child-test.false c.loop-child.invariant.lasts
    (λ check is. move_at (IsKnownCheck (known_of c.args.run.now.facts) c.args.position.now) (IsCheck c.args.run.now.facts.attacker c.args.position.now) c.in_ok-children.children.items
    c.in_turn-children.result.items c.as_slice-child-items.result.now check c.in_ok-children.ensures c.in_turn-children.ensures c.as_slice-child-items.ensures.value
    (subst (λ (s : Side). IsCheck s c.args.position.now check) c.loop-child.invariant.goes_on.better.same is))
    c.next_length.ensures

pub defend-holds_out-requires-clause-is_evasion : goal.defend-holds_out-requires-clause-is_evasion
defend-holds_out-requires-clause-is_evasion g t c =
    let there = subst (λ (cs : List Child). Contains cs c.in-Some.child) c.deref.ensures.value c.in-Some.ensures.0 in
    (c.in_ok-children.ensures.each c.in-Some.child there).is_evasion

pub defend-holds_out-requires-clause-long : goal.defend-holds_out-requires-clause-long
defend-holds_out-requires-clause-long g t c =
    let there = subst (λ (cs : List Child). Contains cs c.in-Some.child) c.deref.ensures.value c.in-Some.ensures.0 in
    (c.in_ok-children.ensures.each c.in-Some.child there).least

pub defend-try_evasion-requires-clause-known : goal.defend-try_evasion-requires-clause-known
defend-try_evasion-requires-clause-known g t c κs within =
    lift_evasion (known_of c.args.run.now.facts) (known_of c.loop-child.run.facts) c.args.position.now c.child-item.result c.laws.ensures c.loop-child.invariant.goes_on.better
    (child_at (IsKnownEvasion (known_of c.args.run.now.facts) c.args.position.now) (IsEvasion c.args.run.now.facts.attacker c.args.position.now) c.in_ok-children.children.items
    c.in_turn-children.result.items c.as_slice-child-items.result.now c.loop-child.child-index c.child-item.result
    c.in_ok-children.ensures c.in_turn-children.ensures c.as_slice-child-items.ensures.value c.loop-child-test.true c.child-item.is)

pub defend-loop-child-preserved : goal.defend-loop-child-preserved
defend-loop-child-preserved g t c = record {
  goes_on = run_on c.args.run.now c.loop-child.run c.try_evasion.new.run c.loop-child.invariant.goes_on c.in_ok-try_evasion.ensures.goes_on;
  mated =
      mated_on (known_of c.loop-child.run.facts) (known_of c.try_evasion.new.run.facts) c.args.position.now c.as_slice-child-items.result.now c.loop-child.child-index c.args.within c.loop-child.high c.in-Some-2.most c.max-high.result
      c.child-item.result c.laws.ensures c.in_ok-try_evasion.ensures.goes_on.better
      (λ i x there.
      let known = child_at (IsKnownEvasion (known_of c.args.run.now.facts) c.args.position.now) (IsEvasion c.args.run.now.facts.attacker c.args.position.now) c.in_ok-children.children.items
      c.in_turn-children.result.items c.as_slice-child-items.result.now i x
      c.in_ok-children.ensures c.in_turn-children.ensures c.as_slice-child-items.ensures.value (slice_get_within _ i x there) (sym (get_or_from_slice_get _ i x x there)) in
      subst (λ (s : Side). IsEvasion s c.args.position.now x.by) (sym c.loop-child.invariant.goes_on.better.same) known.is_evasion)
      c.loop-child.invariant.mated c.loop-child-test.true c.child-item.is
      (subst (λ (o : Option ℕ). IsTried (c.args.within < ((known_of c.try_evasion.new.run.facts).at c.args.position.now).least) (TakesNoMore (known_of c.try_evasion.new.run.facts) (after c.args.position.now c.child-item.result.by) c.args.within) c.try_evasion.new.run (Ok o))
      c.in-Some-2.is c.in_ok-try_evasion.ensures.outcome)
      c.max-high.ensures;
  quiet = quiet_on c.args.run.now.made c.loop-child.run.made c.try_evasion.new.run.made (g.T.Stop.signal c.args.stop.now) (g.T.Stop.signal c.loop-child.stop)
      (g.T.Stop.signal c.try_evasion.new.stop) c.loop-child.invariant.quiet
      c.in_ok-try_evasion.ensures.polled c.in_ok-try_evasion.ensures.goes_on.made c.in_ok-try_evasion.ensures.stopped;
}

pub defend-is_mated-requires-clause-mated : goal.defend-is_mated-requires-clause-mated
defend-is_mated-requires-clause-mated g t c =
    all_mated (known_of c.loop-child.run.facts) c.args.position.now c.as_slice-child-items.result.now c.loop-child.child-index c.args.within c.loop-child.high
    c.loop-child-test.false c.loop-child.invariant.mated
    (λ evasion is. move_at (IsKnownEvasion (known_of c.args.run.now.facts) c.args.position.now) (IsEvasion c.args.run.now.facts.attacker c.args.position.now) c.in_ok-children.children.items
    c.in_turn-children.result.items c.as_slice-child-items.result.now evasion c.in_ok-children.ensures c.in_turn-children.ensures c.as_slice-child-items.ensures.value
    (subst (λ (s : Side). IsEvasion s c.args.position.now evasion) c.loop-child.invariant.goes_on.better.same is))

pub visit-returns-then-within-lt2-clause-polled : goal.visit-returns-then-within-lt2-clause-polled
visit-returns-then-within-lt2-clause-polled g t c =
    subst (λ (made : ℕ). IsPolledForEach c.args.run.now.made made (g.T.Stop.signal c.args.stop.now) (g.T.Stop.signal c.begin.new.stop))
    (sym c.attack_once.ensures.made) c.in_ok-begin.ensures.polled
