use Rattle.std.proofs.Common.{◌+◌, refl, sym, subst, ◌∙◌, arith}
use Rattle.std.specs.Prelude.{Bool}
use Rattle.shogi_rules.specs.Tsume.{IsEvasion}
use Rattle.mate_facts.specs.Entries.{positions_of}
use Rattle.shortest_facts.specs.Keys.{known_of}
use Rattle.shortest_lists.specs.Reached.{IsMateStep}
use Rattle.shortest_lists.specs.Placing.{IsPlaced}
use Rattle.shortest_lists.specs.Ends.{IsEndFor}
use Rattle.shortest_lists.specs.declared.mate.MateWalk.{MateWalk}
use Rattle.shortest_lists.proofs.Putting.{ended, item_at, read_at}
use Rattle.shortest_lists.proofs.Mates.{IsMateNext, next_at, mate_full, as_many, IsFollowing, following_new, following_old, followed_all}
use Rattle.shortest_lists.proofs.mate.follow.Goals as goal
use Rattle.shortest_lists.proofs.mate.follow.Goals.{then-branch+in_ok-push, else-branch, After-apply-next}

next : (c : After-apply-next) → IsMateNext (known_of c.args.facts.now) c.args.problem.now.position c.apply-next.result
next c =
    next_at (known_of c.args.facts.now) c.args.problem.now.position c.args.most c.args.walk.now c.args.place c.index-entry.result.now
    c.apply-checked.result c.apply-next.result c.as_slice-evasion-items.result.now c.in_ok-evasions.evasions c.loop-evasion.evasion-index
    c.evasion-item.result c.requires.same c.requires.walk
    (read_at c.args.walk.now.entries.items c.args.place c.index-entry.result.now c.requires.place c.index-entry.ensures) c.apply-checked.ensures.position c.apply-next.ensures.position
    c.in_ok-evasions.ensures c.as_slice-evasion-items.ensures.moves (omega arith) c.evasion-item.is c.apply-next.ensures.quiet
    c.apply-checked.ensures.kings c.apply-next.ensures.kings

pub apply-next-requires-clause-legal : goal.apply-next-requires-clause-legal
apply-next-requires-clause-legal c =
    (item_at (IsEvasion c.args.problem.now.position.side c.apply-checked.result) c.as_slice-evasion-items.result.now c.in_ok-evasions.evasions
    c.in_ok-evasions.ensures c.as_slice-evasion-items.ensures.moves c.loop-evasion.evasion-index c.evasion-item.result (omega arith) c.evasion-item.is).legal

pub returns-in_err-takes_place-clause-too_many : goal.returns-in_err-takes_place-clause-too_many
returns-in_err-takes_place-clause-too_many c =
    let k = known_of c.args.facts.now in
    let p = c.args.problem.now.position in
    let entries = c.loop-evasion.walk.entries.items in
    let walks = c.loop-evasion.invariant.walks in
    ended (IsEndFor (IsMateStep k) p c.args.most) c.from_residual-in_err-takes_place.result c.in_err-takes_place.field-0.0
    c.from_residual-in_err-takes_place.ensures.0 c.from_residual-in_err-takes_place.ensures.1
    (mate_full k p c.apply-next.result c.args.most c.loop-evasion.walk walks
    (next (goal.at.returns-in_err-takes_place-clause-too_many c).After-apply-next) c.in_err-takes_place.field-0.0
    (c.in_err-takes_place.ensures.no_place (positions_of entries) walks.placed (let many = as_many entries in omega (arith, many))))

pub entry_of-requires-clause-turn : goal.entry_of-requires-clause-turn
entry_of-requires-clause-turn c = (next (goal.at.entry_of-requires-clause-turn c).After-apply-next).is_entry.side ∙ sym c.requires.same

pub entry_of-requires-clause-known : goal.entry_of-requires-clause-known
entry_of-requires-clause-known c = (next (goal.at.entry_of-requires-clause-known c).After-apply-next).low

pub loop-evasion-preserved : goal.loop-evasion-preserved
loop-evasion-preserved c =
    let k = known_of c.args.facts.now in
    let p = c.args.problem.now.position in
    let old = c.loop-evasion.walk in
    let items = c.as_slice-evasion-items.result.now in
    let here = read_at items c.loop-evasion.evasion-index c.evasion-item.result (omega arith) c.evasion-item.is in
    let following : MateWalk → Type 0 =
    λ walk. IsFollowing k p c.args.most c.args.walk.now.entries.items walk c.apply-checked.result items (c.loop-evasion.evasion-index + 1) in
    let placed = c.in_ok-takes_place.ensures.placed (positions_of old.entries.items) c.loop-evasion.invariant.walks.placed
    (let many = as_many old.entries.items in omega (arith, many)) in
    elim c.if-branch.branch [
      | then-branch+in_ok-push w ↦
          subst following (sym w.walk-is)
          (following_new k p c.args.most c.args.walk.now.entries.items old c.apply-checked.result items c.loop-evasion.evasion-index
          c.loop-evasion.invariant c.evasion-item.result here c.apply-next.result c.apply-next.ensures.position _ w.entry_of.result
          (next (goal.at.loop-evasion-preserved c).After-apply-next)
          (record {
            at = w.entry_of.ensures.at;
            kept = w.entry_of.ensures.kept;
            rank = w.entry_of.ensures.rank;
            by = w.entry_of.ensures.by;
            mates = w.entry_of.ensures.mates;
          })
          (subst (λ (b : Bool). IsPlaced c.takes_place.new.places (positions_of old.entries.items) c.apply-next.result c.args.most b) w.if-branch.true placed)
          w.in_ok-push.ensures.items)
      | else-branch w ↦
          subst following (sym w.walk-is)
          (following_old k p c.args.most c.args.walk.now.entries.items old c.apply-checked.result items c.loop-evasion.evasion-index
          c.loop-evasion.invariant c.evasion-item.result here c.apply-next.result c.apply-next.ensures.position _
          (subst (λ (b : Bool). IsPlaced c.takes_place.new.places (positions_of old.entries.items) c.apply-next.result c.args.most b) w.if-branch.false placed)
          refl)
    ]

pub returns-clause-followed : goal.returns-clause-followed
returns-clause-followed c =
    followed_all (known_of c.args.facts.now) c.args.problem.now.position c.args.most c.args.walk.now.entries.items c.loop-evasion.walk c.args.place
    c.index-entry.result.now c.apply-checked.result c.as_slice-evasion-items.result.now c.in_ok-evasions.evasions c.loop-evasion.evasion-index
    c.requires.same (read_at c.args.walk.now.entries.items c.args.place c.index-entry.result.now c.requires.place c.index-entry.ensures)
    c.apply-checked.ensures.position c.in_ok-evasions.ensures c.as_slice-evasion-items.ensures.moves (omega arith) c.apply-checked.ensures.has_text
    c.loop-evasion.invariant
