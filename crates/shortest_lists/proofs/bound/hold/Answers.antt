use Rattle.std.proofs.Common.{◌<◌, sym, subst, arith}
use Rattle.std.proofs.lemmas.Option.{slice_get_within}
use Rattle.shogi_rules.specs.Tsume.{IsCheck}
use Rattle.bit_boards.specs.declared.piece.Side.{Side}
use Rattle.bound_text.specs.declared.entry.BoundEntry.{BoundEntry}
use Rattle.bound_check.specs.Valid.{IsHeld}
use Rattle.shortest_facts.specs.Keys.{known_of}
use Rattle.shortest_lists.proofs.Putting.{read_at, at_only, item_at}
use Rattle.shortest_lists.proofs.Bounds.{listed, held_at_one, answered_more, held_all}
use Rattle.shortest_lists.proofs.bound.hold.Goals as goal

pub returns-then-entry-eq1-clause-held : goal.returns-then-entry-eq1-clause-held
returns-then-entry-eq1-clause-held c =
    let k = known_of c.args.facts.now in
    let p = c.args.problem.now.position in
    let begun = c.args.walk.now.entries.items in
    let here = c.index-entry.result.now in
    let at = read_at begun c.args.place here c.requires.place c.index-entry.ensures in
    at_only (IsHeld begun k.attacker) begun c.args.place here at
    (held_at_one k p c.args.most c.args.place c.args.walk.now c.requires.same c.requires.borne_out c.requires.walk here at c.if-entry-eq1.true begun)

pub checks-requires : goal.checks-requires
checks-requires c =
    let k = known_of c.args.facts.now in
    let p = c.args.problem.now.position in
    let begun = c.args.walk.now.entries.items in
    let here = c.index-entry.result.now in
    let at = read_at begun c.args.place here c.requires.place c.index-entry.ensures in
    (listed k p c.args.most c.args.place c.args.walk.now c.requires.same c.requires.borne_out c.requires.walk here at).is_entry.is_problem.quiet

pub answer-requires-clause-place : goal.answer-requires-clause-place
answer-requires-clause-place c =
    let k = known_of c.args.facts.now in
    let p = c.args.problem.now.position in
    let begun = c.args.walk.now.entries.items in
    let here = c.index-entry.result.now in
    let at = read_at begun c.args.place here c.requires.place c.index-entry.ensures in
    slice_get_within c.loop-check.walk.entries.items c.args.place here (c.loop-check.invariant.stand c.args.place here at)

pub answer-requires-clause-above : goal.answer-requires-clause-above
answer-requires-clause-above c =
    let k = known_of c.args.facts.now in
    let p = c.args.problem.now.position in
    let begun = c.args.walk.now.entries.items in
    let here = c.index-entry.result.now in
    let at = read_at begun c.args.place here c.requires.place c.index-entry.ensures in
    at_only (λ (entry : BoundEntry). 1 < entry.bound.number) c.loop-check.walk.entries.items c.args.place here
    (c.loop-check.invariant.stand c.args.place here at)
    (let some = here.bound.some in let other = c.if-entry-eq1.false in omega (arith, some, other))

pub answer-requires-clause-is_check : goal.answer-requires-clause-is_check
answer-requires-clause-is_check c =
    let k = known_of c.args.facts.now in
    let p = c.args.problem.now.position in
    let begun = c.args.walk.now.entries.items in
    let here = c.index-entry.result.now in
    let at = read_at begun c.args.place here c.requires.place c.index-entry.ensures in
    at_only (λ (entry : BoundEntry). IsCheck k.attacker entry.at c.check-item.result) c.loop-check.walk.entries.items c.args.place here
    (c.loop-check.invariant.stand c.args.place here at)
    (subst (λ (side : Side). IsCheck side here.at c.check-item.result) (sym c.requires.same)
    (item_at (IsCheck p.side here.at) c.as_slice-check-items.result.now c.in_ok-checks.checks
    c.in_ok-checks.ensures c.as_slice-check-items.ensures.moves c.loop-check.check-index c.check-item.result (omega arith) c.check-item.is))

pub loop-check-preserved : goal.loop-check-preserved
loop-check-preserved c =
    answered_more (known_of c.args.facts.now) c.args.problem.now.position c.args.most c.args.place c.args.walk.now.entries.items c.loop-check.walk
    c.answer.new.walk c.as_slice-check-items.result.now c.loop-check.check-index c.check-item.result c.loop-check.invariant
    (read_at c.as_slice-check-items.result.now c.loop-check.check-index c.check-item.result (omega arith) c.check-item.is)
    c.in_ok-answer.ensures.walk c.in_ok-answer.ensures.stand c.in_ok-answer.ensures.answered

pub returns-clause-held : goal.returns-clause-held
returns-clause-held c =
    let k = known_of c.args.facts.now in
    let p = c.args.problem.now.position in
    let begun = c.args.walk.now.entries.items in
    let here = c.index-entry.result.now in
    let at = read_at begun c.args.place here c.requires.place c.index-entry.ensures in
    held_all k p c.args.most c.args.place begun c.loop-check.walk c.as_slice-check-items.result.now c.in_ok-checks.checks c.loop-check.check-index here
    c.requires.same at c.in_ok-checks.ensures c.as_slice-check-items.ensures.moves (omega arith) c.loop-check.invariant
