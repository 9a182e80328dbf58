use Rattle.std.proofs.Common.{◌≡◌, ◌<◌, ◌≤◌, ◌+◌, List, ℕ, length, get_or, refl, arith, subst, Option}
use Rattle.std.specs.Prelude.{Some, slice_get}
use Rattle.std.proofs.lemmas.Option.{slice_get_read}
use Rattle.list_laws.proofs.Standing.{item_of, more}
use Rattle.board_core.specs.declared.moves.Move.{Move}
use Rattle.bound_text.specs.declared.entry.BoundEntry.{BoundEntry}
use Rattle.bound_check.specs.Valid.{IsListedFrom, IsHeld}
use Rattle.bound_check.specs.Reasons.{IsRootMissing, IsFirstUnkept}
use Rattle.bound_check.proofs.Verdicts.{refused_root, refused_at, accepted}
use Rattle.bound_check.proofs.verdict.verdict_on.Goals as goal

-- what stands at a place of the items stands there in the list that they are
stands : (items entries : List BoundEntry) (place : ℕ) (entry : BoundEntry) → items ≡ entries → place < length items → entry ≡ get_or items place entry
    → slice_get entries place ≡ Some entry
stands items entries place entry same inside is =
    subst (λ (es : List BoundEntry). slice_get es place ≡ Some entry) same (slice_get_read items (length items) place entry refl inside is)

pub returns-then-not-lists_root : goal.returns-then-not-lists_root
returns-then-not-lists_root c =
    let missing = subst (λ (es : List BoundEntry). IsRootMissing es c.args.problem.now.position c.args.within) c.entries-entries.ensures.entries
    (c.lists_root.ensures.no c.if-not-lists_root.true) in
    refused_root c.args.bound.now.entries c.args.problem.now.position c.args.within missing.some missing.missing

pub first_unkept-requires-clause-quiet : goal.first_unkept-requires-clause-quiet
first_unkept-requires-clause-quiet c =
    (c.entries-entries.ensures.kept.listed c.index-entries-place.result
    (item_of c.entries-entries.result.now c.args.bound.now.entries c.loop-place.place c.index-entries-place.result c.entries-entries.ensures.entries (omega arith)
    c.index-entries-place.is)).is_problem.quiet

pub returns-in-Some : goal.returns-in-Some
returns-in-Some c =
    refused_at c.args.bound.now.entries c.args.problem.now.position c.args.within c.loop-place.place (c.loop-place.place + 1) c.index-entries-place.result
    c.in-Some.check (omega arith)
    (subst (λ (es : List BoundEntry). 0 < c.args.within → IsListedFrom es c.args.within c.args.problem.now.position) c.entries-entries.ensures.entries
    (c.lists_root.ensures.yes c.if-not-lists_root.false))
    (stands c.entries-entries.result.now c.args.bound.now.entries c.loop-place.place c.index-entries-place.result c.entries-entries.ensures.entries (omega arith)
    c.index-entries-place.is)
    c.loop-place.invariant
    (subst (λ (es : List BoundEntry). IsFirstUnkept es c.args.problem.now.position.side c.index-entries-place.result (Some c.in-Some.check))
    c.entries-entries.ensures.entries
    (subst (λ (o : Option Move). IsFirstUnkept c.entries-entries.result.now c.args.problem.now.position.side c.index-entries-place.result o)
    c.in-Some.is c.in_ok-check.ensures))

pub loop-place-preserved : goal.loop-place-preserved
loop-place-preserved c =
    more (IsHeld c.args.bound.now.entries c.args.problem.now.position.side) c.args.bound.now.entries c.loop-place.place c.index-entries-place.result
    (stands c.entries-entries.result.now c.args.bound.now.entries c.loop-place.place c.index-entries-place.result c.entries-entries.ensures.entries (omega arith)
    c.index-entries-place.is)
    (subst (λ (es : List BoundEntry). IsHeld es c.args.problem.now.position.side c.index-entries-place.result) c.entries-entries.ensures.entries
    (subst (λ (o : Option Move). IsFirstUnkept c.entries-entries.result.now c.args.problem.now.position.side c.index-entries-place.result o)
    c.in_default.is c.in_ok-check.ensures))
    c.loop-place.invariant

pub returns : goal.returns
returns c =
    accepted c.args.bound.now.entries c.args.problem.now.position c.args.within (length c.entries-entries.result.now)
    (subst (λ (es : List BoundEntry). 0 < c.args.within → IsListedFrom es c.args.within c.args.problem.now.position) c.entries-entries.ensures.entries
    (c.lists_root.ensures.yes c.if-not-lists_root.false))
    (subst (λ (es : List BoundEntry). length es ≤ length c.entries-entries.result.now) c.entries-entries.ensures.entries (omega arith))
    (λ k e below at. c.loop-place.invariant k e (omega arith) at)
