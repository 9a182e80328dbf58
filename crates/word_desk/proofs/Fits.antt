-- How large the words are, and what one view has of all.
use Rattle.std.proofs.Common.{◌≡◌, ℕ, zero, suc, ◌+◌, ◌^◌, ◌<◌, List, [], ◌∷◌, slice_index, sym, refl, ap, ◌∙◌, arith}
use Rattle.std.specs.Prelude.{All, sum_by}
use Rattle.std.proofs.lemmas.List.Sums.{sum_by-cons}
use Rattle.std.proofs.lemmas.List.Elements.{All-head, All-tail, All-weaker}
use mathlib.Core.Option.{some, some-ne-none, some-injective}
use lib.ListN.{get_elem?}
use Rattle.search_limits.specs.declared.expansions.TheConstants.{MOST_EXPANSIONS}
use Rattle.search_limits.specs.declared.settings.TheConstants.{MOST_ROOM}
use Rattle.word_desk.specs.declared.view.View.{View}
use Rattle.word_desk.specs.Rule.{AreFew, spent, IsFit, IsKept}
use Rattle.view_sums.proofs.Views.{sum_by-at}
use Rattle.word_desk.proofs.Views.{sum_by-le-all}
use Rattle.word_desk.proofs.Sums.{above, within, to_above, to_within}

-- what the numbers that a view drew or missed weigh, and those that it claimed
abbrev pub drawn_weight : (ℕ → ℕ) → View → ℕ
drawn_weight weight v = sum_by weight v.drawn + sum_by weight v.missed

abbrev pub claimed_weight : (ℕ → ℕ) → View → ℕ
claimed_weight weight v = sum_by weight v.claimed

-- there are few tickets
pub few_tickets : (words : List ℕ) (views : List View) (k : IsKept words views) → k.tickets < 2 ^ 31
few_tickets words views k =
    let a = to_above MOST_EXPANSIONS k.tickets in
    let b = k.draws (above MOST_EXPANSIONS) in
    let c = sum_by-le-all (IsFit k.winners) (drawn_weight (above MOST_EXPANSIONS)) (λ v. v.parts) (λ v f. f.draws) views k.fit in
    let d = k.parts in
    omega (arith, a, b, c, d)

-- there are few claims
pub few_claims : (words : List ℕ) (views : List View) (k : IsKept words views) → slice_index words 1 < 2 ^ 31
few_claims words views k =
    let a = to_above MOST_ROOM (slice_index words 1) in
    let b = k.claims (above MOST_ROOM) in
    let c = sum_by-le-all (IsFit k.winners) (claimed_weight (above MOST_ROOM)) (λ v. v.parts) (λ v f. f.claims) views k.fit in
    let d = k.parts in
    omega (arith, a, b, c, d)

-- a view has few numbers
pub drawn_few : (words : List ℕ) (views : List View) (id : ℕ) (v : View) → IsKept words views → get_elem? views id ≡ some v → AreFew v.drawn
drawn_few words views id v k at limit =
    let all = k.draws (within limit) in
    let one = sum_by-at (drawn_weight (within limit)) views id v at in
    let most = (to_within limit k.tickets).1 in
    omega (arith, all, one, most)

pub claimed_few : (words : List ℕ) (views : List View) (id : ℕ) (v : View) → IsKept words views → get_elem? views id ≡ some v → AreFew v.claimed
claimed_few words views id v k at limit =
    let all = k.claims (within limit) in
    let one = sum_by-at (claimed_weight (within limit)) views id v at in
    let most = (to_within limit (slice_index words 1)).1 in
    omega (arith, all, one, most)

-- where the views have no part, they have nothing
idle_sum : (f : View → ℕ) (winners : ℕ) → f spent ≡ 0 → (views : List View) → All (IsFit winners) views → sum_by (λ v. v.parts) views ≡ 0 → sum_by f views ≡ 0
idle_sum f winners nothing [] fit e = refl
idle_sum f winners nothing (v ∷ vs) fit e =
    let counts = sum_by-cons f v vs in
    let parts = sum_by-cons (λ (u : View). u.parts) v vs in
    let here : f v ≡ 0 = ap f ((All-head (IsFit winners) v vs fit).part (omega (arith, parts, e))) ∙ nothing in
    let others = idle_sum f winners nothing vs (All-tail (IsFit winners) v vs fit) (omega (arith, parts, e)) in
    omega (arith, counts, here, others)

-- where one view has all parts, it has all
pub alone : (f : View → ℕ) (winners : ℕ) → f spent ≡ 0 → (views : List View) (id : ℕ) (v : View) → All (IsFit winners) views → get_elem? views id ≡ some v → sum_by (λ u. u.parts) views ≡ v.parts
    → sum_by f views ≡ f v
alone f winners nothing [] id v fit at e = absurd (some-ne-none v (sym at))
alone f winners nothing (x ∷ xs) zero v fit at e =
    let is : x ≡ v = some-injective x v at in
    let same_parts : x.parts ≡ v.parts = ap (λ (u : View). u.parts) is in
    let same : f x ≡ f v = ap f is in
    let counts = sum_by-cons f x xs in
    let parts = sum_by-cons (λ (u : View). u.parts) x xs in
    let others = idle_sum f winners nothing xs (All-tail (IsFit winners) x xs fit) (omega (arith, e, same_parts, parts)) in
    omega (arith, counts, same, others)
alone f winners nothing (x ∷ xs) (suc id) v fit at e =
    let counts = sum_by-cons f x xs in
    let parts = sum_by-cons (λ (u : View). u.parts) x xs in
    let most = sum_by-at (λ (u : View). u.parts) xs id v at in
    let here : f x ≡ 0 = ap f ((All-head (IsFit winners) x xs fit).part (omega (arith, e, parts, most))) ∙ nothing in
    let others = alone f winners nothing xs id v (All-tail (IsFit winners) x xs fit) at (omega (arith, e, parts, most)) in
    omega (arith, counts, here, others)

-- a win keeps what fits
pub fit_more : (winners : ℕ) (views : List View) → All (IsFit winners) views → All (IsFit 1) views
fit_more winners views = All-weaker (IsFit winners) (IsFit 1) (λ v f. record {
  draws = f.draws;
  claims = f.claims;
  met = λ _. refl;
  missed = λ e. absurd (omega (arith, e));
  part = f.part;
}) views
