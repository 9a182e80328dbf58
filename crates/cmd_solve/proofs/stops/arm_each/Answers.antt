use Rattle.std.proofs.Common.{◌≡◌, ◌<◌, ℕ, zero, suc, List, [], ◌∷◌, refl, ap, ap₂, subst, map, length, get_or, take, drop, set, arith, add-one}
use Rattle.search_gate.specs.Stop.{armed_with}
use Rattle.cmd_solve.proofs.stops.arm_each.Goals as goal

-- One more of the list is changed, and what is told of each so far is as it has to be.
one_more_told : {A S : Type 0} (tells should : A → S) (now first : List A) (i : ℕ) (one changed : A)
    → map tells (take i now) ≡ map should (take i first) → drop i now ≡ drop i first → i < length now → tells changed ≡ should (get_or now i one)
    → (map tells (take (suc i) (set now i changed)) ≡ map should (take (suc i) first)) × (drop (suc i) (set now i changed) ≡ drop (suc i) first)
one_more_told tells should [] first i one changed told rest within is = absurd (omega arith)
one_more_told {A} tells should (x ∷ now) first zero one changed told rest within is =
    let P : List A → Type 0 = λ q. (tells changed ∷ [] ≡ map should (take 1 q)) × (now ≡ drop 1 q) in
    subst P rest (ap (λ s. s ∷ []) is, refl)
one_more_told tells should (x ∷ now) [] (suc i) one changed told rest within is = absurd cc
one_more_told tells should (x ∷ now) (o ∷ first) (suc i) one changed told rest within is =
    let head : tells x ≡ should o = cc in
    let tail : map tells (take i now) ≡ map should (take i first) = cc in
    let more = one_more_told tells should now first i one changed tail rest (omega arith) is in
    (ap₂ (λ s t. s ∷ t) head more.0, more.1)

pub loop-stop-preserved : goal.loop-stop-preserved
loop-stop-preserved g c =
    rw add-one
    (one_more_told g.T.Stop.signal (λ stop. armed_with (g.T.Stop.signal stop) c.args.after_ms) c.loop-stop.stops c.args.stops.now c.loop-stop.stop-index
    c.stop-item.result c.arm.new.self c.loop-stop.invariant.0 c.loop-stop.invariant.1 (omega arith) c.arm.ensures)
