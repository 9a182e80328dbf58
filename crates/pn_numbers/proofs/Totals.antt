-- What the least and the sum over the children tell of them.
use Rattle.std.proofs.Common.{◌≡◌, ◌≤◌, ◌==◌, inl, inr, ℕ, List, [], ◌∷◌, Bool, true, false, All, min, arith, refl, sym, ◌∙◌, eq-eqb, lit≤}
use Rattle.std.specs.List.{fold, sum_by, list_any, list_all}
use Rattle.std.proofs.lemmas.Bool.{cases_Bool, eqb-true, eqb-false, or_parts, or_cases, and_cases}
use Rattle.std.proofs.lemmas.List.Folds.{sum_by-zero}
use Rattle.std.proofs.lemmas.List.Elements.{All-head, All-tail}
use Rattle.pn_numbers.specs.declared.node.Node.{Node}
use Rattle.pn_numbers.specs.declared.node.Node.TheVariants.{Attacker, Defender}
use Rattle.pn_numbers.specs.declared.numbers.Numbers.{Numbers}
use Rattle.pn_numbers.specs.declared.numbers.TheConstants.{CAP, INFINITE}
use Rattle.pn_numbers.specs.Node.{minimized_number, summed_number, numbers_with}
use Rattle.pn_numbers.specs.Numbers.{IsNumbers}
use Rattle.pn_numbers.specs.Combined.{is_won, is_lost, least_of, sum_of, numbers_at}

-- 1. THE LEAST OF SOME NUMBERS, from one that is told on.

abbrev least_from : (Numbers → ℕ) → ℕ → List Numbers → ℕ
least_from f low xs = fold (λ least child. min least (f child)) low xs

abbrev some_zero : (Numbers → ℕ) → List Numbers → Bool
some_zero f xs = list_any (λ child. f child == 0) xs

least_below : (f : Numbers → ℕ) (low : ℕ) (xs : List Numbers) → least_from f low xs ≤ low
least_below f low [] = omega arith
least_below f low (x ∷ xs) = omega (arith, least_below f (min low (f x)) xs)

least_above : (f : Numbers → ℕ) (low : ℕ) (xs : List Numbers) → 1 ≤ low → some_zero f xs ≡ false → 1 ≤ least_from f low xs
least_above f low [] above none = above
least_above f low (x ∷ xs) above none =
    let parts = or_parts (f x == 0) (some_zero f xs) none in
    let positive : 1 ≤ f x = let e = eqb-false (f x) 0 parts.0 in omega (arith, e) in
    least_above f (min low (f x)) xs (omega (arith, above, positive)) parts.1

least_zero : (f : Numbers → ℕ) (low : ℕ) (xs : List Numbers) → some_zero f xs ≡ true → least_from f low xs ≡ 0
least_zero f low [] some = absurd (cc)
least_zero f low (x ∷ xs) some = elim (or_cases (f x == 0) (some_zero f xs) some) [
  | inl here ↦ let e = eqb-true (f x) 0 here in let b = least_below f (min low (f x)) xs in omega (arith, e, b)
  | inr there ↦ least_zero f (min low (f x)) xs there
]

-- 2. A NODE'S NUMBERS.

pub at_won : (node : Node) (xs : List Numbers) → least_of node xs ≡ 0 → numbers_with node 0 INFINITE ≡ numbers_at node xs
at_won node xs zero = elim (cases_Bool (list_any (is_won node) xs)) [
  | inl won ↦ rw won refl
  | inr none ↦ absurd (let up = least_above (minimized_number node) INFINITE xs (lit≤ tt) none in omega (arith, up, zero))
]

none_won : (node : Node) (xs : List Numbers) → 1 ≤ least_of node xs → list_any (is_won node) xs ≡ false
none_won node xs up = elim (cases_Bool (list_any (is_won node) xs)) [
  | inl won ↦ absurd (let down = least_zero (minimized_number node) INFINITE xs won in omega (arith, up, down))
  | inr none ↦ none
]

all_lost : (node : Node) (xs : List Numbers) → sum_of node xs ≡ 0 → list_all (is_lost node) xs ≡ true
all_lost node xs zero = sym (sum_by-zero (summed_number node) xs) ∙ eq-eqb (sum_by (summed_number node) xs) 0 (omega (arith, zero))

some_summed : (node : Node) (xs : List Numbers) → list_all (is_lost node) xs ≡ false → 1 ≤ sum_of node xs
some_summed node xs some =
    let e = eqb-false (sum_by (summed_number node) xs) 0 (sum_by-zero (summed_number node) xs ∙ some) in omega (arith, e)

pub at_lost : (node : Node) (xs : List Numbers) → 1 ≤ least_of node xs → sum_of node xs ≡ 0 → numbers_with node INFINITE 0 ≡ numbers_at node xs
at_lost node xs up zero = let none = none_won node xs up in let all = all_lost node xs zero in rw (none, all) refl

pub at_open : (node : Node) (xs : List Numbers) → 1 ≤ least_of node xs → 1 ≤ sum_of node xs
    → numbers_with node (least_of node xs) (sum_of node xs) ≡ numbers_at node xs
at_open node xs up some = elim (cases_Bool (list_all (is_lost node) xs)) [
  | inl all ↦ absurd (let e = eqb-true (sum_by (summed_number node) xs) 0 (sum_by-zero (summed_number node) xs ∙ all) in omega (arith, some, e))
  | inr open_ones ↦ let none = none_won node xs up in rw (none, open_ones) refl
]

-- 3. NUMBERS OF A NODE AGAIN.

capped : (node : Node) (child : Numbers) → IsNumbers child → 1 ≤ minimized_number node child → 1 ≤ summed_number node child → minimized_number node child ≤ CAP
capped Attacker child (inl proved) some more = absurd (omega (arith, proved.pn, some))
capped Attacker child (inr (inl disproved)) some more = absurd (omega (arith, disproved.dn, more))
capped Attacker child (inr (inr undecided)) some more = undecided.most_pn
capped Defender child (inl proved) some more = absurd (omega (arith, proved.pn, more))
capped Defender child (inr (inl disproved)) some more = absurd (omega (arith, disproved.dn, some))
capped Defender child (inr (inr undecided)) some more = undecided.most_dn

least_capped : (node : Node) (low : ℕ) (xs : List Numbers) → All IsNumbers xs → some_zero (minimized_number node) xs ≡ false
    → list_all (is_lost node) xs ≡ false → least_from (minimized_number node) low xs ≤ CAP
least_capped node low [] all none some = absurd (cc)
least_capped node low (x ∷ xs) all none some =
    let parts = or_parts (is_won node x) (some_zero (minimized_number node) xs) none in
    elim (and_cases (is_lost node x) (list_all (is_lost node) xs) some) [
      | inl here ↦
          let m = eqb-false (minimized_number node x) 0 parts.0 in let s = eqb-false (summed_number node x) 0 here in
          let c = capped node x (All-head IsNumbers x xs all) (omega (arith, m)) (omega (arith, s)) in
          let b = least_below (minimized_number node) (min low (minimized_number node x)) xs in omega (arith, c, b)
      | inr there ↦ least_capped node (min low (minimized_number node x)) xs (All-tail IsNumbers x xs all) parts.1 there
    ]

won_numbers : (node : Node) → IsNumbers (numbers_with node 0 INFINITE)
won_numbers Attacker = inl (record { pn = refl; dn = refl })
won_numbers Defender = inr (inl (record { pn = refl; dn = refl }))

lost_numbers : (node : Node) → IsNumbers (numbers_with node INFINITE 0)
lost_numbers Attacker = inr (inl (record { pn = refl; dn = refl }))
lost_numbers Defender = inl (record { pn = refl; dn = refl })

open_numbers : (node : Node) (a b : ℕ) → 1 ≤ a → a ≤ CAP → 1 ≤ b → b ≤ CAP → IsNumbers (numbers_with node a b)
open_numbers Attacker a b la ma lb mb = inr (inr (record { least_pn = la; most_pn = ma; least_dn = lb; most_dn = mb }))
open_numbers Defender a b la ma lb mb = inr (inr (record { least_pn = lb; most_pn = mb; least_dn = la; most_dn = ma }))

pub numbers_again : (node : Node) (xs : List Numbers) → All IsNumbers xs → IsNumbers (numbers_at node xs)
numbers_again node xs all = elim (cases_Bool (list_any (is_won node) xs)) [
  | inl won ↦ rw won (won_numbers node)
  | inr none ↦ elim (cases_Bool (list_all (is_lost node) xs)) [
    | inl lost ↦ rw (none, lost) (lost_numbers node)
    | inr some ↦ rw (none, some) (open_numbers node (least_of node xs) (sum_of node xs)
        (least_above (minimized_number node) INFINITE xs (lit≤ tt) none)
        (least_capped node INFINITE xs all none some)
        (some_summed node xs some)
        (omega arith))
  ]
]
