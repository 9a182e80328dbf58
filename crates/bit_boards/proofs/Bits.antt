-- One bit of a number as a test, through each operation.
use Rattle.std.proofs.Common.{◌≡◌, ℕ, suc, ◌+◌, ◌-◌, ◌*◌, ◌/◌, ◌%◌, ◌^◌, ◌<◌, ◌≤◌, min, max, Bool, true, false, not, nat_lt, ◌&&◌, ◌||◌, ◌==◌, inl, inr, ◌↔◌, refl, sym, ap, ◌∙◌, subst, arith, eq-eqb, ne_eqb}
use Rattle.std.specs.Int.{bit_at, bit_not, trailing_zeros, w128}
use Rattle.std.specs.Prelude.{bit_and, bit_or, bit_xor}
use Rattle.std.proofs.lemmas.Nat.{one_shl, pow_pos, pow_below, div-add-mod'}
use Rattle.std.proofs.lemmas.Nat.Bits.{bit_at_and, bit_at_or, bit_at_xor, ones_shl, bit_at_mask_below, bit_at_mask_inside, bit_at_not, bit_at-lt, bit_at-pow_same, bit_at-pow_other, bit_at_above, bit_at_ones, bit_at_ones_above, bit_at_cat_low, bit_at_cat_high, bit_at-zero, same_from_bits_below, bit_at-trailing_zeros}
use Rattle.std.proofs.lemmas.Bool.{cases_eq, cases_lt, lt-ltb, le-ltb, both_ways, eqb-true, and_parts, and_from, or_parts}
use Rattle.std.proofs.Math.Pow.{pow_mono}
use Rattle.std.proofs.Math.Nat.{pow-suc, div-eq_of_lt-le}

-- whether a bit is set
abbrev pub set : ℕ → ℕ → Bool
set n i = bit_at n i == 1

two : (P : ℕ → Type 0) → P 0 → P 1 → (x : ℕ) → x < 2 → P x
two P p q x h = elim (cases_eq x 0) [
  | inl none ↦ subst P (sym none) p
  | inr some ↦ let one : 1 ≡ x = omega arith in subst P one q
]

both : (P : ℕ → ℕ → Type 0) → P 0 0 → P 0 1 → P 1 0 → P 1 1 → (a b i : ℕ) → P (bit_at a i) (bit_at b i)
both P p q r s a b i =
    two (λ x. P x (bit_at b i)) (two (P 0) p q (bit_at b i) (bit_at-lt b i)) (two (P 1) r s (bit_at b i) (bit_at-lt b i)) (bit_at a i) (bit_at-lt a i)

pub set_and : (a b i : ℕ) → set (bit_and a b) i ≡ (set a i && set b i)
set_and a b i = ap (λ n. n == 1) (bit_at_and a b i) ∙ both (λ x y. (min x y == 1) ≡ ((x == 1) && (y == 1))) refl refl refl refl a b i

pub set_or : (a b i : ℕ) → set (bit_or a b) i ≡ (set a i || set b i)
set_or a b i = ap (λ n. n == 1) (bit_at_or a b i) ∙ both (λ x y. (max x y == 1) ≡ ((x == 1) || (y == 1))) refl refl refl refl a b i

set_not : (a i : ℕ) → a < 2 ^ 128 → i < 128 → set (bit_not w128 a) i ≡ not (set a i)
set_not a i ha hi = ap (λ n. n == 1) (bit_at_not w128 a i ha hi) ∙ two (λ x. ((1 - x) == 1) ≡ not (x == 1)) refl refl (bit_at a i) (bit_at-lt a i)

pub set_above : (n i : ℕ) → n < 2 ^ 81 → 81 ≤ i → set n i ≡ false
set_above n i small above = ap (λ x. x == 1) (bit_at_above n 81 i small above)

pub set_zero : (i : ℕ) → set 0 i ≡ false
set_zero i = ap (λ x. x == 1) (bit_at-zero i)

pub set_full : (i : ℕ) → set (2 ^ 81 - 1) i ≡ nat_lt i 81
set_full i = elim (cases_lt i 81) [
  | inl lt ↦ ap (λ x. x == 1) (bit_at_ones 81 i lt) ∙ sym (lt-ltb i 81 lt)
  | inr ge ↦ ap (λ x. x == 1) (bit_at_ones_above 81 i ge) ∙ sym (le-ltb i 81 ge)
]

set_pow : (k i : ℕ) → set (2 ^ k) i ≡ (i == k)
set_pow k i = elim (cases_eq i k) [
  | inl same ↦ rw (same, eq-eqb k k refl) (ap (λ x. x == 1) (bit_at-pow_same k))
  | inr other ↦ rw (ne_eqb i k other) (ap (λ x. x == 1) (bit_at-pow_other k i other))
]

-- `1 << k`
pub set_one : (k i : ℕ) → k < 81 → set (1 * 2 ^ k % 2 ^ 128) i ≡ (i == k)
set_one k i h = ap (λ x. set x i) (one_shl k 128 (omega arith)) ∙ set_pow k i

-- `a & !b`
pub set_minus : (a b i : ℕ) → a < 2 ^ 81 → b < 2 ^ 128 → set (bit_and a (bit_not w128 b)) i ≡ (set a i && not (set b i))
set_minus a b i ha hb = set_and a (bit_not w128 b) i ∙ (elim (cases_lt i 81) [
  | inl lt ↦ ap (λ x. set a i && x) (set_not b i hb (omega arith))
  | inr ge ↦ rw (set_above a i ha ge) refl
])

pub one_small : (k : ℕ) → k < 81 → 1 * 2 ^ k % 2 ^ 128 < 2 ^ 81
one_small k h = rw (one_shl k 128 (omega arith)) (pow_below k 81 h)

mod_below : (n k : ℕ) → n % 2 ^ k < 2 ^ k
mod_below n k = let p = pow_pos k in omega arith

once : (n p : ℕ) → p ≤ n → n < 2 * p → n / p ≡ 1
once n p low high = div-eq_of_lt-le {k = 1} p {m = n} (omega arith) (omega arith)

and_self : (b : Bool) → (b && b) ≡ (b && true)
and_self true = refl
and_self false = refl

-- t is the place of the lowest set bit
pub record IsLowest (n t : ℕ) : Type 0 where
  pub here : bit_at n t ≡ 1
  pub below : (i : ℕ) → i < t → bit_at n i ≡ 0

pub lowest : (n : ℕ) → 0 < n → n < 2 ^ 81 → IsLowest n (trailing_zeros w128 n)
lowest n some small =
    let wide : n < 2 ^ 128 = omega arith in
    let t = bit_at-trailing_zeros w128 n some wide in
    record { here = t.1; below = t.2 }

low_part : (n t : ℕ) → IsLowest n t → n % 2 ^ suc t ≡ 2 ^ t
low_part n t l =
    let p = pow_pos (suc t) in
    let cut : n / 2 ^ suc t * 2 ^ suc t + n % 2 ^ suc t ≡ n = div-add-mod' n (2 ^ suc t) in
    let bits : (i : ℕ) → i < suc t → bit_at (n % 2 ^ suc t) i ≡ bit_at (2 ^ t) i =
    λ i within. sym (bit_at_cat_low (n / 2 ^ suc t) (suc t) (n % 2 ^ suc t) i within) ∙ (ap (λ x. bit_at x i) cut ∙ (elim (cases_eq i t) [
      | inl same ↦ rw same (l.here ∙ sym (bit_at-pow_same t))
      | inr other ↦ l.below i (omega arith) ∙ sym (bit_at-pow_other t i other)
    ])) in
    same_from_bits_below (suc t) (n % 2 ^ suc t) (2 ^ t) (mod_below n (suc t)) (pow_below t (suc t) (omega arith)) bits

pub split : (n t : ℕ) → IsLowest n t → n ≡ n / 2 ^ suc t * 2 ^ suc t + 2 ^ t
split n t l = sym (div-add-mod' n (2 ^ suc t)) ∙ ap (λ x. n / 2 ^ suc t * 2 ^ suc t + x) (low_part n t l)

less_one : (n t : ℕ) → IsLowest n t → n - 1 ≡ n / 2 ^ suc t * 2 ^ suc t + (2 ^ t - 1)
less_one n t l = let s = split n t l in let p = pow_pos t in omega (arith, s, p)

-- the bits of the number less one: below the lowest set bit all are set, that bit isn't, those
-- above it are as they were
pub less_below : (n t i : ℕ) → IsLowest n t → i < t → bit_at (n - 1) i ≡ 1
less_below n t i l h = ap (λ x. bit_at x i) (less_one n t l)
    ∙ (bit_at_cat_low (n / 2 ^ suc t) (suc t) (2 ^ t - 1) i (omega arith) ∙ bit_at_ones t i h)

pub less_here : (n t : ℕ) → IsLowest n t → bit_at (n - 1) t ≡ 0
less_here n t l = ap (λ x. bit_at x t) (less_one n t l)
    ∙ (bit_at_cat_low (n / 2 ^ suc t) (suc t) (2 ^ t - 1) t (omega arith) ∙ bit_at_ones_above t t (omega arith))

pub less_above : (n t i : ℕ) → IsLowest n t → t < i → bit_at (n - 1) i ≡ bit_at n i
less_above n t i l h =
    let more = pow_below t (suc t) (omega arith) in
    ap (λ x. bit_at x i) (less_one n t l)
    ∙ (bit_at_cat_high (n / 2 ^ suc t) (suc t) (2 ^ t - 1) i (omega arith) (omega arith)
    ∙ (sym (bit_at_cat_high (n / 2 ^ suc t) (suc t) (2 ^ t) i more (omega arith)) ∙ ap (λ x. bit_at x i) (sym (split n t l))))

-- `n & (n - 1)` clears the lowest set bit
pub cleared : (n t i : ℕ) → IsLowest n t → set (bit_and n (n - 1)) i ≡ (set n i && not (i == t))
cleared n t i l = set_and n (n - 1) i ∙ (elim (cases_eq i t) [
  | inl same ↦ rw (same, less_here n t l, eq-eqb t t refl) refl
  | inr other ↦ elim (cases_lt i t) [
    | inl lt ↦ rw (l.below i lt) refl
    | inr ge ↦ rw (less_above n t i l (omega arith), ne_eqb i t other) (and_self (set n i))
  ]
])

-- the highest set bit, at the whole part of the logarithm
pub highest_here : (n k : ℕ) → 2 ^ k ≤ n → n < 2 * 2 ^ k → bit_at n k ≡ 1
highest_here n k low high = ap (λ x. x % 2) (once n (2 ^ k) low high)

pub highest_above : (n k i : ℕ) → n < 2 * 2 ^ k → k < i → bit_at n i ≡ 0
highest_above n k i high above = bit_at_above n (suc k) i (rw (pow-suc 2 k) (omega arith)) above

pub highest_within : (n k : ℕ) → 2 ^ k ≤ n → n < 2 ^ 81 → k < 81
highest_within n k low small = elim (cases_lt k 81) [
  | inl lt ↦ lt
  | inr ge ↦ let more : 2 ^ 81 ≤ 2 ^ k = pow_mono ge in absurd (omega arith)
]

-- where the number has a set bit
pub some_bit : (n : ℕ) → (n ≡ 0 → ⊥) → 0 < n
some_bit n h = omega arith

pub bit_from_set : (a b i : ℕ) → set a i ≡ set b i → bit_at a i ≡ bit_at b i
bit_from_set a b i = both (λ x y. (x == 1) ≡ (y == 1) → x ≡ y) (λ _. refl) (λ e. cc) (λ e. cc) (λ _. refl) a b i

pub same_sets : (a b : ℕ) → a < 2 ^ 81 → b < 2 ^ 81 → ((i : ℕ) → i < 81 → set a i ≡ set b i) → a ≡ b
same_sets a b ha hb h = same_from_bits_below 81 a b ha hb (λ i within. bit_from_set a b i (h i within))

pub set_within : (n i : ℕ) → n < 2 ^ 81 → set n i ≡ true → i < 81
set_within n i small has = elim (cases_lt i 81) [
  | inl lt ↦ lt
  | inr ge ↦ absurd (both_ways (set n i) (set_above n i small ge) has)
]

-- a number with no set bit is 0
pub none_set : (n : ℕ) → n < 2 ^ 81 → ((i : ℕ) → set n i ≡ false) → n ≡ 0
none_set n small h = same_sets n 0 small (omega arith) (λ i _. h i ∙ sym (set_zero i))

pub some_from_set : (n i : ℕ) → set n i ≡ true → 1 ≤ n
some_from_set n i h = elim (cases_eq n 0) [
  | inl none ↦ absurd (both_ways (set n i) (rw none (set_zero i)) h)
  | inr some ↦ omega arith
]

pub unset : (n i : ℕ) → set n i ≡ false → bit_at n i ≡ 0
unset n i h = bit_from_set n 0 i (h ∙ sym (set_zero i)) ∙ bit_at-zero i

pub lowest_from : (n t : ℕ) → set n t ≡ true → ((i : ℕ) → i < t → set n i ≡ false) → IsLowest n t
lowest_from n t h below = record { here = eqb-true _ _ h; below = λ i within. unset n i (below i within) }

-- `n ^ (n - 1)`, at a width where 0 - 1 is the largest number: the bits up to and with the lowest
-- set one
less_wraps : (n : ℕ) → 1 ≤ n → n < 2 ^ 81 → (n + (2 ^ 128 - 1)) % 2 ^ 128 ≡ n - 1
less_wraps n some small = omega arith

xor_low : (n t i : ℕ) → IsLowest n t → i ≤ t → bit_at (bit_xor n (n - 1)) i ≡ 1
xor_low n t i l h = bit_at_xor n (n - 1) i ∙ (elim (cases_eq i t) [
  | inl same ↦ rw (same, l.here, less_here n t l) refl
  | inr other ↦ rw (l.below i (omega arith), less_below n t i l (omega arith)) refl
])

xor_high : (n t i : ℕ) → IsLowest n t → t < i → bit_at (bit_xor n (n - 1)) i ≡ 0
xor_high n t i l h = bit_at_xor n (n - 1) i ∙ rw (less_above n t i l h) (two (λ x. (x + x) % 2 ≡ 0) refl refl (bit_at n i) (bit_at-lt n i))

set_is : (n i : ℕ) → bit_at n i ≡ 1 → set n i ≡ true
set_is n i h = ap (λ x. x == 1) h

unset_is : (n i : ℕ) → bit_at n i ≡ 0 → set n i ≡ false
unset_is n i h = ap (λ x. x == 1) h

up_to_some : (n i : ℕ) → 1 ≤ n → n < 2 ^ 81 → (set (bit_xor n (n - 1)) i ≡ true) ↔ ((j : ℕ) → j < i → set n j ≡ false)
up_to_some n i some small =
    let t = trailing_zeros w128 n in
    let l = lowest n some small in (
      (λ has. elim (cases_lt t i) [
        | inl past ↦ absurd (both_ways _ (unset_is _ i (xor_high n t i l past)) has)
        | inr within ↦ λ j before. unset_is n j (l.below j (omega arith))
      ]),
      (λ none. elim (cases_lt t i) [
        | inl past ↦ absurd (both_ways _ (none t past) (set_is n t l.here))
        | inr within ↦ set_is _ i (xor_low n t i l within)
      ]),
    )

pub up_to : (n i : ℕ) → n < 2 ^ 81 → i < 81
    → (set (bit_xor n ((n + (2 ^ 128 - 1)) % 2 ^ 128)) i ≡ true) ↔ ((j : ℕ) → j < i → set n j ≡ false)
up_to n i small within = elim (cases_eq n 0) [
  | inl none ↦ (
    (λ has j before. rw none (set_zero j)),
    (λ clear. rw none (set_is _ i (bit_at_xor 0 (2 ^ 128 - 1) i ∙ rw (bit_at-zero i, bit_at_ones 128 i (omega arith)) refl))),
  )
  | inr other ↦ rw (less_wraps n (omega arith) small) (up_to_some n i (omega arith) small)
]

or_right : (a b : Bool) → b ≡ false → (a || b) ≡ true → a ≡ true
or_right true b n h = refl
or_right false b n h = absurd (both_ways b n h)

-- `MAX << ilog2(n | 1)`: the bits down to and with the highest set one
pub down_to : (n k i : ℕ) → k < 128 → 2 ^ k ≤ bit_or n 1 → bit_or n 1 < 2 * 2 ^ k → i < 81
    → (set ((2 ^ 128 - 1) * 2 ^ k % 2 ^ 128) i ≡ true) ↔ ((j : ℕ) → i < j → set n j ≡ false)
down_to n k i wide low high within = rw (ones_shl 128 k (omega arith)) (elim (cases_lt i k) [
  | inl under ↦ (
    (λ has. absurd (both_ways _ (unset_is _ i (bit_at_mask_below k 128 i under)) has)),
    (λ none.
        let top : (set n k || set 1 k) ≡ true = sym (set_or n 1 k) ∙ set_is _ k (highest_here _ k low high) in
        let one : set 1 k ≡ false = set_pow 0 k ∙ ne_eqb k 0 (λ e. omega arith) in
        absurd (both_ways _ (none k under) (or_right _ _ one top))),
  )
  | inr from ↦ (
    (λ has j after. (or_parts (set n j) (set 1 j) (sym (set_or n 1 j) ∙ unset_is _ j (highest_above _ k j high (omega arith)))).0),
    (λ none. set_is _ i (bit_at_mask_inside k 128 i from (omega arith))),
  )
])

-- and a set cut so
pub cut_by : (self mask i : ℕ) (P : Type 0) → self < 2 ^ 81 → (i < 81 → (set mask i ≡ true) ↔ P)
    → (set (bit_and self mask) i ≡ true) ↔ ((set self i ≡ true) × P)
cut_by self mask i P small h = (
  (λ has.
      let parts = and_parts _ _ (sym (set_and self mask i) ∙ has) in
      (parts.0, (h (set_within self i small parts.0)).0 parts.1)),
  (λ both. set_and self mask i ∙ and_from _ _ both.0 ((h (set_within self i small both.0)).1 both.1)),
)

or_true : (b : Bool) → (b || true) ≡ true
or_true true = refl
or_true false = refl

-- `n | 1` is not 0
pub or_one : (n : ℕ) → 0 < bit_or n 1
or_one n = some_from_set (bit_or n 1) 0 (set_or n 1 0 ∙ or_true (set n 0))
