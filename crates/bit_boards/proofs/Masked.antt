-- Sets written out from a test, square by square.
use Rattle.std.proofs.Common.{◌≡◌, ℕ, ◌+◌, ◌<◌, ◌≤◌, ◌==◌, ◌^◌, ◌%◌, ◌/◌, ◌&&◌, Bool, true, false, nat_lt, List, ◌∷◌, get_or, refl, sym, ap, subst, ◌∙◌, arith, cond, inl, inr, ◌*◌, zero, suc, not, eq-eqb, ne_eqb}
use Rattle.std.specs.Prelude.{map, count_by, count_ones}
use Rattle.std.proofs.Math.Bool.{and-true}
use Rattle.std.specs.List.{range_with_len}
use Rattle.std.specs.Int.{bit_at}
use Rattle.std.proofs.lemmas.Simd.{bit_mask_l, mask_l-lt, ones-mask_l}
use Rattle.std.proofs.lemmas.List.{get_or_past}
use Rattle.std.proofs.lemmas.List.FromFn.{get_or-map-range_with_len, length-map-range_with_len, length-range_with_len}
use Rattle.std.proofs.lemmas.List.Sums.{count_by-le-length, sum_by-cons}
use Rattle.std.proofs.lemmas.Bool.{cases_lt, cases_eq, lt-ltb, le-ltb, eqb-true, agree_below_at}
use lib.Lanes.{mask_l}

-- the squares that pass a test, as bits
abbrev pub bits_where : (ℕ → Bool) → ℕ
bits_where p = mask_l (map p (range_with_len 0 81))

-- such bits for each square
abbrev pub for_each_square : (ℕ → ℕ → Bool) → List ℕ
for_each_square f = map (λ from. bits_where (f from)) (range_with_len 0 81)

flag_is : (b : Bool) → (cond b 1 0 == 1) ≡ b
flag_is true = refl
flag_is false = refl

masked-at : (p : ℕ → Bool) (n i : ℕ) → (bit_at (mask_l (map p (range_with_len 0 n))) i == 1) ≡ (nat_lt i n && p i)
masked-at p n i =
    ap (λ x. x == 1) (bit_mask_l (map p (range_with_len 0 n)) i) ∙ (flag_is (get_or (map p (range_with_len 0 n)) i false) ∙ (elim (cases_lt i n) [
      | inl lt ↦ rw (lt-ltb i n lt) (get_or-map-range_with_len p 0 n i i false lt (omega arith))
      | inr ge ↦ rw (le-ltb i n ge) (get_or_past _ i false (rw (length-map-range_with_len p 0 n) ge))
    ]))

-- a bit of such a set says that the square is on the board and passes the test
pub bits_where-at : (p : ℕ → Bool) (i : ℕ) → (bit_at (bits_where p) i == 1) ≡ (nat_lt i 81 && p i)
bits_where-at p i = masked-at p 81 i

masked-lt : (p : ℕ → Bool) (n : ℕ) → mask_l (map p (range_with_len 0 n)) < 2 ^ n
masked-lt p n = let P : ℕ → Type 0 = λ k. mask_l (map p (range_with_len 0 n)) < 2 ^ k in
    subst P (length-map-range_with_len p 0 n) (mask_l-lt (map p (range_with_len 0 n)))

pub bits_where-lt : (p : ℕ → Bool) → bits_where p < 2 ^ 81
bits_where-lt p = masked-lt p 81

pub each_at : (f : ℕ → ℕ → Bool) (from : ℕ) → from < 81 → get_or (for_each_square f) from 0 ≡ bits_where (f from)
each_at f from h = get_or-map-range_with_len (λ s. bits_where (f s)) 0 81 from from 0 h (omega arith)

-- a file and a row of squares, as bits
pub file_bits : (k : ℕ) → k < 9 → 511 * 2 ^ (9 * k) % 2 ^ 128 ≡ bits_where (λ s. s / 9 + 1 == k + 1)
file_bits k h = eqb-true _ _ (agree_below_at (λ j. 511 * 2 ^ (9 * j) % 2 ^ 128 == bits_where (λ s. s / 9 + 1 == j + 1)) (λ _. true) 9 k refl h)

pub row_bits : (k : ℕ) → k < 9 → 4731607904558235517441 * 2 ^ k % 2 ^ 128 ≡ bits_where (λ s. s % 9 + 1 == k + 1)
row_bits k h = eqb-true _ _ (agree_below_at (λ j. 4731607904558235517441 * 2 ^ j % 2 ^ 128 == bits_where (λ s. s % 9 + 1 == j + 1)) (λ _. true) 9 k refl h)

-- how many squares a set has, by its bits
pub ones_where : (p : ℕ → Bool) → count_ones (bits_where p) ≡ count_by p (range_with_len 0 81)
ones_where p = ones-mask_l p (range_with_len 0 81)

pub count_small : (p : ℕ → Bool) → count_by p (range_with_len 0 81) ≤ 81
count_small p = let l = count_by-le-length p (range_with_len 0 81) in let e = length-range_with_len 0 81 in omega (arith, l, e)

abbrev flag : Bool → ℕ
flag b = cond b 1 0

count_one : (p : ℕ → Bool) (a : ℕ) (xs : List ℕ) → count_by p (a ∷ xs) ≡ flag (p a) + count_by p xs
count_one p a xs = sum_by-cons (λ x. cond (p x) 1 0) a xs

count_same : (p q : ℕ → Bool) (n a k : ℕ) → k < a → ((s : ℕ) → (s ≡ k → ⊥) → p s ≡ q s)
    → count_by p (range_with_len a n) ≡ count_by q (range_with_len a n)
count_same p q zero a k h same = refl
count_same p q (suc n) a k h same =
    count_one p a (range_with_len (a + 1) n)
    ∙ (rw (same a (λ e. omega arith), count_same p q n (a + 1) k (omega arith) same) (sym (count_one q a (range_with_len (a + 1) n))))

-- two tests that differ at one number alone
count_less : (p q : ℕ → Bool) (n a k : ℕ) → a ≤ k → k < a + n → p k ≡ true → q k ≡ false
    → ((s : ℕ) → (s ≡ k → ⊥) → p s ≡ q s) → count_by p (range_with_len a n) ≡ count_by q (range_with_len a n) + 1
count_less p q zero a k from to has hasnt same = absurd (omega arith)
count_less p q (suc n) a k from to has hasnt same =
    let one_p = count_one p a (range_with_len (a + 1) n) in
    let one_q = count_one q a (range_with_len (a + 1) n) in
    elim (cases_eq a k) [
      | inl here ↦
          let yes_here : flag (p a) ≡ 1 = rw (here, has) refl in
          let no_here : flag (q a) ≡ 0 = rw (here, hasnt) refl in
          let rest = count_same p q n (a + 1) k (omega arith) same in
          omega (arith, one_p, one_q, yes_here, no_here, rest)
      | inr other ↦
          let alike : flag (p a) ≡ flag (q a) = ap flag (same a other) in
          let rest = count_less p q n (a + 1) k (omega arith) (omega arith) has hasnt same in
          omega (arith, one_p, one_q, alike, rest)
    ]

pub count_falls : (p q : ℕ → Bool) (k : ℕ) → k < 81 → p k ≡ true → ((s : ℕ) → q s ≡ (p s && not (s == k)))
    → count_by p (range_with_len 0 81) ≡ count_by q (range_with_len 0 81) + 1
count_falls p q k within has rest = count_less p q 81 0 k (omega arith) (omega arith) has
    (rest k ∙ rw (eq-eqb k k refl, has) refl)
    (λ s other. sym (rest s ∙ rw (ne_eqb s k other) (and-true (p s))))
