-- Weights of numbers, added up.
use Rattle.std.proofs.Common.{◌≡◌, ◌≢◌, ℕ, zero, suc, ◌+◌, ◌-◌, ◌<◌, ◌≤◌, ◌==◌, ◌&&◌, nat_lt, nat_le, true, false, Bool, List, [], ◌∷◌, length, sym, refl, ap, ◌∙◌, cond, arith, eq-eqb, ne_eqb}
use Rattle.std.specs.Prelude.{sum_by, filter, min}
use Rattle.std.proofs.Math.Nat.{min-eq_left, min-eq_right}
use Rattle.std.proofs.lemmas.Bool.{lt-ltb, le-ltb, le-leb, lt-leb}
use Rattle.std.proofs.lemmas.List.Sums.{sum_by-cons, count_by-le-length}
use native.Mathlib.Decide.{dec_le, ℕ_discrete}
use Rattle.word_desk.specs.Rule.{sum_to, count_above}
use Rattle.word_desk.specs.WordDesk.{once_to}

-- one where a number lies above a limit, and where it is within it
abbrev pub above : ℕ → ℕ → ℕ
above limit number = cond (nat_lt limit number) 1 0

abbrev pub within : ℕ → ℕ → ℕ
within limit number = cond (nat_le number limit) 1 0

-- a weight of the numbers within a limit alone
abbrev pub cut : ℕ → (ℕ → ℕ) → ℕ → ℕ
cut limit weight number = cond (nat_le number limit) (weight number) 0

-- one of a number
abbrev pub one_of : ℕ → ℕ → ℕ
one_of number each = cond (each == number) 1 0

one_above : (limit number : ℕ) → limit < number → above limit number ≡ 1
one_above limit number h = ap (λ (b : Bool). cond {A = ℕ} b 1 0) (lt-ltb limit number h)

pub none_above : (limit number : ℕ) → number ≤ limit → above limit number ≡ 0
none_above limit number h = ap (λ (b : Bool). cond {A = ℕ} b 1 0) (le-ltb limit number h)

bit_le : (b : Bool) → cond {A = ℕ} b 1 0 ≤ 1
bit_le true = omega arith
bit_le false = omega arith

pub above-le : (limit number : ℕ) → above limit number ≤ 1
above-le limit number = bit_le (nat_lt limit number)

none_within : (limit number : ℕ) → limit < number → within limit number ≡ 0
none_within limit number h = ap (λ (b : Bool). cond {A = ℕ} b 1 0) (lt-leb number limit h)

-- of the numbers from 1 to the last, those above a limit are no fewer than what the last is above
-- it
pub to_above : (limit last : ℕ) → last ≤ limit + sum_to (above limit) last
to_above limit zero = omega arith
to_above limit (suc last) = go (dec_le (last + 1) limit) (to_above limit last)
  where
    go : Dec (last + 1 ≤ limit) → last ≤ limit + sum_to (above limit) last → suc last ≤ limit + (above limit (last + 1) + sum_to (above limit) last)
    go (yes d) p = omega (arith, d)
    go (no d) p = let one = one_above limit (last + 1) (omega (arith, d)) in omega (arith, one, p)

-- and those within a limit are no more than the last, and no more than the limit
pub to_within : (limit last : ℕ) → (sum_to (within limit) last ≤ last) × (sum_to (within limit) last ≤ limit)
to_within limit zero = (omega arith, omega arith)
to_within limit (suc last) = go (dec_le (last + 1) limit) (to_within limit last)
  where
    go : Dec (last + 1 ≤ limit) → (sum_to (within limit) last ≤ last) × (sum_to (within limit) last ≤ limit)
        → (within limit (last + 1) + sum_to (within limit) last ≤ suc last) × (within limit (last + 1) + sum_to (within limit) last ≤ limit)
    go (yes d) p = let one = bit_le (nat_le (last + 1) limit) in let q = p.0 in (omega (arith, one, q), omega (arith, one, q, d))
    go (no d) p = let none = none_within limit (last + 1) (omega (arith, d)) in let q = p.0 in let r = p.1 in (omega (arith, none, q), omega (arith, none, r))

cut_in : (limit : ℕ) (weight : ℕ → ℕ) (number : ℕ) → number ≤ limit → cut limit weight number ≡ weight number
cut_in limit weight number h = ap (λ (b : Bool). cond {A = ℕ} b (weight number) 0) (le-leb number limit h)

cut_out : (limit : ℕ) (weight : ℕ → ℕ) (number : ℕ) → limit < number → cut limit weight number ≡ 0
cut_out limit weight number h = ap (λ (b : Bool). cond {A = ℕ} b (weight number) 0) (lt-leb number limit h)

to_cut_low : (limit : ℕ) (weight : ℕ → ℕ) (last : ℕ) → last ≤ limit → sum_to (cut limit weight) last ≡ sum_to weight last
to_cut_low limit weight zero h = refl
to_cut_low limit weight (suc last) h =
    let here = cut_in limit weight (last + 1) (omega (arith, h)) in
    let below = to_cut_low limit weight last (omega (arith, h)) in omega (arith, here, below)

to_cut_high : (limit : ℕ) (weight : ℕ → ℕ) (more : ℕ) → sum_to (cut limit weight) (more + limit) ≡ sum_to weight limit
to_cut_high limit weight zero =
    let e : zero + limit ≡ limit = omega arith in
    ap (sum_to (cut limit weight)) e ∙ to_cut_low limit weight limit (omega arith)
to_cut_high limit weight (suc more) =
    let e : suc more + limit ≡ suc (more + limit) = omega arith in
    let none = cut_out limit weight (more + limit + 1) (omega arith) in
    let below = to_cut_high limit weight more in
    ap (sum_to (cut limit weight)) e ∙ omega (arith, none, below)

-- what is cut at a limit goes to the lesser of the last and the limit
pub sum_to-cut : (limit : ℕ) (weight : ℕ → ℕ) (last : ℕ) → sum_to (cut limit weight) last ≡ sum_to weight (min last limit)
sum_to-cut limit weight last = go (dec_le last limit)
  where
    go : Dec (last ≤ limit) → sum_to (cut limit weight) last ≡ sum_to weight (min last limit)
    go (yes d) = to_cut_low limit weight last d ∙ sym (ap (sum_to weight) (min-eq_left d))
    go (no d) =
        let le : limit ≤ last = omega (arith, d) in
        let e : (last - limit) + limit ≡ last = omega (arith, le) in
        ap (sum_to (cut limit weight)) (sym e) ∙ (to_cut_high limit weight (last - limit) ∙ sym (ap (sum_to weight) (min-eq_right le)))

pub sum_to-ones : (last : ℕ) → sum_to (λ _. 1) last ≡ last
sum_to-ones zero = refl
sum_to-ones (suc last) = let p = sum_to-ones last in omega (arith, p)

pub sum_by-ones : (numbers : List ℕ) → sum_by (λ _. 1) numbers ≡ length numbers
sum_by-ones [] = refl
sum_by-ones (x ∷ xs) = let p = sum_by-ones xs in omega (arith, p, sum_by-cons (λ (n : ℕ). 1) x xs)

once_in : (last number : ℕ) → 1 ≤ number → number ≤ last → once_to last number ≡ 1
once_in last number low high = ap (λ (b : Bool). cond {A = ℕ} (b && nat_le number last) 1 0) (le-leb 1 number low) ∙ ap (λ (b : Bool). cond {A = ℕ} b 1 0) (le-leb number last high)

and_false : (b : Bool) → cond {A = ℕ} (b && false) 1 0 ≡ 0
and_false true = refl
and_false false = refl

once_out : (last number : ℕ) → last < number → once_to last number ≡ 0
once_out last number high = ap (λ (b : Bool). cond {A = ℕ} (nat_le 1 number && b) 1 0) (lt-leb number last high) ∙ and_false (nat_le 1 number)

once_zero : (last : ℕ) → once_to last 0 ≡ 0
once_zero last = refl

pub sum_to-one_of : (number last : ℕ) → sum_to (one_of number) last ≡ once_to last number
sum_to-one_of zero zero = refl
sum_to-one_of (suc number) zero = sym (once_out 0 (suc number) (omega arith))
sum_to-one_of number (suc last) = go (ℕ_discrete (last + 1) number) (dec_le number last) (dec_le 1 number) (sum_to-one_of number last)
  where
    go : Dec (last + 1 ≡ number) → Dec (number ≤ last) → Dec (1 ≤ number) → sum_to (one_of number) last ≡ once_to last number
        → one_of number (last + 1) + sum_to (one_of number) last ≡ once_to (suc last) number
    go (yes e) low some p =
        let one : ◌≡◌ {A = ℕ} (one_of number (last + 1)) 1 = ap (λ (b : Bool). cond {A = ℕ} b 1 0) (eq-eqb (last + 1) number e) in
        let none = once_out last number (omega (arith, e)) in
        let once = once_in (suc last) number (omega (arith, e)) (omega (arith, e)) in
        omega (arith, one, none, once, p)
    go (no n) (yes low) (yes some) p =
        let none : ◌≡◌ {A = ℕ} (one_of number (last + 1)) 0 = ap (λ (b : Bool). cond {A = ℕ} b 1 0) (ne_eqb (last + 1) number n) in
        let once = once_in last number some low in
        let still = once_in (suc last) number some (omega (arith, low)) in
        omega (arith, none, once, still, p)
    go (no n) (yes low) (no zero_is) p =
        let none : ◌≡◌ {A = ℕ} (one_of number (last + 1)) 0 = ap (λ (b : Bool). cond {A = ℕ} b 1 0) (ne_eqb (last + 1) number n) in
        let is : number ≡ 0 = omega (arith, zero_is) in
        let once : once_to last number ≡ 0 = ap (once_to last) is in
        let still : once_to (suc last) number ≡ 0 = ap (once_to (suc last)) is in
        omega (arith, none, once, still, p)
    go (no n) (no high) some p =
        let none : ◌≡◌ {A = ℕ} (one_of number (last + 1)) 0 = ap (λ (b : Bool). cond {A = ℕ} b 1 0) (ne_eqb (last + 1) number n) in
        let apart : last + 1 ≢ number = n in
        let far : suc last < number = omega (arith, high, apart) in
        let once = once_out last number (omega (arith, high)) in
        let still = once_out (suc last) number far in
        omega (arith, none, once, still, p)

-- fewer numbers have no more of one
pub once_to-le : (low high number : ℕ) → low ≤ high → once_to low number ≤ once_to high number
once_to-le low high number h = go (dec_le number low) (dec_le 1 number)
  where
    go : Dec (number ≤ low) → Dec (1 ≤ number) → once_to low number ≤ once_to high number
    go (yes d) (yes some) = let a = once_in low number some d in let b = once_in high number some (omega (arith, d, h)) in omega (arith, a, b)
    go (yes d) (no zero_is) =
        let is : number ≡ 0 = omega (arith, zero_is) in
        let once : once_to low number ≡ 0 = ap (once_to low) is in
        omega (arith, once)
    go (no d) some = let a = once_out low number (omega (arith, d)) in omega (arith, a)

-- what is kept of a list weighs what is not cut
pub sum_by-numbers_to : (limit : ℕ) (weight : ℕ → ℕ) (numbers : List ℕ) → sum_by weight (filter (λ number. nat_le number limit) numbers) ≡ sum_by (cut limit weight) numbers
sum_by-numbers_to limit weight [] = refl
sum_by-numbers_to limit weight (x ∷ xs) = go (nat_le x limit) refl (sum_by-numbers_to limit weight xs)
  where
    go : (b : Bool) → nat_le x limit ≡ b → sum_by weight (filter (λ number. nat_le number limit) xs) ≡ sum_by (cut limit weight) xs
        → sum_by weight (cond b (x ∷ filter (λ number. nat_le number limit) xs) (filter (λ number. nat_le number limit) xs)) ≡ sum_by (cut limit weight) (x ∷ xs)
    go true e p =
        let here : cut limit weight x ≡ weight x = ap (λ (b : Bool). cond {A = ℕ} b (weight x) 0) e in
        omega (arith, here, p, sum_by-cons weight x (filter (λ number. nat_le number limit) xs), sum_by-cons (cut limit weight) x xs)
    go false e p =
        let here : cut limit weight x ≡ 0 = ap (λ (b : Bool). cond {A = ℕ} b (weight x) 0) e in
        omega (arith, here, p, sum_by-cons (cut limit weight) x xs)

-- each number is within a limit or above it
pub length-parts : (limit : ℕ) (numbers : List ℕ) → length (filter (λ number. nat_le number limit) numbers) + count_above limit numbers ≡ length numbers
length-parts limit [] = refl
length-parts limit (x ∷ xs) = go (dec_le x limit) (length-parts limit xs)
  where
    go : Dec (x ≤ limit) → length (filter (λ number. nat_le number limit) xs) + count_above limit xs ≡ length xs
        → length (filter (λ number. nat_le number limit) (x ∷ xs)) + count_above limit (x ∷ xs) ≡ suc (length xs)
    go (yes d) p =
        let here : filter (λ number. nat_le number limit) (x ∷ xs) ≡ x ∷ filter (λ number. nat_le number limit) xs =
        ap (λ (b : Bool). cond b (x ∷ filter (λ number. nat_le number limit) xs) (filter (λ number. nat_le number limit) xs)) (le-leb x limit d) in
        let none = none_above limit x d in
        let len = ap length here in
        omega (arith, len, none, p, sum_by-cons (above limit) x xs)
    go (no d) p =
        let high : limit < x = omega (arith, d) in
        let here : filter (λ number. nat_le number limit) (x ∷ xs) ≡ filter (λ number. nat_le number limit) xs =
        ap (λ (b : Bool). cond b (x ∷ filter (λ number. nat_le number limit) xs) (filter (λ number. nat_le number limit) xs)) (lt-leb x limit high) in
        let one = one_above limit x high in
        let len = ap length here in
        omega (arith, len, one, p, sum_by-cons (above limit) x xs)

-- a higher limit has no more above it
pub count_above-le : (low high : ℕ) (numbers : List ℕ) → low ≤ high → count_above high numbers ≤ count_above low numbers
count_above-le low high [] h = omega arith
count_above-le low high (x ∷ xs) h = go (dec_le x high) (count_above-le low high xs h)
  where
    go : Dec (x ≤ high) → count_above high xs ≤ count_above low xs → count_above high (x ∷ xs) ≤ count_above low (x ∷ xs)
    go (yes d) p = let none = none_above high x d in omega (arith, none, p, sum_by-cons (above high) x xs, sum_by-cons (above low) x xs)
    go (no d) p =
        let one = one_above low x (omega (arith, d, h)) in
        let most = above-le high x in
        omega (arith, one, most, p, sum_by-cons (above high) x xs, sum_by-cons (above low) x xs)

pub count_above-le-length : (limit : ℕ) (numbers : List ℕ) → count_above limit numbers ≤ length numbers
count_above-le-length limit numbers = count_by-le-length (nat_lt limit) numbers
