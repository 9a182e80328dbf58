-- A number has one bit exactly where it is a power of two.
use Rattle.std.proofs.Common.{◌≡◌, ◌≤◌, ◌/◌, ◌%◌, ◌^◌, ℕ, zero, suc, refl, arith}
use Rattle.std.proofs.lemmas.Bool.{eq-eqb, eqb-true}
use Rattle.std.specs.Prelude.{true, count_ones}
use Rattle.std.specs.Int.{IsPowerOfTwo, is_power_of_two}
use Rattle.std.proofs.lemmas.Nat.{ones_le_self, zero_from_ones}
use Rattle.std.proofs.Math.Nat.{two-pow-succ}
use lib.Count.{ones_step}

no_bits : count_ones 0 ≡ 0
no_bits = omega (arith, ones_le_self 0)

power_from : (d n : ℕ) → n ≤ d → count_ones n ≡ 1 → IsPowerOfTwo n
power_from zero n h e =
    let none : n ≡ 0 = omega arith in
    let bad : count_ones 0 ≡ 1 = rw none at e in
    absurd (omega (arith, bad, no_bits))
power_from (suc d) n h e = go (n % 2) refl (power_from d (n / 2) (omega arith))
  where
    go : (r : ℕ) → n % 2 ≡ r → (count_ones (n / 2) ≡ 1 → IsPowerOfTwo (n / 2)) → IsPowerOfTwo n
    go zero is more =
        let half = more (omega (arith, ones_step n)) in
        let twice = two-pow-succ half.0 in
        let same = half.1 in
        (suc half.0, omega (arith, twice, same))
    go (suc zero) is more =
        let half = zero_from_ones (n / 2) (omega (arith, ones_step n)) in
        (0, omega arith)
    go (suc (suc r)) is more = absurd (omega arith)

ones_from : (k n : ℕ) → n ≡ 2 ^ k → count_ones n ≡ 1
ones_from zero n e =
    let one : n ≡ 1 = e in
    let half : n / 2 ≡ 0 = omega arith in
    let none : count_ones (n / 2) ≡ 0 = rw half no_bits in
    omega (arith, ones_step n)
ones_from (suc k) n e =
    let twice = two-pow-succ k in
    let half : n / 2 ≡ 2 ^ k = omega arith in
    let more = ones_from k (n / 2) half in
    omega (arith, ones_step n)

pub power-ones : (n : ℕ) → is_power_of_two n ≡ true → IsPowerOfTwo n
power-ones n e = power_from n n (omega arith) (eqb-true _ _ e)

pub ones-power : (n : ℕ) → IsPowerOfTwo n → is_power_of_two n ≡ true
ones-power n p = eq-eqb _ _ (ones_from p.0 n p.1)
