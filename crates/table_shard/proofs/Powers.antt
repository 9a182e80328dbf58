-- A power of two that fits 64 bits.
use Rattle.std.proofs.Common.{◌≡◌, ◌<◌, ◌*◌, ◌%◌, ◌^◌, ◌-◌, ℕ, sym, subst, ◌∙◌, bit_and, arith}
use Rattle.std.proofs.Math.Nat.{mod-eq_of_lt}
use Rattle.std.proofs.Math.Pow.{pow-lt}
use Rattle.std.proofs.lemmas.Nat.{and_mask}

-- a shift that comes to a number is a power of two
power_is : (k rows : ℕ) → k < 64 → 1 * 2 ^ k % 2 ^ 64 ≡ rows → 2 ^ k ≡ rows
power_is k rows low is =
    let less : 2 ^ k < 2 ^ 64 = pow-lt low in
    let one : 1 * 2 ^ k ≡ 2 ^ k = omega (arith) in
    let small : 1 * 2 ^ k < 2 ^ 64 = subst (λ (n : ℕ). n < 2 ^ 64) (sym one) less in
    sym one ∙ (sym (mod-eq_of_lt small) ∙ is)

-- its last bits are what is left modulo the number
pub low_bits : (hash k rows : ℕ) → k < 64 → 1 * 2 ^ k % 2 ^ 64 ≡ rows → bit_and hash (rows - 1) ≡ hash % rows
low_bits hash k rows low is = subst (λ (n : ℕ). bit_and hash (n - 1) ≡ hash % n) (power_is k rows low is) (and_mask hash k)
