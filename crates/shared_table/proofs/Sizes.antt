-- Rows that are cut into shards.
use Rattle.std.proofs.Common.{◌≡◌, ◌+◌, ◌*◌, ◌/◌, ◌^◌, ◌<◌, ◌≤◌, ◌-◌, ℕ, zero, suc, inl, inr, sym, subst, ap, ap₂, ◌∙◌, arith}
use Rattle.std.specs.Int.{IsPowerOfTwo}
use Rattle.std.proofs.lemmas.Bool.{cases_eq, cases_lt}
use Rattle.std.proofs.lemmas.Grind.{not_there}
use Rattle.std.proofs.Math.Nat.{pow-suc, pow-le-pow_right, mul-div_right, mul_assoc}

-- a power of two by a difference
power_past : (low more : ℕ) → 2 ^ (low + more) ≡ 2 ^ low * 2 ^ more
power_past low zero = ap (λ (n : ℕ). 2 ^ n) (omega arith) ∙ (let one : 2 ^ low ≡ 2 ^ low * 1 = omega arith in one)
power_past low (suc more) =
    let step = power_past low more in
    let left : 2 ^ (low + suc more) ≡ 2 ^ (low + more) * 2 = ap (λ (n : ℕ). 2 ^ n) (omega arith) ∙ pow-suc 2 (low + more) in
    let right : 2 ^ suc more ≡ 2 ^ more * 2 = pow-suc 2 more in
    left ∙ (ap (λ (n : ℕ). n * 2) step ∙ (mul_assoc (2 ^ low) (2 ^ more) 2 ∙ ap (λ (n : ℕ). 2 ^ low * n) (sym right)))

some_power : (n : ℕ) → 0 < 2 ^ n
some_power n = pow-le-pow_right {n = 2} (omega arith) {i = 0} {j = n} (omega arith)

no_less : (low high : ℕ) → high < low → 2 ^ low ≤ 2 ^ high → ⊥
no_less low high less few =
    let more : 2 ^ suc high ≤ 2 ^ low = pow-le-pow_right {n = 2} (omega arith) {i = suc high} {j = low} (omega (arith, less)) in
    let twice : 2 ^ suc high ≡ 2 ^ high * 2 = pow-suc 2 high in
    let some = some_power high in
    omega (arith, more, twice, some, few)

cut_powers : (high low : ℕ) → 2 ^ low ≤ 2 ^ high → 2 ^ low * (2 ^ high / 2 ^ low) ≡ 2 ^ high
cut_powers high low few = elim (cases_lt high low) [
  | inl less ↦ absurd (no_less low high less few)
  | inr more ↦
      let rest = high - low in
      let whole : 2 ^ high ≡ 2 ^ low * 2 ^ rest = ap (λ (n : ℕ). 2 ^ n) (omega (arith, more)) ∙ power_past low rest in
      let part : 2 ^ high / 2 ^ low ≡ 2 ^ rest = ap (λ (n : ℕ). n / 2 ^ low) whole ∙ mul-div_right (2 ^ rest) (some_power low) in
      ap (λ (n : ℕ). 2 ^ low * n) part ∙ sym whole
]

cut_rows : (rows shards : ℕ) → IsPowerOfTwo rows → IsPowerOfTwo shards → shards ≤ rows → shards * (rows / shards) ≡ rows
cut_rows rows shards (high, is) (low, is_too) few =
    let less : 2 ^ low ≤ 2 ^ high = subst (λ (n : ℕ). n ≤ 2 ^ high) is_too (subst (λ (n : ℕ). shards ≤ n) is few) in
    ap₂ (λ (s r : ℕ). s * (r / s)) is_too is ∙ (cut_powers high low less ∙ sym is)

-- Shards that are a power of two, of as many rows each, have all rows, where these are a power of
-- two and no fewer.
pub all_rows : (rows shards : ℕ) → ∥ IsPowerOfTwo rows ∥₁ → ∥ IsPowerOfTwo shards ∥₁ → shards ≤ rows → shards * (rows / shards) ≡ rows
all_rows rows shards power power_too few = elim (cases_eq (shards * (rows / shards)) rows) [
  | inl same ↦ same
  | inr not ↦ absurd (not_there power (λ one. not_there power_too (λ other. not (cut_rows rows shards one other few))))
]
