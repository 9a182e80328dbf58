-- Plain bytes: behind one another, and of a number.
use Rattle.std.proofs.Common.{ℕ, ◌+◌, ◌<◌, ◌%◌, ◌^◌, List, [], ◌∷◌, ◌++◌, arith}
use Rattle.std.specs.Fmt.{decimal}
use Rattle.std.proofs.lemmas.Fmt.{decimal_by_steps}
use Rattle.explanations.specs.Shown.{IsPlain}

pub plain_append : (front back : List ℕ) → IsPlain front → IsPlain back → IsPlain (front ++ back)
plain_append [] back first second = second
plain_append (byte ∷ bytes) back first second = grind (arith, plain_append bytes back)

pub plain_digit : (n : ℕ) → n < 10 → IsPlain ((48 + n) ∷ [])
plain_digit n low = grind arith

pub plain_decimal : (n : ℕ) → n < 2 ^ 64 → IsPlain (decimal n)
plain_decimal n low =
    decimal_by_steps (λ _ digits. IsPlain digits) plain_digit (λ m digits more plain. plain_append digits _ plain (plain_digit (m % 10) (omega arith))) n low
