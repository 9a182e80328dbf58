-- Numbers as rows, counts and files have them.
use Rattle.std.proofs.Common.{◌≡◌, ◌≤◌, ℕ, zero, suc, List, [], ◌∷◌, Some, refl, arith}
use Rattle.kif_text.specs.Characters.{number_of}
use Rattle.kif_record.specs.Characters.{number_text, file_text}
use Rattle.kif_moves.specs.Characters.{file_of}
use Rattle.kif_again.proofs.Written.{Written}

pub number_again : (n : ℕ) → 1 ≤ n → n ≤ 10 → (c : ℕ) × Written (number_text n) (c ∷ []) × (number_of c ≡ Some n)
unfolding lib.Utf8.encode
number_again zero from to = absurd (omega arith)
number_again (suc zero) from to = (19968, record { is = refl; scalars = refl; plain = refl }, refl)
number_again (suc (suc zero)) from to = (20108, record { is = refl; scalars = refl; plain = refl }, refl)
number_again (suc (suc (suc zero))) from to = (19977, record { is = refl; scalars = refl; plain = refl }, refl)
number_again (suc (suc (suc (suc zero)))) from to = (22235, record { is = refl; scalars = refl; plain = refl }, refl)
number_again (suc (suc (suc (suc (suc zero))))) from to = (20116, record { is = refl; scalars = refl; plain = refl }, refl)
number_again (suc (suc (suc (suc (suc (suc zero)))))) from to = (20845, record { is = refl; scalars = refl; plain = refl }, refl)
number_again (suc (suc (suc (suc (suc (suc (suc zero))))))) from to = (19971, record { is = refl; scalars = refl; plain = refl }, refl)
number_again (suc (suc (suc (suc (suc (suc (suc (suc zero)))))))) from to = (20843, record { is = refl; scalars = refl; plain = refl }, refl)
number_again (suc (suc (suc (suc (suc (suc (suc (suc (suc zero))))))))) from to = (20061, record { is = refl; scalars = refl; plain = refl }, refl)
number_again (suc (suc (suc (suc (suc (suc (suc (suc (suc (suc zero)))))))))) from to = (21313, record { is = refl; scalars = refl; plain = refl }, refl)
number_again (suc (suc (suc (suc (suc (suc (suc (suc (suc (suc (suc n))))))))))) from to = absurd (omega arith)

pub file_again : (n : ℕ) → 1 ≤ n → n ≤ 9 → (c : ℕ) × Written (file_text n) (c ∷ []) × (file_of c ≡ Some n)
unfolding lib.Utf8.encode
file_again zero from to = absurd (omega arith)
file_again (suc zero) from to = (65297, record { is = refl; scalars = refl; plain = refl }, refl)
file_again (suc (suc zero)) from to = (65298, record { is = refl; scalars = refl; plain = refl }, refl)
file_again (suc (suc (suc zero))) from to = (65299, record { is = refl; scalars = refl; plain = refl }, refl)
file_again (suc (suc (suc (suc zero)))) from to = (65300, record { is = refl; scalars = refl; plain = refl }, refl)
file_again (suc (suc (suc (suc (suc zero))))) from to = (65301, record { is = refl; scalars = refl; plain = refl }, refl)
file_again (suc (suc (suc (suc (suc (suc zero)))))) from to = (65302, record { is = refl; scalars = refl; plain = refl }, refl)
file_again (suc (suc (suc (suc (suc (suc (suc zero))))))) from to = (65303, record { is = refl; scalars = refl; plain = refl }, refl)
file_again (suc (suc (suc (suc (suc (suc (suc (suc zero)))))))) from to = (65304, record { is = refl; scalars = refl; plain = refl }, refl)
file_again (suc (suc (suc (suc (suc (suc (suc (suc (suc zero))))))))) from to = (65305, record { is = refl; scalars = refl; plain = refl }, refl)
file_again (suc (suc (suc (suc (suc (suc (suc (suc (suc (suc n)))))))))) from to = absurd (omega arith)
