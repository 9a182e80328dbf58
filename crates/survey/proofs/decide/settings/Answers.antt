-- Each number lies in its range, and the sizes are powers of two.
use Rattle.std.proofs.Common.{◌≡◌, ◌^◌, ℕ, refl}
use Rattle.std.proofs.lemmas.Grind.{merely}
use Rattle.survey.proofs.decide.settings.Goals as goal

pub invariant_of-result-clause-rows_power_of_two : goal.invariant_of-result-clause-rows_power_of_two
invariant_of-result-clause-rows_power_of_two c = merely {P = (k : ℕ) × (1024 ≡ 2 ^ k)} (10, refl)

pub invariant_of-result-clause-shards_power_of_two : goal.invariant_of-result-clause-shards_power_of_two
invariant_of-result-clause-shards_power_of_two c = merely {P = (k : ℕ) × (1 ≡ 2 ^ k)} (0, refl)
