use Rattle.std.proofs.Common.{◌≡◌, ◌<◌, ℕ, Some, slice_get}
use Rattle.cert_text.specs.Certificate.{Mating}
use Rattle.fact_tests.proofs.cooks.are_of_attacker.Given as goal

abbrev pub invariant-loop-certificate : goal.invariant-loop-certificate
invariant-loop-certificate l = (k : ℕ) (c : Mating) → k < l.certificate-index → slice_get l.certificates k ≡ Some c → c.problem.side ≡ l.problem.position.side
