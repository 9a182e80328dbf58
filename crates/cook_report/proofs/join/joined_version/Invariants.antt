use Rattle.std.proofs.Common.{◌≡◌, ◌<◌, ℕ, Some, slice_get}
use Rattle.hand_dominance.specs.declared.version.Version.TheVariants.{One}
use Rattle.cert_text.specs.Certificate.{Mating}
use Rattle.cook_report.proofs.join.joined_version.Given as goal

abbrev pub invariant-loop-certificate : goal.invariant-loop-certificate
invariant-loop-certificate l = (k : ℕ) (c : Mating) → k < l.certificate-index → slice_get l.certificates k ≡ Some c → c.version ≡ One
