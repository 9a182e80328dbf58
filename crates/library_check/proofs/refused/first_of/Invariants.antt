use Rattle.std.proofs.Common.{◌≡◌, ◌<◌, ℕ, None, Some}
use Rattle.std.specs.Prelude.{slice_get}
use Rattle.cert_text.specs.declared.certificate.Certificate.{Certificate}
use Rattle.library_check.specs.Judged.{IsJudged}
use Rattle.library_check.proofs.refused.first_of.Given as goal

abbrev pub invariant-loop-place : goal.invariant-loop-place
invariant-loop-place l = (k : ℕ) (c : Certificate) → k < l.place → slice_get l.certificates k ≡ Some c → IsJudged 0 c None
