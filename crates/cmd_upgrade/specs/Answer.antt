-- When an answer to `upgrade` is true.
use Rattle.std.specs.Prelude.{◌≡◌, ℕ, List}
use Rattle.cert_text.specs.declared.certificate.Certificate.{Certificate}
use Rattle.cert_text.specs.Kinds.{problem_of}
use Rattle.cert_text.specs.Reading.{IsReadable}
use Rattle.cert_check.specs.Upgraded.{upgraded}
use Rattle.cert_check.specs.Valid.{IsValid, Shows}
use Rattle.cmd_check.specs.Answer.{IsRefusal, IsTextOfOne}
use Rattle.cmd_upgrade.specs.declared.answer.UpgradeAnswer.{UpgradeAnswer}
use Rattle.cmd_upgrade.specs.declared.answer.UpgradeAnswer.TheVariants.{Upgraded, Refused}

-- A certificate is valid for its own problem, and the other is the same in version 2: it is valid
-- for that problem too, shows what it claims, and can be read once it is written.
pub record IsUpgradeOf (c found : Certificate) : Type 0 where
  pub valid : IsValid c (problem_of c)
  pub same : found ≡ upgraded c
  pub still_valid : IsValid found (problem_of c)
  pub shows : Shows found (problem_of c)
  pub readable : IsReadable found

-- An answer is true of a certificate: what was found is it in version 2; or it isn't valid for its
-- own problem, for this first reason.
abbrev pub IsTrueOf : Certificate → UpgradeAnswer → Type 0
IsTrueOf c (Upgraded found) = IsUpgradeOf c found
IsTrueOf c (Refused entry why) = IsRefusal (problem_of c) c entry why

-- The bytes of an input are the text of one certificate, of which the answer is true.
pub record IsAnswered (input : List ℕ) (answer : UpgradeAnswer) : Type 0 where
  pub certificate : Certificate
  pub text : IsTextOfOne input certificate
  pub true_of : IsTrueOf certificate answer
