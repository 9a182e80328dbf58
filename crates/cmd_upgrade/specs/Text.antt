-- What is printed of an answer to `upgrade`, and the exit status.
use Rattle.std.specs.Prelude.{ℕ, List}
use Rattle.cert_text.specs.Text.{certificate_text}
use Rattle.app_texts.specs.Texts.{judgement_text}
use Rattle.app_texts.specs.declared.answer.Judgement.TheVariants as judgements
use Rattle.cmd_upgrade.specs.declared.answer.UpgradeAnswer.{UpgradeAnswer}
use Rattle.cmd_upgrade.specs.declared.answer.UpgradeAnswer.TheVariants.{Upgraded, Refused}

-- The text of an answer: the certificate's; for a refused one what `check` tells of it.
abbrev pub answer_text : UpgradeAnswer → List ℕ
answer_text (Upgraded certificate) = certificate_text certificate
answer_text (Refused entry why) = judgement_text (judgements.Refused entry why)

-- The status: 0 with a certificate, 7 where that which was read is refused.
abbrev pub answer_status : UpgradeAnswer → ℕ
answer_status (Upgraded certificate) = 0
answer_status (Refused entry why) = 7
