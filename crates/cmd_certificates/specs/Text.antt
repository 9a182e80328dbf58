-- What is printed of the lines of a collection that tell a verdict.
use Rattle.std.specs.Prelude.{ℕ, List, ◌∷◌, ◌++◌, codes, count_by, length}
use Rattle.std.specs.Fmt.{decimal}
use Rattle.std.specs.List.{flat_map}
use Rattle.cert_text.specs.Entries.{line}
use Rattle.cert_text.specs.FaultText.{certificate_fault_text}
use Rattle.app_texts.specs.Texts.{judgement_text}
use Rattle.app_texts.specs.declared.answer.Judgement.TheVariants as judgements
use Rattle.cmd_certificates.specs.declared.judged.LineJudgement.{LineJudgement}
use Rattle.cmd_certificates.specs.declared.judged.LineJudgement.TheVariants.{Accepted, Refused, Fault}
use Rattle.cmd_certificates.specs.Judged.{JudgedView, is_accepted, is_refused, is_fault}

-- What is told of a certificate: what `check` tells of it, or the fault.
abbrev pub told_text : LineJudgement → List ℕ
told_text (Accepted claim entries) = judgement_text (judgements.Accepted claim entries)
told_text (Refused entry why) = judgement_text (judgements.Refused entry why)
told_text (Fault fault) = line (codes "fault " ++ certificate_fault_text fault)

-- What is told of a line: its number as it stands, a space, and what is told of its certificate.
abbrev pub line_text : JudgedView → List ℕ
line_text judged = judged.number ++ 32 ∷ told_text judged.told

-- The last line: how many lines tell a verdict, and how many of their certificates were accepted,
-- refused and faults.
abbrev pub counts_text : List JudgedView → List ℕ
counts_text lines = line ((codes "certificates " ++ decimal (length lines))
    ++ (codes " accepted " ++ decimal (count_by is_accepted lines))
    ++ (codes " refused " ++ decimal (count_by is_refused lines))
    ++ (codes " fault " ++ decimal (count_by is_fault lines)))

-- The text of an answer to `check --collection`: what is told of each line, in their order, and the
-- counts behind them.
abbrev pub collection_text : List JudgedView → List ℕ
collection_text lines = flat_map line_text lines ++ counts_text lines
