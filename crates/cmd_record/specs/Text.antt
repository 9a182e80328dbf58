-- What is printed of an answer to `record`, and the exit status.
use Rattle.std.specs.Prelude.{ℕ, List, codes, true}
use Rattle.kif_moves.specs.Playing.{AreInTurn, after_all}
use Rattle.kif_record.specs.Mated.{IsMated}
use Rattle.kif_record.specs.Record.{record_with}
use Rattle.cert_text.specs.FaultText.{certificate_fault_text}
use Rattle.app_texts.specs.Texts.{judgement_text}
use Rattle.app_texts.specs.declared.answer.Judgement.TheVariants as judgements
use Rattle.cmd_record.specs.declared.answer.RecordAnswer.{RecordAnswer}
use Rattle.cmd_record.specs.declared.answer.RecordAnswer.TheVariants.{Recorded, Refused}
use Rattle.cmd_record.specs.declared.fault.RecordFault.{RecordFault}
use Rattle.cmd_record.specs.declared.fault.RecordFault.TheVariants as faults

-- The text of an answer: the KIF record of the problem and the moves, with the word that the
-- defender is mated behind them; for a refused certificate what `check` tells of it.
abbrev pub answer_text : RecordAnswer → List ℕ
answer_text (Recorded problem moves) = record_with problem.position moves true
answer_text (Refused entry why) = judgement_text (judgements.Refused entry why)

-- An answer has a text: its moves are checks and evasions in turn, and the defender is mated behind
-- them.
abbrev pub HasText : RecordAnswer → Type 0
HasText (Recorded problem moves) =
    AreInTurn problem.position.side problem.position moves × IsMated problem.position.side (after_all problem.position moves)
HasText (Refused entry why) = Unit {0}

-- The status: 0 with a record, 7 where the certificate is refused.
abbrev pub answer_status : RecordAnswer → ℕ
answer_status (Recorded problem moves) = 0
answer_status (Refused entry why) = 7

-- A fault in words.
abbrev pub fault_text : RecordFault → List ℕ
fault_text (faults.Certificate fault) = certificate_fault_text fault
fault_text faults.NotAMate = codes "not a mate"
