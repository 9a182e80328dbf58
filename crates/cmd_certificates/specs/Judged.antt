-- What is told of the lines of a collection that tell a verdict.
use Rattle.std.specs.Prelude.{◌==◌, ℕ, Bool, true, false, List, count_by, if◌then◌else◌}
use Rattle.cmd_certificates.specs.declared.judged.JudgedLine.{JudgedLine}
use Rattle.cmd_certificates.specs.declared.judged.LineJudgement.{LineJudgement}
use Rattle.cmd_certificates.specs.declared.judged.LineJudgement.TheVariants.{Accepted, Refused, Fault}

-- A line that tells a verdict: the number of the problem's line, as it is written, and what was
-- found of the certificate behind it.
pub record JudgedView : Type 0 where
  pub number : List ℕ
  pub told : LineJudgement

-- A judged line as contracts see it.
abbrev pub seen : JudgedLine → JudgedView
seen line = record { number = line.number.items; told = line.told }

-- It is told that a certificate was accepted.
abbrev pub tells_accepted : LineJudgement → Bool
tells_accepted (Accepted claim entries) = true
tells_accepted (Refused entry why) = false
tells_accepted (Fault fault) = false

-- It is told that it was refused.
abbrev pub tells_refused : LineJudgement → Bool
tells_refused (Accepted claim entries) = false
tells_refused (Refused entry why) = true
tells_refused (Fault fault) = false

-- It is told that there is a fault.
abbrev pub tells_fault : LineJudgement → Bool
tells_fault (Accepted claim entries) = false
tells_fault (Refused entry why) = false
tells_fault (Fault fault) = true

-- The line's certificate was accepted.
abbrev pub is_accepted : JudgedView → Bool
is_accepted judged = tells_accepted judged.told

-- The line's certificate was refused.
abbrev pub is_refused : JudgedView → Bool
is_refused judged = tells_refused judged.told

-- What stands behind the line is a fault.
abbrev pub is_fault : JudgedView → Bool
is_fault judged = tells_fault judged.told

-- The status: 7 where one is refused; else 3 where one is a fault; else 0.
abbrev pub judged_status : List JudgedView → ℕ
judged_status lines = if 0 == count_by is_refused lines then (if 0 == count_by is_fault lines then 0 else 3) else 7
