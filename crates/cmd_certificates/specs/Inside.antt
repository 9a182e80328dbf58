-- What is said inside of a certificate that was read.
use Rattle.cert_text.specs.declared.certificate.Certificate.{Certificate}
use Rattle.cert_text.specs.Kinds.{problem_of}
use Rattle.cmd_check.specs.Answer.{IsAcceptance, IsRefusal}
use Rattle.cmd_certificates.specs.declared.judged.LineJudgement.{LineJudgement}
use Rattle.cmd_certificates.specs.declared.judged.LineJudgement.TheVariants.{Accepted, Refused, Fault}

-- What is told is true of a certificate, for its own problem: it was accepted so, or refused so.
abbrev pub IsOwnJudgement : Certificate → LineJudgement → Type 0
IsOwnJudgement c (Accepted claim entries) = IsAcceptance (problem_of c) c claim entries
IsOwnJudgement c (Refused entry why) = IsRefusal (problem_of c) c entry why
IsOwnJudgement c (Fault fault) = ⊥
