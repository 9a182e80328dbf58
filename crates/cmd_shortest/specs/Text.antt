-- What is printed of what was found of a shortest mate, and the exit status.
use Rattle.std.specs.Prelude.{ℕ, List, ◌++◌, codes}
use Rattle.usi_text.specs.Lines.{mate_text, timeout_text}
use Rattle.cert_text.specs.Entries.{line}
use Rattle.cert_text.specs.Text.{certificate_text}
use Rattle.cert_text.specs.declared.certificate.Certificate.TheVariants as certificates
use Rattle.bound_text.specs.Text.{bound_text}
use Rattle.search_limits.specs.declared.cause.Cause.{Cause}
use Rattle.app_texts.specs.Texts.{cause_text}
use Rattle.shortest_text.specs.Text.{found_text, none_text}
use Rattle.shortest_mate.specs.declared.finding.Finding.{Finding}
use Rattle.shortest_mate.specs.declared.finding.Finding.TheVariants.{Found, NoneWithin, Unknown}
use Rattle.cmd_shortest.specs.declared.answer.ShortestAnswer.{ShortestAnswer}

-- The text where neither was found: the line of the USI protocol, and why.
abbrev pub unknown_text : Cause → List ℕ
unknown_text cause = line timeout_text ++ line (codes "unknown " ++ cause_text cause)

-- The text of what was found. A shortest mate: the line of the USI protocol with its moves, their
-- number, the certificate and the bound. None within a limit: the limit, the problem and the bound.
-- Neither: that it is unknown, and why.
abbrev pub finding_text : Finding → List ℕ
finding_text (Found rank c b moves) = found_text (mate_text moves.items) rank (certificate_text (certificates.Mate c)) (bound_text b)
finding_text (NoneWithin limit b) = none_text limit b.problem (bound_text b)
finding_text (Unknown cause) = unknown_text cause

-- The status of what was found: 0 with a shortest mate, and where there is none within the limit; 1
-- where it is unknown.
abbrev pub finding_status : Finding → ℕ
finding_status (Found rank c b moves) = 0
finding_status (NoneWithin limit b) = 0
finding_status (Unknown cause) = 1

-- The status of an answer.
abbrev pub answer_status : ShortestAnswer → ℕ
answer_status answer = finding_status answer.finding
