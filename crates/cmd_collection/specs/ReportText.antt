-- What is printed of a line of a collection.
use Rattle.std.specs.Prelude.{Bool, ℕ, List, [], ◌++◌, codes, if◌then◌else◌}
use Rattle.std.specs.Fmt.{decimal}
use Rattle.std.specs.List.{flat_map}
use Rattle.usi_text.specs.Lines.{spaced_move}
use Rattle.cert_text.specs.declared.certificate.Certificate.TheVariants as certificates
use Rattle.cert_text.specs.Entries.{line}
use Rattle.cert_text.specs.Text.{certificate_text}
use Rattle.problem_lines.specs.Lines.{NumberedLine}
use Rattle.cmd_collection.specs.FaultText.{line_fault_text}
use Rattle.app_texts.specs.Texts.{HasLine, cause_text}
use Rattle.app_texts.specs.declared.answer.Solution.TheVariants.{Mate, NoMate, Unknown}
use Rattle.cmd_collection.specs.declared.report.Report.{Report}
use Rattle.cmd_collection.specs.declared.report.Report.TheVariants.{Solved, Fault}

-- How a line's problem ended: a mate with its main line, a space before each move; that there is
-- none; why it is unknown; or the fault.
abbrev pub ending_text : Report → List ℕ
ending_text (Solved (Mate c moves)) = codes " mate" ++ flat_map spaced_move moves
ending_text (Solved (NoMate c)) = codes " nomate"
ending_text (Solved (Unknown cause crew)) = codes " unknown " ++ cause_text cause
ending_text (Fault fault) = codes " fault " ++ line_fault_text fault

-- The certificate of a report: there is one for a mate and for no mate.
abbrev pub proof_text : Report → List ℕ
proof_text (Solved (Mate c moves)) = certificate_text (certificates.Mate c)
proof_text (Solved (NoMate c)) = certificate_text (certificates.Escape c)
proof_text (Solved (Unknown cause crew)) = []
proof_text (Fault fault) = []

-- The text of a report, by whether certificates are told, by the number of its line and by what is
-- told of its line's remark: the number, how the problem ended and the remark, and the certificate
-- behind that line.
abbrev pub report_text : Bool → ℕ → List ℕ → Report → List ℕ
report_text certificates number remark report =
    line (decimal number ++ ending_text report ++ remark) ++ (if certificates then proof_text report else [])

-- What is told of a line's remark: all of it, from its tab on, where remarks are told.
abbrev pub told_remark : Bool → NumberedLine → List ℕ
told_remark remarks of = if remarks then of.remark else []

-- Every move of a report's line has a text.
abbrev pub HasReportLine : Report → Type 0
HasReportLine (Solved solution) = HasLine solution
HasReportLine (Fault fault) = Unit {0}
