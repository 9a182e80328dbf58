-- The text of an answer, and its exit status.
use Rattle.std.specs.Prelude.{◌+◌, ◌*◌, ℕ, List, [], ◌∷◌, ◌++◌, codes, count_by, length, nat_lt, take, if◌then◌else◌}
use Rattle.std.specs.List.{flat_map, list_any}
use Rattle.std.specs.Fmt.{decimal}
use Rattle.board_core.specs.declared.moves.Move.{Move}
use Rattle.hand_dominance.specs.declared.version.Version.{Version}
use Rattle.hand_dominance.specs.declared.version.Version.TheVariants.{One, Two}
use Rattle.usi_text.specs.Lines.{spaced_move}
use Rattle.usi_text.specs.MoveText.{move_text}
use Rattle.cert_text.specs.Certificate.{CertificateView, Form, mate_form, escape_form}
use Rattle.cert_text.specs.Entries.{line}
use Rattle.cert_text.specs.Text.{entries_text, end_line}
use Rattle.app_texts.specs.Texts.{cause_text}
use Rattle.cook_report.specs.declared.report.Line.{Line}
use Rattle.cook_report.specs.declared.report.Line.TheVariants.{Mate, Escape, Unknown}
use Rattle.cook_report.specs.declared.word.Word.{Word}
use Rattle.cook_report.specs.declared.word.Word.TheVariants.{Sound, Cooked, Open, NoMate}
use Rattle.cook_report.specs.Report.{says_unknown, word_of}
use Rattle.cook_line.specs.declared.stage.Stage.{Stage}
use Rattle.cook_line.specs.Stages.{is_open, word_along}
use Rattle.cmd_cook.specs.declared.answer.CookAnswer.{CookAnswer}
use Rattle.cmd_cook.specs.declared.answer.CookAnswer.TheVariants.{Report, Lines}
use Rattle.cmd_cook.specs.declared.answer.ToldLine.{ToldLine}
use Rattle.cmd_cook.specs.declared.answer.ToldReport.{ToldReport}

-- The word for a report.
abbrev pub word_text : Word → List ℕ
word_text Sound = codes "sound"
word_text Cooked = codes "cooked"
word_text Open = codes "open"
word_text NoMate = codes "nomate"

-- A version's number, and a space.
abbrev pub version_text : Version → List ℕ
version_text One = codes "1 "
version_text Two = codes "2 "

-- A line of these words with the version and the number of entries behind them, and the entries.
abbrev pub listed_text : {Entry : Type 0} → Form Entry → List ℕ → CertificateView Entry → List ℕ
listed_text form words c = line (words ++ version_text c.version ++ decimal (length c.entries)) ++ entries_text form c.entries

-- The text of a line: its check and what is said of it, a mate with the list of what shows it, an
-- escape with the evasion and the list, or that it is unknown and why.
abbrev pub line_text : Line → List ℕ
line_text (Mate check c) = listed_text (mate_form c.problem) (codes "check " ++ move_text check ++ codes " mate ") c
line_text (Escape check evasion c) =
    listed_text (escape_form c.problem) (codes "check " ++ move_text check ++ codes " escape " ++ move_text evasion ++ codes " ") c
line_text (Unknown check evasion cause) = line (codes "check " ++ move_text check ++ codes " unknown " ++ cause_text cause)

-- The text of a report: a line with its word and the number of its checks, the texts of its lines,
-- and the line `end`.
abbrev pub report_text : List Line → List ℕ
report_text lines =
    line (codes "cook " ++ word_text (word_of lines) ++ 32 ∷ decimal (length lines)) ++ flat_map line_text lines ++ end_line

-- The text of what is told at a turn: a line with its number, from 1, and the moves before it, a
-- space before each; and the text of its report.
abbrev pub stage_text : List Move → ℕ → Stage → List ℕ
stage_text moves turn stage =
    line (codes "at " ++ decimal (turn + 1) ++ flat_map spaced_move (take (2 * turn) moves)) ++ report_text stage.report

-- The texts of what is told from a turn on.
abbrev pub stages_text : List Move → ℕ → List Stage → List ℕ
stages_text moves turn [] = []
stages_text moves turn (stage ∷ stages) = stage_text moves turn stage ++ stages_text moves (turn + 1) stages

-- The text of what is told along a line: the texts of its turns, and a line with its word and the
-- number of its reports.
abbrev pub along_text : List Move → List Stage → List ℕ
along_text moves stages =
    stages_text moves 0 stages ++ line (codes "line " ++ word_text (word_along stages) ++ 32 ∷ decimal (length stages))

-- The text of an answer.
abbrev pub answer_text : CookAnswer → List ℕ
answer_text (Report told) = report_text told.report
answer_text (Lines told) = along_text told.moves.items told.stages.items

-- The status of a report: 1 where a line is unknown, else 0.
abbrev pub report_status : ToldReport → ℕ
report_status told = if nat_lt 0 (count_by says_unknown told.report) then 1 else 0

-- The status along a line: 1 where a report has an unknown line, else 0.
abbrev pub line_status : ToldLine → ℕ
line_status told = if list_any is_open told.stages.items then 1 else 0

-- The status of an answer.
abbrev pub answer_status : CookAnswer → ℕ
answer_status (Report told) = report_status told
answer_status (Lines told) = line_status told
