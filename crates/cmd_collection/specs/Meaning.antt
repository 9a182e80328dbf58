-- What `collection` means.
use Rattle.problem_lines.specs.Lines.{NumberedLine, problem_lines}
use Rattle.one_run.specs.Serial.{Serial}
use Rattle.cmd_collection.specs.declared.asked.TheConstants.{MOST_COLLECTION_BYTES}
use Rattle.cmd_collection.specs.declared.asked.NoFault.{NoFault}
use Rattle.cmd_collection.specs.declared.counts.Counts.{Counts}
use Rattle.cmd_collection.specs.declared.report.Report.{Report}
use Rattle.cmd_collection.specs.Counts.{AreCountsOf, counts_text}
use Rattle.cmd_collection.specs.Reports.{IsTrueReport}
use Rattle.cmd_collection.specs.ReportText.{report_text, told_remark}
use Rattle.cmd_collection.specs.Words.{CollectView}

-- What `collection` means: a text has so many bytes at most, and no fault as a whole; its subjects
-- are the lines that hold a problem, counted from the number that the words give, and a part is a
-- true report on one, whose text it has, with the line's remark where the words ask for it; the
-- counts sum the reports up, and have a text of their own.
abbrev pub collection_meaning : CollectView → Serial NumberedLine Report Counts NoFault
collection_meaning asked = record {
  limit = MOST_COLLECTION_BYTES;
  IsFault = λ input fault. ⊥;
  subjects_of = problem_lines asked.form.first;
  IsTrue = IsTrueReport asked.settings asked.form;
  part_text = λ line report. report_text asked.form.certificates line.number (told_remark asked.form.remarks line) report;
  IsSum = AreCountsOf;
  text_of = counts_text;
}
