-- What `solve --library` means.
use Rattle.std.specs.Prelude.{◌⊎◌}
use Rattle.one_run.specs.Command.{Meaning}
use Rattle.one_run.specs.Stops.{AreUnused, AreUsed}
use Rattle.cmd_solve.specs.Meaning.{SolveView}
use Rattle.cmd_library.specs.declared.answer.LibraryAnswer.{LibraryAnswer}
use Rattle.cmd_library.specs.declared.asked.TheConstants.{MOST_LIBRARY_BYTES}
use Rattle.cmd_library.specs.declared.fault.LibraryTextFault.{LibraryTextFault}
use Rattle.cmd_library.specs.Answer.{IsFaultOf, IsTrueAnswer}
use Rattle.cmd_library.specs.Text.{HasText, library_answer_text}

-- What `solve` means with a library: a text has so many bytes at most; an answer is a solution of
-- the problem that its first line stands for, from the library behind it, or the certificate that
-- is refused, and a fault the text's; the text of an answer is its own; and the stops are used with
-- the deadline, one for each worker, or, where a certificate is refused, not used.
abbrev pub library_meaning : SolveView → Meaning LibraryAnswer LibraryTextFault
library_meaning asked = record {
  limit = MOST_LIBRARY_BYTES;
  IsTrue = IsTrueAnswer asked;
  IsFault = IsFaultOf asked.form;
  HasText = HasText;
  text_of = library_answer_text;
  Uses = λ stops. AreUsed asked.settings.workers asked.watch.deadline stops ⊎ AreUnused stops;
}
