-- What is printed of what was found out about a problem with a library behind it, and the exit
-- status.
use Rattle.std.specs.Prelude.{ℕ, List, ◌∷◌, ◌++◌, codes}
use Rattle.std.specs.Fmt.{decimal}
use Rattle.cert_text.specs.Entries.{line}
use Rattle.app_texts.specs.Texts.{HasLine, solution_text, why_text}
use Rattle.library_check.specs.declared.refused.Refused.{Refused as RefusedOne}
use Rattle.run_telling.specs.Status.{solution_status}
use Rattle.cmd_library.specs.declared.answer.LibraryAnswer.{LibraryAnswer}
use Rattle.cmd_library.specs.declared.answer.LibraryAnswer.TheVariants.{Solved, Refused}

-- What is printed of a refused certificate: its number, the entry, and the reason.
abbrev pub refused_text : RefusedOne → List ℕ
refused_text refused =
    line (codes "refused library " ++ decimal refused.number ++ 32 ∷ decimal refused.entry ++ 32 ∷ why_text refused.why)

-- The text of an answer: that of the solution, or of the refused certificate.
abbrev pub library_answer_text : LibraryAnswer → List ℕ
library_answer_text (Solved solution) = solution_text solution
library_answer_text (Refused refused) = refused_text refused

-- Every move of an answer's line has a text.
abbrev pub HasText : LibraryAnswer → Type 0
HasText (Solved solution) = HasLine solution
HasText (Refused refused) = Unit {0}

-- The status: that of the solution, 0 with a verdict and 1 where the search gave up; 7 where a
-- certificate is refused.
abbrev pub library_status : LibraryAnswer → ℕ
library_status (Solved solution) = solution_status solution
library_status (Refused refused) = 7
