-- What is wrong with the text of a problem with a library behind it, in words.
use Rattle.std.specs.Prelude.{◌≡◌, ℕ, List, []}
use Rattle.app_texts.specs.FaultText.{problem_fault_text}
use Rattle.library_text.specs.FaultText as library
use Rattle.cmd_library.specs.declared.fault.LibraryTextFault.{LibraryTextFault}
use Rattle.cmd_library.specs.declared.fault.LibraryTextFault.TheVariants.{Problem, Library}

-- Why there is nothing to solve, in words: the problem's fault, or the library's.
abbrev pub library_fault_text : LibraryTextFault → List ℕ
library_fault_text (Problem fault) = problem_fault_text fault
library_fault_text (Library fault) = library.library_fault_text fault

-- Nothing stands for a reader behind it: explanations look at a text as a whole, of which the
-- problem and each certificate are parts.
abbrev pub MayFollowLibrary : LibraryTextFault → List ℕ → Type 0
MayFollowLibrary fault explanation = explanation ≡ []
