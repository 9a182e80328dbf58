-- What the private functions of this crate say of one another; no public clause cites these.
use Rattle.std.specs.Prelude.{◌≡◌, ℕ, List, All}
use Rattle.board_core.specs.Board.{Board}
use Rattle.cert_text.specs.declared.certificate.Certificate.{Certificate}
use Rattle.library_check.specs.Refused.{AreValid, IsFirstRefused}
use Rattle.notes.specs.Derivation.{Derivation}
use Rattle.unit_desk.specs.Known.{IsKnown}
use Rattle.one_run.specs.declared.command.Unanswered.{Unanswered}
use Rattle.one_run.specs.declared.command.Unanswered.TheVariants.{Text, NoMemory}
use Rattle.tsume_words.specs.declared.form.ProblemForm.{ProblemForm}
use Rattle.cmd_library.specs.Answer.{HasRefused, IsFaultOf, IsPosed}
use Rattle.cmd_library.specs.Notes.{notes_of}
use Rattle.app_texts.specs.declared.answer.Solution.{Solution}
use Rattle.cmd_library.specs.declared.answer.LibraryAnswer.{LibraryAnswer}
use Rattle.cmd_library.specs.declared.answer.LibraryAnswer.TheVariants as answers
use Rattle.cmd_library.specs.declared.begun.Begun.{Begun}
use Rattle.cmd_library.specs.declared.begun.Begun.TheVariants.{Ready, Refused}
use Rattle.cmd_library.specs.declared.fault.LibraryTextFault.{LibraryTextFault}

-- The notes are those of valid certificates for the problem.
pub record AreNotesOf (p : Board) (certificates : List Certificate) (notes : List Derivation) : Type 0 where
  pub valid : AreValid certificates
  pub these : notes ≡ notes_of p.side certificates

-- What certificates come to for a problem: it and their notes, or the first that is refused.
abbrev pub IsChecked : Board → List Certificate → Begun → Type 0
IsChecked p certificates (Ready problem notes) = (problem.position ≡ p) × AreNotesOf p certificates notes.items
IsChecked p certificates (Refused refused) = IsFirstRefused certificates refused

-- The input is the problem and a library of valid certificates, whose notes for it these are.
pub record IsReady (form : ProblemForm) (input : List ℕ) (p : Board) (notes : List Derivation) : Type 0 where
  pub certificates : List Certificate
  pub posed : IsPosed form input p certificates
  pub are : AreNotesOf p certificates notes

-- What an input comes to before anybody searches: so much, or the certificate that is refused.
abbrev pub IsBegun : ProblemForm → List ℕ → Begun → Type 0
IsBegun form input (Ready problem notes) = IsReady form input problem.position notes.items
IsBegun form input (Refused refused) = HasRefused form input refused

-- The notes may be known before a search of the problem begins.
abbrev pub AreKnown : Begun → Type 0
AreKnown (Ready problem notes) = All (IsKnown problem.position.side) notes.items
AreKnown (Refused refused) = Unit {0}

-- Why there is nothing to search: a fault of the input, or want of memory.
abbrev pub IsUnposed : ProblemForm → List ℕ → Unanswered LibraryTextFault → Type 0
IsUnposed form input (Text fault) = IsFaultOf form input fault
IsUnposed form input NoMemory = Unit {0}

-- The answer is a solution of which this holds.
abbrev pub IsToldBy : (Solution → Type 0) → LibraryAnswer → Type 0
IsToldBy Holds (answers.Solved solution) = Holds solution
IsToldBy Holds (answers.Refused refused) = ⊥
