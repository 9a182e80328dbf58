-- An input has one first line, stands for one problem with one library, and has no fault then.
use Rattle.std.proofs.Common.{◌≡◌, ◌∙◌, inl, inr, ℕ, List, Ok, Err, subst, sym}
use Rattle.board_core.specs.Board.{Board}
use Rattle.cert_text.specs.declared.certificate.Certificate.{Certificate}
use Rattle.cert_text.specs.Reading.{Lacks}
use Rattle.cert_text.proofs.Offered.{cut_same, not_lacks}
use Rattle.library_text.specs.Laws.{LibraryTextsApart, LibraryTextsAreFaultless}
use Rattle.library_text.specs.Reading.{IsTextOf}
use Rattle.tsume_words.specs.declared.form.ProblemForm.{ProblemForm}
use Rattle.problem_answers.specs.Reading.{OneReading, StandsFor}
use Rattle.cmd_library.specs.Answer.{IsFaultOf, IsPosed}
use Rattle.cmd_library.specs.Cut.{IsCutAtFirstLine}
use Rattle.cmd_library.specs.declared.fault.LibraryTextFault.{LibraryTextFault}
use Rattle.cmd_library.specs.declared.fault.LibraryTextFault.TheVariants.{Problem, Library}

-- an input is cut at one place
pub one_cut : (input line rest other more : List ℕ) → IsCutAtFirstLine input line rest → IsCutAtFirstLine input other more → (line ≡ other) × (rest ≡ more)
one_cut input line rest other more a b = elim a.parts as (λ _. (line ≡ other) × (rest ≡ more)) [
  | inl e ↦ elim b.parts as (λ _. (line ≡ other) × (rest ≡ more)) [
    | inl f ↦ cut_same 10 line rest other more a.is_line b.is_line (sym e ∙ f)
    | inr f ↦ absurd (not_lacks 10 line rest (subst (Lacks 10) (sym f.0 ∙ e) b.is_line))
  ]
  | inr e ↦ elim b.parts as (λ _. (line ≡ other) × (rest ≡ more)) [
    | inl f ↦ absurd (not_lacks 10 other more (subst (Lacks 10) (sym e.0 ∙ f) a.is_line))
    | inr f ↦ (sym e.0 ∙ f.0, e.1 ∙ sym f.1)
  ]
]

-- a line stands for one problem
one_problem : OneReading → (form : ProblemForm) (line : List ℕ) (p q : Board) → StandsFor form line (Ok p) → StandsFor form line (Ok q) → p ≡ q
one_problem one form line p q a b = let same = one form line (Ok p) (Ok q) a b in cc

-- what an input stands for is one problem with one library
pub same_posed : OneReading → LibraryTextsApart → (form : ProblemForm) (input : List ℕ) (p q : Board) (certificates others : List Certificate)
    → IsPosed form input p certificates → IsPosed form input q others → (p ≡ q) × (certificates ≡ others)
same_posed one apart form input p q certificates others a b =
    let same = one_cut input a.line a.rest b.line b.rest a.cut b.cut in (
      one_problem one form b.line p q (subst (λ (l : List ℕ). StandsFor form l (Ok p)) same.0 a.stands_for) b.stands_for,
      apart certificates others b.rest a.readable b.readable (subst (IsTextOf certificates) same.1 a.text) b.text,
    )

-- and then it has no fault
pub no_fault : OneReading → LibraryTextsAreFaultless → (form : ProblemForm) (input : List ℕ) (p : Board) (certificates : List Certificate)
    → IsPosed form input p certificates → (fault : LibraryTextFault) → ¬ IsFaultOf form input fault
no_fault one faultless form input p certificates a (Problem fault) b =
    let same = one_cut input a.line a.rest b.line b.rest a.cut b.cut in
    let both = one form b.line (Ok p) (Err fault) (subst (λ (l : List ℕ). StandsFor form l (Ok p)) same.0 a.stands_for) b.stands_for in
    absurd (cc)
no_fault one faultless form input p certificates a (Library fault) b =
    let same = one_cut input a.line a.rest b.line b.rest a.cut b.cut in
    faultless certificates b.rest fault a.readable (subst (IsTextOf certificates) same.1 a.text) b.first
