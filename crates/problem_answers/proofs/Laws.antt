-- No text stands for two things.
use Rattle.std.proofs.Common.{◌≡◌, ◌∙◌, ℕ, List, Result, Ok, Err, ap, refl, subst, sym}
use Rattle.bit_boards.specs.Kind.{other}
use Rattle.board_core.specs.Board.{Board}
use Rattle.shogi_rules.specs.Rules.{IsInCheck}
use Rattle.sfen_text.specs.Laws.{OneReadingOutcome}
use Rattle.sfen_text.specs.declared.fault.TextFault.{TextFault}
use Rattle.kif_text.specs.Reading.{OneReadingOutcome as OneDiagramOutcome}
use Rattle.kif_text.specs.declared.fault.KifFault.{KifFault}
use Rattle.tsume_words.specs.declared.form.Format.{Format}
use Rattle.tsume_words.specs.declared.form.Format.TheVariants.{Sfen, Kif}
use Rattle.tsume_words.specs.declared.form.ProblemForm.{ProblemForm}
use Rattle.app_texts.specs.declared.fault.ProblemFault.{ProblemFault}
use Rattle.app_texts.specs.declared.fault.ProblemFault.TheVariants.{Text, Diagram, DefenderInCheck}
use Rattle.problem_answers.specs.Reading.{IsPositionRead, OneReading, StandsFor, searched_board}

-- no text of a format is two positions, a position with a fault, or has two first faults
abbrev OnePosition : Type 0
OnePosition = (format : Format) (input : List ℕ) (one other : Result Board ProblemFault) → IsPositionRead format input one
    → IsPositionRead format input other → one ≡ other

-- the laws of the two formats are one
one_position : OneReadingOutcome → OneDiagramOutcome → OnePosition
one_position sfen kif Sfen input (Ok p) (Ok q) s t = let same = sfen input (Ok p) (Ok q) s t in let is : p ≡ q = cc in ap Ok is
one_position sfen kif Sfen input (Ok p) (Err (Text g)) s t = let same = sfen input (Ok p) (Err g) s t in absurd (cc)
one_position sfen kif Sfen input (Err (Text f)) (Ok q) s t = let same = sfen input (Err f) (Ok q) s t in absurd (cc)
one_position sfen kif Sfen input (Err (Text f)) (Err (Text g)) s t =
    let same = sfen input (Err f) (Err g) s t in let is : f ≡ g = cc in ap (λ (x : TextFault). Err (Text x)) is
one_position sfen kif Sfen input (Err (Diagram f)) other s t = absurd s
one_position sfen kif Sfen input (Err DefenderInCheck) other s t = absurd s
one_position sfen kif Sfen input one (Err (Diagram g)) s t = absurd t
one_position sfen kif Sfen input one (Err DefenderInCheck) s t = absurd t
one_position sfen kif Kif input (Ok p) (Ok q) s t = let same = kif input (Ok p) (Ok q) s t in let is : p ≡ q = cc in ap Ok is
one_position sfen kif Kif input (Ok p) (Err (Diagram g)) s t = let same = kif input (Ok p) (Err g) s t in absurd (cc)
one_position sfen kif Kif input (Err (Diagram f)) (Ok q) s t = let same = kif input (Err f) (Ok q) s t in absurd (cc)
one_position sfen kif Kif input (Err (Diagram f)) (Err (Diagram g)) s t =
    let same = kif input (Err f) (Err g) s t in let is : f ≡ g = cc in ap (λ (x : KifFault). Err (Diagram x)) is
one_position sfen kif Kif input (Err (Text f)) other s t = absurd s
one_position sfen kif Kif input (Err DefenderInCheck) other s t = absurd s
one_position sfen kif Kif input one (Err (Text g)) s t = absurd t
one_position sfen kif Kif input one (Err DefenderInCheck) s t = absurd t

-- a text that is a position's has no fault
position_has_no_fault : OnePosition → (format : Format) (input : List ℕ) (p : Board) (f : ProblemFault) → IsPositionRead format input (Ok p)
    → IsPositionRead format input (Err f) → ⊥
position_has_no_fault one format input p f s t = let same = one format input (Ok p) (Err f) s t in absurd (cc)

-- and one that is none has one fault
one_text_fault : OnePosition → (format : Format) (input : List ℕ) (f g : ProblemFault) → IsPositionRead format input (Err f)
    → IsPositionRead format input (Err g) → f ≡ g
one_text_fault one format input f g s t = let same = one format input (Err f) (Err g) s t in cc

-- what stands for a problem has no fault
problem_has_no_fault : OnePosition → (form : ProblemForm) (input : List ℕ) (p : Board) (f : ProblemFault) → StandsFor form input (Ok p)
    → StandsFor form input (Err f) → ⊥
problem_has_no_fault one form input p (Text f) s t = position_has_no_fault one form.format input s.position (Text f) s.read t
problem_has_no_fault one form input p (Diagram f) s t = position_has_no_fault one form.format input s.position (Diagram f) s.read t
problem_has_no_fault one form input p DefenderInCheck s t =
    let outcomes = one form.format input (Ok t.position) (Ok s.position) t.read s.read in
    let same : t.position ≡ s.position = cc in
    s.is_problem.quiet
    (subst (λ (q : Board). IsInCheck q.cells (other q.side)) (sym s.searched)
    (subst (λ (q : Board). IsInCheck (searched_board form.rest q).cells (other (searched_board form.rest q).side)) same t.in_check))

-- it is one problem
one_problem : OnePosition → (form : ProblemForm) (input : List ℕ) (p q : Board) → StandsFor form input (Ok p) → StandsFor form input (Ok q) → p ≡ q
one_problem one form input p q s t =
    let outcomes = one form.format input (Ok s.position) (Ok t.position) s.read t.read in
    let is : s.position ≡ t.position = cc in
    s.searched ∙ ap (searched_board form.rest) is ∙ sym t.searched

-- what stands for no problem has one fault
one_fault : OnePosition → (form : ProblemForm) (input : List ℕ) (f g : ProblemFault) → StandsFor form input (Err f) → StandsFor form input (Err g)
    → f ≡ g
one_fault one form input (Text f) (Text g) s t = one_text_fault one form.format input (Text f) (Text g) s t
one_fault one form input (Text f) (Diagram g) s t = one_text_fault one form.format input (Text f) (Diagram g) s t
one_fault one form input (Diagram f) (Text g) s t = one_text_fault one form.format input (Diagram f) (Text g) s t
one_fault one form input (Diagram f) (Diagram g) s t = one_text_fault one form.format input (Diagram f) (Diagram g) s t
one_fault one form input (Text f) DefenderInCheck s t = absurd (position_has_no_fault one form.format input t.position (Text f) t.read s)
one_fault one form input (Diagram f) DefenderInCheck s t = absurd (position_has_no_fault one form.format input t.position (Diagram f) t.read s)
one_fault one form input DefenderInCheck (Text g) s t = absurd (position_has_no_fault one form.format input s.position (Text g) s.read t)
one_fault one form input DefenderInCheck (Diagram g) s t = absurd (position_has_no_fault one form.format input s.position (Diagram g) s.read t)
one_fault one form input DefenderInCheck DefenderInCheck s t = refl

-- no text stands for two things in a form
reading_of : OnePosition → OneReading
reading_of one form input (Ok p) (Ok q) s t = ap Ok (one_problem one form input p q s t)
reading_of one form input (Ok p) (Err f) s t = absurd (problem_has_no_fault one form input p f s t)
reading_of one form input (Err f) (Ok p) s t = absurd (problem_has_no_fault one form input p f t s)
reading_of one form input (Err f) (Err g) s t = ap Err (one_fault one form input f g s t)

pub one_reading : OneReadingOutcome → OneDiagramOutcome → OneReading
one_reading sfen kif = reading_of (one_position sfen kif)
