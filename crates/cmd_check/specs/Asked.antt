-- What `check` is asked.
use Rattle.std.specs.Prelude.{◌≡◌, false, List, ℕ, Option, Some, None, Ok, Err, option_map, string_bytes}
use Rattle.board_core.specs.Board.{Board}
use Rattle.cert_text.specs.declared.certificate.Certificate.{Certificate}
use Rattle.cert_text.specs.Kinds.{problem_of}
use Rattle.shogi_rules.specs.declared.problem.Problem.{Problem as GivenProblem}
use Rattle.tsume_words.specs.declared.form.Format.TheVariants.{Sfen}
use Rattle.tsume_words.specs.declared.form.ProblemForm.{ProblemForm}
use Rattle.app_texts.specs.declared.fault.ProblemFault.{ProblemFault}
use Rattle.problem_answers.specs.Reading.{StandsFor}
use Rattle.cmd_check.specs.declared.words.Check.{Check}

-- The text of the problem that a certificate has to be for, where the words give one.
abbrev pub check_in : Check → Option (List ℕ)
check_in asked = option_map string_bytes asked.problem

-- The words give a certificate's problem as an SFEN, just as it stands.
abbrev pub given_form : ProblemForm
given_form = record { format = Sfen; rest = false }

-- The words give a problem that the certificate has to be for, and its text is none: this is its
-- first fault.
abbrev pub IsFaultInWords : Option (List ℕ) → ProblemFault → Type 0
IsFaultInWords None fault = ⊥
IsFaultInWords (Some text) fault = StandsFor given_form text (Err fault)

-- The problem that the words give for a certificate, where they give one.
abbrev pub IsProblemInWords : Option (List ℕ) → Option GivenProblem → Type 0
IsProblemInWords None None = Unit {0}
IsProblemInWords None (Some problem) = ⊥
IsProblemInWords (Some text) None = ⊥
IsProblemInWords (Some text) (Some problem) = StandsFor given_form text (Ok problem.position)

-- The problem for which a certificate is judged: the one whose text the words give, or its own
-- where they give none.
abbrev pub IsJudgedFor : Option (List ℕ) → Certificate → Board → Type 0
IsJudgedFor None c p = p ≡ problem_of c
IsJudgedFor (Some text) c p = StandsFor given_form text (Ok p)

-- The text that the words give for a certificate's problem is one's, where they give one.
abbrev pub AnyProblemIsSound : Option (List ℕ) → Type 0
AnyProblemIsSound None = Unit {0}
AnyProblemIsSound (Some text) = (problem : Board) × StandsFor given_form text (Ok problem)
