-- What the user is told of a run beside its answer.
use Rattle.std.specs.Prelude.{◌≡◌, ◌++◌, ◌⊎◌, ℕ, List, [], ◌∷◌, Option, Some, None, codes}
use Rattle.explanations.specs.declared.trouble.Trouble.{Trouble}
use Rattle.explanations.specs.Shown.{IsHarmless, IsPlain, IsReadable}
use Rattle.app_texts.specs.declared.fault.ProblemFault.{ProblemFault}
use Rattle.app_texts.specs.declared.fault.ProblemFault.TheVariants.{Text, Diagram, DefenderInCheck}
use Rattle.kif_moves.specs.declared.fault.KifMovesFault.{KifMovesFault}
use Rattle.kif_moves.specs.declared.fault.KifMovesFault.TheVariants as moves
use Rattle.one_run.specs.declared.ended.Ended.{Ended}
use Rattle.one_run.specs.declared.ended.Ended.TheVariants.{Answered, CutShort, Failed}
use Rattle.one_run.specs.declared.ended.Fault.{Fault}
use Rattle.one_run.specs.declared.ended.Fault.TheVariants as faults
use Rattle.one_run.specs.declared.written.Written.{Written}
use Rattle.one_run.specs.declared.written.Written.TheVariants as written

-- What stands for a reader behind the line of a problem's fault: printable ASCII and line feeds,
-- and of a diagram's the characters of Japanese texts too.
abbrev pub MayFollowProblem : ProblemFault → List ℕ → Type 0
MayFollowProblem (Text fault) explanation = IsPlain explanation
MayFollowProblem (Diagram fault) explanation = IsReadable explanation
MayFollowProblem DefenderInCheck explanation = IsPlain explanation

-- What stands for a reader behind the line of a fault of a text with moves: of a diagram's the
-- characters of Japanese texts too.
abbrev pub MayFollowMoves : KifMovesFault → List ℕ → Type 0
MayFollowMoves (moves.Diagram fault) explanation = IsReadable explanation
MayFollowMoves fault explanation = IsPlain explanation

-- What the user is told of a run: a line in words, if any; and what may stand behind it for a
-- reader, which can't steer a terminal.
pub record Telling : Type 1 where
  pub line : Option (List ℕ)
  pub MayFollow : List ℕ → Type 0

-- The user is told nothing.
abbrev pub nothing : Telling
nothing = record { line = None; MayFollow = λ explanation. explanation ≡ [] }

-- The user is told this line, and nothing behind it.
abbrev pub alone : List ℕ → Telling
alone text = record { line = Some text; MayFollow = λ explanation. explanation ≡ [] }

-- The user is told this line, and behind it printable ASCII and line feeds.
abbrev pub plainly : List ℕ → Telling
plainly text = record { line = Some text; MayFollow = IsPlain }

-- What the user is told of a fault, by what is told of one of the text.
abbrev pub fault_telling : {F : Type 0} → (F → List ℕ) → (F → List ℕ → Type 0) → Fault F → Telling
fault_telling text_of MayFollow (faults.Text fault) = record { line = Some (text_of fault); MayFollow = MayFollow fault }
fault_telling text_of MayFollow faults.TooLong = plainly (codes "too long")
fault_telling text_of MayFollow faults.Read = alone (codes "read fault")
fault_telling text_of MayFollow faults.NoMemory = plainly (codes "out of memory")

-- What the user is told of an ending: nothing where the run was answered, that the sink failed, or
-- why the run failed.
abbrev pub ended_telling : {A F : Type 0} → (F → List ℕ) → (F → List ℕ → Type 0) → Ended A F → Telling
ended_telling text_of MayFollow (Answered answer) = nothing
ended_telling text_of MayFollow (CutShort answer) = plainly (codes "write fault")
ended_telling text_of MayFollow (Failed fault input) = fault_telling text_of MayFollow fault

-- The same where the run reads nothing.
abbrev pub written_telling : {A : Type 0} → Written A → Telling
written_telling (written.Whole answer) = nothing
written_telling (written.InPart answer) = plainly (codes "write fault")
written_telling written.NoMemory = plainly (codes "out of memory")

-- The line for the user: `tsume: `, the words, and a line feed; or no line.
abbrev pub told_text : Option (List ℕ) → List ℕ
told_text None = []
told_text (Some words) = codes "tsume: " ++ words ++ 10 ∷ []

-- A text begins with the line that the user is told, and what stands behind it may.
pub record BeginsAsTold (telling : Telling) (text : List ℕ) : Type 0 where
  pub more : List ℕ
  pub begins : text ≡ told_text telling.line ++ more
  pub follows : telling.MayFollow more

-- A text is this line for the user, and behind it nothing, or what explains the trouble.
pub record IsToldLine (words : List ℕ) (trouble : Option Trouble) (text : List ℕ) : Type 0 where
  pub more : List ℕ
  pub begins : text ≡ told_text (Some words) ++ more
  pub explains : (more ≡ []) ⊎ ((t : Trouble) × (trouble ≡ Some t) × IsHarmless t more)
