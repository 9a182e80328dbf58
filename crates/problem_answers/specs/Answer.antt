-- When a verdict is shown, and what is asked of the search.
use Rattle.std.specs.Prelude.{◌≡◌, List, []}
use Rattle.board_core.specs.declared.moves.Move.{Move}
use Rattle.board_core.specs.Board.{Board}
use Rattle.mate_def.specs.Mate.{IsMate}
use Rattle.cert_text.specs.declared.certificate.Certificate.{Certificate}
use Rattle.cert_text.specs.declared.certificate.Certificate.TheVariants as certificates
use Rattle.cert_text.specs.Certificate.{Mating, Escaping}
use Rattle.cert_text.specs.Kinds.{claim_of, version_of}
use Rattle.cert_text.specs.Reading.{IsReadable, IsTextOf}
use Rattle.cert_text.specs.declared.limits.TheConstants.{MOST_ENTRIES}
use Rattle.cert_check.specs.Valid.{ValidMate, ValidEscape}
use Rattle.cert_check.specs.declared.verdict.Verdict.{Verdict}
use Rattle.cert_check.specs.declared.verdict.Verdict.TheVariants.{Accepted as CheckAccepted}
use Rattle.cert_check.specs.Reasons.{IsVerdict}
use Rattle.notes.specs.Derivation.{Derivation, conclusion_of, version_in}
use Rattle.cert_extract.specs.Extracted.{claim_by, ComesFrom, HasMoreThan}
use Rattle.search_limits.specs.declared.cause.Cause.{Cause}
use Rattle.search_limits.specs.declared.cause.Cause.TheVariants.{Entries}
use Rattle.visit_log.specs.Frame.{task_for}
use Rattle.visit_log.specs.Run.{WorkerView}
use Rattle.visit_log.specs.Sound.{IsAnswer}
use Rattle.play_line.specs.Line.{IsMainLine}
use Rattle.app_texts.specs.Texts.{solution_text}
use Rattle.app_texts.specs.declared.answer.Solution.{Solution}
use Rattle.app_texts.specs.declared.answer.Solution.TheVariants.{Mate, NoMate, Unknown}

-- The checker accepts the certificate for the position: every verdict that it may come to is that
-- one.
abbrev pub IsAcceptedFor : Board → Certificate → Type 0
IsAcceptedFor p certificate = (verdict : Verdict) → IsVerdict certificate p verdict → verdict ≡ CheckAccepted

-- A mate is shown: the position is one, the certificate is valid for it and accepted, and can be
-- read, the text of the answer is one of the certificate, and the moves are its main line.
pub record IsMateShown (p : Board) (c : Mating) (moves : List Move) : Type 0 where
  pub mate : IsMate p.side p
  pub valid : ValidMate c p
  pub accepted : IsAcceptedFor p (certificates.Mate c)
  pub readable : IsReadable (certificates.Mate c)
  pub text : IsTextOf (certificates.Mate c) (solution_text (Mate c moves))
  pub line : IsMainLine c p.side p moves

-- That there is no mate is shown: the position is none, the certificate is valid for it and
-- accepted, and can be read, and the text of the answer is one of the certificate.
pub record IsNoMateShown (p : Board) (c : Escaping) : Type 0 where
  pub no_mate : ¬ IsMate p.side p
  pub valid : ValidEscape c p
  pub accepted : IsAcceptedFor p (certificates.Escape c)
  pub readable : IsReadable (certificates.Escape c)
  pub text : IsTextOf (certificates.Escape c) (solution_text (NoMate c))

-- A solution shows, with this certificate, what it says.
abbrev pub IsShown : Board → Certificate → Solution → Type 0
IsShown p certificate (Mate c moves) = (certificate ≡ certificates.Mate c) × IsMateShown p c moves
IsShown p certificate (NoMate c) = (certificate ≡ certificates.Escape c) × IsNoMateShown p c
IsShown p certificate (Unknown cause crew) = ⊥

-- A solution shows with a certificate what it says; the certificate claims what the note concludes,
-- is of the version that the note's tree has, and what it lists comes from that tree.
pub record IsShownBy (p : Board) (note : Derivation) (solution : Solution) : Type 0 where
  pub certificate : Certificate
  pub claim : claim_of certificate ≡ claim_by (conclusion_of note)
  pub version : version_of certificate ≡ version_in note
  pub from : ComesFrom note certificate
  pub shown : IsShown p certificate solution

-- The verdict of a note that answers the problem isn't told: a walk through its tree meets more
-- different positions of the attacker than entries are read. No workers are named.
pub record IsUntold (p : Board) (note : Derivation) (its_cause : Cause) (crew : List WorkerView) : Type 0 where
  pub cause : its_cause ≡ Entries MOST_ENTRIES
  pub answers : IsAnswer (task_for p 1) note
  pub more : HasMoreThan MOST_ENTRIES p note
  pub nobody : crew ≡ []

-- A solution is the verdict of a note: it is shown, or it isn't told.
abbrev pub IsVerdictOf : Board → Derivation → Solution → Type 0
IsVerdictOf p note (Mate c moves) = IsShownBy p note (Mate c moves)
IsVerdictOf p note (NoMate c) = IsShownBy p note (NoMate c)
IsVerdictOf p note (Unknown cause crew) = IsUntold p note cause crew
