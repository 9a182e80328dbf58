-- How a verdict on a bound is told.
use Rattle.std.specs.Prelude.{◌≡◌, ℕ, List, Option, Some, None}
use Rattle.board_core.specs.Board.{Board}
use Rattle.board_core.specs.declared.moves.Move.{Move}
use Rattle.mate_def.specs.Mate.{RankAtMost}
use Rattle.cert_text.specs.Certificate.{CertificateView, Mating}
use Rattle.bound_text.specs.declared.entry.BoundEntry.{BoundEntry}
use Rattle.bound_check.specs.Reasons.{IsVerdict}
use Rattle.bound_check.specs.declared.verdict.BoundVerdict.{BoundVerdict}
use Rattle.bound_check.specs.declared.verdict.BoundVerdict.TheVariants as verdicts
use Rattle.cmd_bound.specs.Answer.{IsMateIn, IsTrueOfMate}
use Rattle.cmd_bound.specs.declared.judgement.BoundJudgement.{BoundJudgement}
use Rattle.cmd_bound.specs.declared.judgement.BoundJudgement.TheVariants.{Refused}
use Rattle.cmd_bound.specs.declared.judgement.BoundWhy.{BoundWhy}
use Rattle.cmd_bound.specs.declared.judgement.BoundWhy.TheVariants.{Root, Check}

-- The reason that a verdict names: a check, or the bound as a whole.
abbrev pub why_of : Option Move → BoundWhy
why_of None = Root
why_of (Some check) = Check check

-- The judgement that tells a verdict on a bound, by the one where it is accepted.
abbrev pub told_by : BoundJudgement → BoundVerdict → BoundJudgement
told_by accepted verdicts.Accepted = accepted
told_by accepted (verdicts.Refused entry check) = Refused entry (why_of check)

-- The judgement tells the verdict on a bound, for a position and so many moves.
pub record TellsVerdict (entries : List BoundEntry) (p : Board) (within : ℕ) (accepted judgement : BoundJudgement) : Type 0 where
  pub verdict : BoundVerdict
  pub is_verdict : IsVerdict entries p within verdict
  pub is_told : judgement ≡ told_by accepted verdict

-- What is said of a mate of this rank, for a position: nothing where the certificate is valid for
-- it and lists it with this rank, so that it is a mate in so many moves; else what is true of it
-- whatever bound stands behind it.
abbrev pub SaysOfMate : Board → ℕ → Mating → Option BoundJudgement → Type 0
SaysOfMate p rank c None = IsMateIn c p rank × RankAtMost p.side rank p
SaysOfMate p rank c (Some judgement) = (b : CertificateView BoundEntry) → IsTrueOfMate p rank c b judgement
