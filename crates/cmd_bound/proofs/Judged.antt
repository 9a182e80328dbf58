-- What is true of a mate with a bound, from what was found of each.
use Rattle.std.proofs.Common.{ℕ, zero, suc, List, Some, None, refl, subst, sym}
use Rattle.std.specs.Prelude.{◌-◌}
use Rattle.board_core.specs.Board.{Board}
use Rattle.mate_def.specs.Mate.{RankAtMost}
use Rattle.cert_text.specs.Certificate.{CertificateView, Mating}
use Rattle.bound_text.specs.declared.entry.BoundEntry.{BoundEntry}
use Rattle.bound_check.specs.Valid.{IsValidBound, ShowsBound}
use Rattle.bound_check.specs.Reasons.{IsVerdict}
use Rattle.bound_check.specs.declared.verdict.BoundVerdict.{BoundVerdict}
use Rattle.bound_check.specs.declared.verdict.BoundVerdict.TheVariants as verdicts
use Rattle.cmd_bound.specs.declared.judgement.BoundJudgement.{BoundJudgement}
use Rattle.cmd_bound.specs.declared.judgement.BoundJudgement.TheVariants.{Shortest}
use Rattle.cmd_bound.specs.Answer.{IsMateIn, IsTrueOfMate}
use Rattle.cmd_bound.specs.Told.{TellsVerdict, told_by}

-- what a valid bound shows
abbrev pub ValidShows : Type 0
ValidShows = (entries : List BoundEntry) (p : Board) (within : ℕ) → IsValidBound entries p within → ShowsBound entries p within

told_so : ValidShows → (p : Board) (rank : ℕ) (c : Mating) (b : CertificateView BoundEntry) → IsMateIn c p rank → RankAtMost p.side rank p
    → (verdict : BoundVerdict) → IsVerdict b.entries p (rank - 1) verdict → IsTrueOfMate p rank c b (told_by (Shortest rank) verdict)
told_so shows p rank c b mate ranked verdicts.Accepted valid = (
  refl,
  record { mate = mate; bound = valid; shortest = record { mate = ranked; no_shorter = (shows b.entries p (rank - 1) valid).no_mate } },
)
told_so shows p rank c b mate ranked (verdicts.Refused zero None) first = (refl, mate, first)
told_so shows p rank c b mate ranked (verdicts.Refused (suc entry) None) first = absurd first.reason
told_so shows p rank c b mate ranked (verdicts.Refused entry (Some check)) first = (mate, first)

-- where the mate is right, what tells the verdict on the bound is true
pub told_of_mate : ValidShows → (p : Board) (rank : ℕ) (c : Mating) (b : CertificateView BoundEntry) (judgement : BoundJudgement)
    → IsMateIn c p rank × RankAtMost p.side rank p → TellsVerdict b.entries p (rank - 1) (Shortest rank) judgement → IsTrueOfMate p rank c b judgement
told_of_mate shows p rank c b judgement mate tells =
    subst (λ (j : BoundJudgement). IsTrueOfMate p rank c b j) (sym tells.is_told) (told_so shows p rank c b mate.0 mate.1 tells.verdict tells.is_verdict)
