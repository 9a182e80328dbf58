-- When a judgement on a text about the shortest mate is true.
use Rattle.std.specs.Prelude.{◌≡◌, ◌⊎◌, ◌-◌, ℕ, List, Option, Some, None, Ok}
use Rattle.board_core.specs.Board.{Board}
use Rattle.mate_def.specs.Mate.{RankAtMost}
use Rattle.mate_facts.specs.Entries.{IsListedWith}
use Rattle.cert_text.specs.Certificate.{CertificateView, Mating}
use Rattle.cert_text.specs.declared.certificate.Certificate.TheVariants.{Mate}
use Rattle.cert_check.specs.Valid.{ValidMate}
use Rattle.bound_text.specs.declared.entry.BoundEntry.{BoundEntry}
use Rattle.bound_check.specs.Valid.{IsValidBound}
use Rattle.bound_check.specs.Reasons.{IsFirstAgainst}
use Rattle.shortest_text.specs.declared.text.ShortestText.{ShortestText}
use Rattle.shortest_text.specs.declared.text.ShortestText.TheVariants as texts
use Rattle.shortest_text.specs.declared.fault.ShortestFault.{ShortestFault}
use Rattle.shortest_text.specs.Reading.{HasFirstFault, IsReadable, IsShortestOutcome, IsTextOf}
use Rattle.problem_answers.specs.Reading.{StandsFor}
use Rattle.cmd_check.specs.Answer.{IsRefusal}
use Rattle.cmd_check.specs.Asked.{given_form}
use Rattle.cmd_bound.specs.declared.judgement.BoundJudgement.{BoundJudgement}
use Rattle.cmd_bound.specs.declared.judgement.BoundJudgement.TheVariants.{Shortest, NoneWithin, MateRefused, Refused}
use Rattle.cmd_bound.specs.declared.judgement.BoundWhy.TheVariants.{Root, Rank, Check}

-- A position is a mate within so many of the attacker's moves, and within no fewer.
pub record IsShortest (p : Board) (moves : ℕ) : Type 0 where
  pub mate : RankAtMost p.side moves p
  pub no_shorter : ¬ RankAtMost p.side (moves - 1) p

-- A mate's certificate is valid for a position, and lists it with this rank.
pub record IsMateIn (c : Mating) (p : Board) (moves : ℕ) : Type 0 where
  pub valid : ValidMate c p
  pub ranked : IsListedWith c.entries moves p

-- A mate with a bound was accepted for a position: the certificate bears out that it is a mate in
-- so many moves, the bound that no mate is shorter, and so it is.
pub record IsAccepted (p : Board) (c : Mating) (b : CertificateView BoundEntry) (moves : ℕ) : Type 0 where
  pub mate : IsMateIn c p moves
  pub bound : IsValidBound b.entries p (moves - 1)
  pub shortest : IsShortest p moves

-- A bound alone was accepted for a position: it is about it, and valid for so many moves, and there
-- is no mate within them.
pub record IsNoneAccepted (p : Board) (b : CertificateView BoundEntry) (moves : ℕ) : Type 0 where
  pub problem : b.problem ≡ p
  pub bound : IsValidBound b.entries p moves
  pub no_mate : ¬ RankAtMost p.side moves p

-- A judgement is true of a mate of this rank with a bound behind it, for a position. Refused: the
-- certificate, for its first reason; else the bound, since the mate has another rank, or for its
-- first reason.
abbrev pub IsTrueOfMate : Board → ℕ → Mating → CertificateView BoundEntry → BoundJudgement → Type 0
IsTrueOfMate p rank c b (Shortest moves) = (moves ≡ rank) × IsAccepted p c b rank
IsTrueOfMate p rank c b (NoneWithin moves) = ⊥
IsTrueOfMate p rank c b (MateRefused entry why) = IsRefusal p (Mate c) entry why
IsTrueOfMate p rank c b (Refused entry Rank) = (entry ≡ 0) × ValidMate c p × ¬ IsListedWith c.entries rank p
IsTrueOfMate p rank c b (Refused entry Root) = (entry ≡ 0) × IsMateIn c p rank × IsFirstAgainst b.entries p (rank - 1) entry None
IsTrueOfMate p rank c b (Refused entry (Check check)) = IsMateIn c p rank × IsFirstAgainst b.entries p (rank - 1) entry (Some check)

-- A judgement is true of a bound alone, of so many moves, for a position. Refused: it is about
-- another, or for its first reason.
abbrev pub IsTrueOfBound : Board → ℕ → CertificateView BoundEntry → BoundJudgement → Type 0
IsTrueOfBound p limit b (Shortest moves) = ⊥
IsTrueOfBound p limit b (NoneWithin moves) = (moves ≡ limit) × IsNoneAccepted p b limit
IsTrueOfBound p limit b (MateRefused entry why) = ⊥
IsTrueOfBound p limit b (Refused entry Rank) = ⊥
IsTrueOfBound p limit b (Refused entry Root) = (entry ≡ 0) × ((¬ (b.problem ≡ p)) ⊎ IsFirstAgainst b.entries p limit entry None)
IsTrueOfBound p limit b (Refused entry (Check check)) = (b.problem ≡ p) × IsFirstAgainst b.entries p limit entry (Some check)

-- A judgement is true of what a text says, for a position.
abbrev pub IsTrueOfText : Board → ShortestText → BoundJudgement → Type 0
IsTrueOfText p (texts.Found rank c b) judgement = IsTrueOfMate p rank.number c b judgement
IsTrueOfText p (texts.NoneWithin limit b) judgement = IsTrueOfBound p limit.number b judgement

-- The problem that a text is about.
abbrev pub problem_of : ShortestText → Board
problem_of (texts.Found rank c b) = c.problem
problem_of (texts.NoneWithin limit b) = b.problem

-- The problem for which a text is judged: the one whose text the words give, or its own where they
-- give none.
abbrev pub IsJudgedFor : Option (List ℕ) → Board → Board → Type 0
IsJudgedFor None own p = p ≡ own
IsJudgedFor (Some text) own p = StandsFor given_form text (Ok p)

-- A judgement is true of what a text says, for the problem whose text the words give, or for its
-- own.
pub record IsJudgementOn (problem : Option (List ℕ)) (text : ShortestText) (judgement : BoundJudgement) : Type 0 where
  pub board : Board
  pub judged_for : IsJudgedFor problem (problem_of text) board
  pub true_of : IsTrueOfText board text judgement

-- The bytes of an input are one text about the shortest mate, of which the judgement is true.
pub record IsJudged (problem : Option (List ℕ)) (input : List ℕ) (judgement : BoundJudgement) : Type 0 where
  pub text : ShortestText
  pub read : IsShortestOutcome input (Ok text)
  pub only : (t : ShortestText) → IsReadable t → IsTextOf t input → t ≡ text
  pub judged : IsJudgementOn problem text judgement

-- The bytes of an input are no text about the shortest mate, and have this first fault as one, and
-- no other.
pub record IsNoText (input : List ℕ) (fault : ShortestFault) : Type 0 where
  pub first : HasFirstFault input fault
  pub only : (other : ShortestFault) → HasFirstFault input other → other ≡ fault
  pub none : (t : ShortestText) → IsReadable t → ¬ IsTextOf t input
