-- When a finding about the shortest mate of a problem is true.
use Rattle.std.specs.Prelude.{◌≡◌, ◌⊎◌, ◌-◌, ◌≤◌, ◌<◌, ℕ, List, length, ⊤}
use Rattle.board_core.specs.declared.moves.Move.{Move}
use Rattle.board_core.specs.Board.{Board}
use Rattle.mate_def.specs.Mate.{RankAtMost}
use Rattle.mate_facts.specs.declared.rank.Rank.{Rank}
use Rattle.mate_facts.specs.Entries.{IsListedWith}
use Rattle.hand_dominance.specs.declared.version.Version.TheVariants.{One}
use Rattle.cert_text.specs.Certificate.{CertificateView, Escaping, IsEscaping, Mating, mate_form}
use Rattle.cert_text.specs.Reading.{IsReadableOf}
use Rattle.cert_check.specs.Valid.{ValidEscape, ValidMate}
use Rattle.bound_text.specs.declared.entry.BoundEntry.{BoundEntry}
use Rattle.bound_text.specs.Reading as bounds
use Rattle.bound_check.specs.Valid.{IsValidBound}
use Rattle.shortest_facts.specs.Facts.{Known, AreBorneOut}
use Rattle.shortest_lists.specs.Line.{IsShortestLine}
use Rattle.shortest_lists.specs.Reached.{HasMoreThan, IsBoundStep, IsMateStep}
use Rattle.shortest_search.specs.Visit.{IsLength}
use Rattle.usi_text.specs.Lines.{AllHaveText}
use Rattle.cert_text.specs.declared.limits.TheConstants.{MOST_ENTRIES}
use Rattle.search_gate.specs.Stop.{Signal, one_more}
use Rattle.search_limits.specs.declared.cause.Cause.TheVariants.{Expansions, Room, Height, Stopped, Entries}
use Rattle.shortest_mate.specs.declared.finding.Finding.{Finding}
use Rattle.shortest_mate.specs.declared.finding.Finding.TheVariants.{Found, NoneWithin, Unknown}

-- The shortest mate of the problem takes so many of the attacker's moves: the certificate, of
-- version 1, is valid for the problem and has it with that rank; the bound, which is for the
-- problem, is valid for one move less; the line goes to the mate by both. So the problem is mate
-- within that number and within none that is less. Certificate and bound can be read once they are
-- written.
pub record IsShortest (problem : Board) (rank : Rank) (c : Mating) (b : CertificateView BoundEntry) (line : List Move) : Type 0 where
  pub valid : ValidMate c problem
  pub version : c.version ≡ One
  pub own_rank : IsListedWith c.entries rank.number problem
  pub about : b.problem ≡ problem
  pub bound : IsValidBound b.entries problem (rank.number - 1)
  pub is_line : IsShortestLine c b.entries problem rank.number line
  pub mate : RankAtMost problem.side rank.number problem
  pub none_shorter : ¬ RankAtMost problem.side (rank.number - 1) problem
  pub readable : IsReadableOf (mate_form c.problem) c
  pub bound_readable : bounds.IsReadable problem b

-- No mate of the problem is as short as the limit: the bound, which is for the problem, is valid
-- for the limit, and can be read once it is written.
pub record IsNoneWithin (problem : Board) (limit : ℕ) (b : CertificateView BoundEntry) : Type 0 where
  pub about : b.problem ≡ problem
  pub bound : IsValidBound b.entries problem limit
  pub none : ¬ RankAtMost problem.side limit problem
  pub bound_readable : bounds.IsReadable problem b

-- What is known of lengths, which is borne out and tells this, leads along such steps from the
-- problem to more positions than are read.
pub record LeadsTooFar (problem : Board) (Tells : Known → Type 0) (Step : Known → Board → Board → Type 0) : Type 0 where
  pub known : Known
  pub for_attacker : known.attacker ≡ problem.side
  pub borne_out : AreBorneOut known
  pub tells : Tells known
  pub more : HasMoreThan (Step known) problem MOST_ENTRIES

-- A certificate that the problem is no mate, which is valid and keeps what each keeps, lists more
-- positions than are read.
pub record ListsTooMany (problem : Board) : Type 0 where
  pub certificate : Escaping
  pub keeps : IsEscaping certificate
  pub valid : ValidEscape certificate problem
  pub more : MOST_ENTRIES < length certificate.entries

-- The length of the problem's mate is known, and within the limit; or it is known to be more.
abbrev pub IsKnownUpTo : ℕ → Board → Known → Type 0
IsKnownUpTo limit problem known = IsLength known problem limit ⊎ (limit < (known.at problem).least)

-- More positions than are read would have to be listed: along the mate whose length is known,
-- within the limit; along the bound below that length, or up to the limit; or of an escape.
abbrev pub HasTooMany : Board → ℕ → Type 0
HasTooMany problem limit =
    LeadsTooFar problem (λ known. IsLength known problem limit) IsMateStep
    ⊎ (LeadsTooFar problem (IsKnownUpTo limit problem) IsBoundStep ⊎ ListsTooMany problem)

-- When a finding about the shortest mate of a problem, up to a limit, with so many expansions at
-- most, of which so many were made, is true.
abbrev pub IsTrueOf : Board → ℕ → ℕ → ℕ → Finding → Type 0
IsTrueOf problem limit expansions made (Found rank c b line) = IsShortest problem rank c b line.items × (rank.number ≤ limit)
IsTrueOf problem limit expansions made (NoneWithin found b) = (found.number ≡ limit) × IsNoneWithin problem limit b
IsTrueOf problem limit expansions made (Unknown (Expansions number)) = (number ≡ expansions) × (made ≡ expansions)
IsTrueOf problem limit expansions made (Unknown (Stopped worker)) = worker ≡ 1
IsTrueOf problem limit expansions made (Unknown (Entries number)) = (number ≡ MOST_ENTRIES) × HasTooMany problem limit
IsTrueOf problem limit expansions made (Unknown (Room number)) = ⊥
IsTrueOf problem limit expansions made (Unknown (Height number)) = ⊥

-- What is found can be printed: a line has a move, and each has a text; a bound is of version 1.
abbrev pub IsPrintable : Finding → Type 0
IsPrintable (Found rank c b line) = (0 < length line.items) × AllHaveText line.items × (b.version ≡ One)
IsPrintable (NoneWithin limit b) = b.version ≡ One
IsPrintable (Unknown cause) = ⊤

-- A stop is heeded: where it signalled, which it did once, the finding is that it was stopped.
abbrev pub HeedsStop : Signal → Signal → Finding → Type 0
HeedsStop before after (Unknown (Stopped worker)) = (after.raised ≡ one_more before.raised) × (after.last ≡ after.polls)
HeedsStop before after other = after.raised ≡ before.raised
