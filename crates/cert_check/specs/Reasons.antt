-- Why a certificate is refused: what may be wrong with it, and which of several reasons is named.
use Rattle.std.specs.Prelude.{◌≡◌, ◌<◌, ◌+◌, ◌⊎◌, ℕ, zero, suc, List, Option, Some, None, slice_get, IsSomeAnd}
use Rattle.bit_boards.specs.declared.piece.Side.{Side}
use Rattle.board_core.specs.declared.moves.Move.{Move}
use Rattle.mate_facts.specs.declared.entry.MateEntry.{MateEntry}
use Rattle.board_core.specs.Board.{Board}
use Rattle.board_core.specs.Order.{order_of}
use Rattle.shogi_rules.specs.Rules.{after}
use Rattle.shogi_rules.specs.Tsume.{IsCheck, IsEvasion}
use Rattle.mate_def.specs.Mate.{after_both, HasEvasionTo}
use Rattle.hand_dominance.specs.declared.version.Version.{Version}
use Rattle.hand_dominance.specs.BorneOut.{CoversListed, CoversLower, IsBorneOut, IsCovered, IsHeld}
use Rattle.cert_text.specs.declared.certificate.Certificate.{Certificate}
use Rattle.cert_text.specs.declared.certificate.Certificate.TheVariants.{Mate, Escape}
use Rattle.cert_text.specs.Kinds.{problem_of}
use Rattle.cert_check.specs.Valid.{IsValid}
use Rattle.cert_check.specs.declared.verdict.Why.{Why}
use Rattle.cert_check.specs.declared.verdict.Why.TheVariants.{RootMissing, NotACheck, EvasionOutside, RankNotLower, CheckUnanswered}
use Rattle.cert_check.specs.declared.verdict.Verdict.{Verdict}
use Rattle.cert_check.specs.declared.verdict.Verdict.TheVariants.{Accepted, Refused}

-- The position covers no listed one.
abbrev pub IsOutside : Version → List MateEntry → Side → Board → Type 0
IsOutside version entries attacker position = ¬ CoversListed version entries attacker position

-- The position covers a listed one, but none whose rank is lower than this one.
pub record IsNotLower (version : Version) (entries : List MateEntry) (attacker : Side) (rank : ℕ) (position : Board) : Type 0 where
  pub listed : CoversListed version entries attacker position
  pub not_lower : ¬ CoversLower version entries attacker rank position

-- A reason against an entry of a mate. NotACheck: its move, this one, isn't a check of its
-- position. EvasionOutside: the position after this evasion covers no listed one. RankNotLower: it
-- covers one, but none of lower rank.
abbrev pub MateReason : Version → List MateEntry → Side → MateEntry → Why → Type 0
MateReason version entries attacker entry RootMissing = ⊥
MateReason version entries attacker entry (NotACheck move) = (move ≡ entry.by) × (¬ IsCheck attacker entry.at entry.by)
MateReason version entries attacker entry (EvasionOutside evasion) =
    IsEvasion attacker (after entry.at entry.by) evasion × IsOutside version entries attacker (after_both entry.at entry.by evasion)
MateReason version entries attacker entry (RankNotLower evasion) =
    IsEvasion attacker (after entry.at entry.by) evasion
    × IsNotLower version entries attacker entry.rank.number (after_both entry.at entry.by evasion)
MateReason version entries attacker entry (CheckUnanswered check) = ⊥

-- The judgement on an evasion from an entry of a rank, by the position that it leads to: nothing
-- where that covers a listed one of lower rank, else what is wrong with it.
abbrev pub IsEvasionJudged : Version → List MateEntry → Side → ℕ → Board → Move → Option Why → Type 0
IsEvasionJudged version entries attacker rank position evasion None = CoversLower version entries attacker rank position
IsEvasionJudged version entries attacker rank position evasion (Some RootMissing) = ⊥
IsEvasionJudged version entries attacker rank position evasion (Some (NotACheck move)) = ⊥
IsEvasionJudged version entries attacker rank position evasion (Some (EvasionOutside move)) =
    (move ≡ evasion) × IsOutside version entries attacker position
IsEvasionJudged version entries attacker rank position evasion (Some (RankNotLower move)) =
    (move ≡ evasion) × IsNotLower version entries attacker rank position
IsEvasionJudged version entries attacker rank position evasion (Some (CheckUnanswered move)) = ⊥

-- A reason against an entry of an escape. CheckUnanswered: no evasion to this check of its position
-- leads to a position that a listed one covers.
abbrev pub EscapeReason : Version → List Board → Side → Board → Why → Type 0
EscapeReason version positions attacker b RootMissing = ⊥
EscapeReason version positions attacker b (NotACheck move) = ⊥
EscapeReason version positions attacker b (EvasionOutside evasion) = ⊥
EscapeReason version positions attacker b (RankNotLower evasion) = ⊥
EscapeReason version positions attacker b (CheckUnanswered check) =
    IsCheck attacker b check × (¬ HasEvasionTo attacker (IsCovered version positions attacker) b check)

-- A listed position of a certificate stands for the position: the position covers a listed one of a
-- mate, or a listed one of an escape covers it.
abbrev pub StandsFor : Certificate → Board → Type 0
StandsFor (Mate c) p = CoversListed c.version c.entries p.side p
StandsFor (Escape c) p = IsCovered c.version c.entries p.side p

-- A reason against a certificate as a whole. RootMissing: it is about another position, or no
-- listed one stands for the position.
abbrev pub RootReason : Certificate → Board → Why → Type 0
RootReason c p RootMissing = (¬ (problem_of c ≡ p)) ⊎ (¬ StandsFor c p)
RootReason c p (NotACheck move) = ⊥
RootReason c p (EvasionOutside evasion) = ⊥
RootReason c p (RankNotLower evasion) = ⊥
RootReason c p (CheckUnanswered check) = ⊥

-- A reason against an entry, counted from 0.
abbrev pub EntryReason : Certificate → Side → ℕ → Why → Type 0
EntryReason (Mate c) attacker place why =
    IsSomeAnd (slice_get c.entries place) (λ entry. MateReason c.version c.entries attacker entry why)
EntryReason (Escape c) attacker place why =
    IsSomeAnd (slice_get c.entries place) (λ b. EscapeReason c.version c.entries attacker b why)

-- An entry, counted from 0, holds what its kind has to: it is borne out, or it is held. (That at an
-- escape's positions the attacker is to move is kept by every certificate.)
abbrev pub EntryHolds : Certificate → Side → ℕ → Type 0
EntryHolds (Mate c) attacker place = IsSomeAnd (slice_get c.entries place) (λ entry. IsBorneOut c.version c.entries attacker entry)
EntryHolds (Escape c) attacker place = IsSomeAnd (slice_get c.entries place) (λ b. IsHeld c.version c.entries attacker b)

-- A reason against a certificate at a number: 0 for the certificate as a whole, from 1 on for its
-- entries.
abbrev pub HasReason : Certificate → Board → ℕ → Why → Type 0
HasReason c p zero why = RootReason c p why
HasReason c p (suc place) why = EntryReason c p.side place why

-- Where a reason stands among those of one entry: what is wrong with its own move comes first, then
-- the others in the order of the moves that they name.
abbrev pub reason_order : Why → ℕ
reason_order RootMissing = 0
reason_order (NotACheck move) = 0
reason_order (EvasionOutside evasion) = 1 + order_of evasion
reason_order (RankNotLower evasion) = 1 + order_of evasion
reason_order (CheckUnanswered check) = 1 + order_of check

-- The finding about one entry: that it holds what it has to; or the first reason that speaks
-- against it.
abbrev pub IsFirstReason : Type 0 → (Why → Type 0) → Option Why → Type 0
IsFirstReason Holds Reason None = Holds
IsFirstReason Holds Reason (Some why) = Reason why × ((sooner : Why) → reason_order sooner < reason_order why → ¬ Reason sooner)

-- The one reason is named before the other: it is at an entry of less number, or at the same and
-- sooner in order.
abbrev pub IsSooner : ℕ → Why → ℕ → Why → Type 0
IsSooner entry why later_entry later_why =
    (entry < later_entry) ⊎ ((entry ≡ later_entry) × (reason_order why < reason_order later_why))

-- The reason speaks against the certificate, and none that is named before it does.
pub record IsFirstAgainst (c : Certificate) (p : Board) (entry : ℕ) (why : Why) : Type 0 where
  pub reason : HasReason c p entry why
  pub first : (sooner_entry : ℕ) (sooner : Why) → IsSooner sooner_entry sooner entry why → ¬ HasReason c p sooner_entry sooner

-- The verdict on a certificate: accepted where it is valid, refused with the first reason against
-- it.
abbrev pub IsVerdict : Certificate → Board → Verdict → Type 0
IsVerdict c p Accepted = IsValid c p
IsVerdict c p (Refused entry why) = IsFirstAgainst c p entry why
