-- What mates' certificates list when they are joined.
use Rattle.std.specs.Prelude.{◌≡◌, ◌<◌, ℕ, List, Some, Contains, length, slice_get}
use Rattle.std.specs.List.{flat_map}
use Rattle.bit_boards.specs.declared.piece.Side.{Side}
use Rattle.board_core.specs.declared.moves.Move.{Move}
use Rattle.board_core.specs.Board.{Board}
use Rattle.shogi_rules.specs.Rules.{after}
use Rattle.shogi_rules.specs.Tsume.{IsEvasion}
use Rattle.mate_def.specs.Mate.{after_both}
use Rattle.mate_facts.specs.declared.entry.MateEntry.{MateEntry}
use Rattle.mate_facts.specs.Entries.{AreApart, positions_of}
use Rattle.hand_dominance.specs.declared.version.Version.{Version}
use Rattle.hand_dominance.specs.declared.version.Version.TheVariants.{One, Two}
use Rattle.hand_dominance.specs.BorneOut.{CoversListed}
use Rattle.dominance_places.specs.Found.{ComesBefore}
use Rattle.cert_text.specs.Certificate.{Mating}
use Rattle.cert_check.specs.Valid.{ValidMate}
use Rattle.cook_report.specs.declared.ends.JoinEnd.{JoinEnd}
use Rattle.cook_report.specs.declared.ends.JoinEnd.TheVariants.{TooMany, NoMemory}

-- The entries of all certificates, one certificate after the other.
abbrev pub entries_in : List Mating → List MateEntry
entries_in certificates = flat_map (λ c. c.entries) certificates

-- The entry comes before all others of its position: it is the first of those of the least rank.
pub record IsFirstLeast (entries : List MateEntry) (entry : MateEntry) : Type 0 where
  pub place : ℕ
  pub there : slice_get entries place ≡ Some entry
  pub first : (other_place : ℕ) (other : MateEntry) → slice_get entries other_place ≡ Some other → other.at ≡ entry.at
      → ComesBefore place entry other_place other

-- The certificates list the entry when they are joined: of all that they list of its position it
-- has the least rank, and of these it stands in the first certificate.
abbrev pub IsJoined : List Mating → MateEntry → Type 0
IsJoined certificates entry = IsFirstLeast (entries_in certificates) entry

-- The version in which the certificates are joined: version 2 where one of them has it, else
-- version 1.
abbrev pub IsJoinedVersion : List Mating → Version → Type 0
IsJoinedVersion certificates One = (c : Mating) → Contains certificates c → c.version ≡ One
IsJoinedVersion certificates Two = (c : Mating) × Contains certificates c × (c.version ≡ Two)

-- The entries have more different positions than so many.
pub record HaveMoreThan (limit : ℕ) (entries : List MateEntry) : Type 0 where
  pub positions : List Board
  pub apart : AreApart positions
  pub more : limit < length positions
  pub listed : (b : Board) → Contains positions b → Contains (positions_of entries) b

-- Why entries aren't joined: they have more different positions than so many, or memory was
-- wanted.
abbrev pub IsJoinEnd : ℕ → List MateEntry → JoinEnd → Type 0
IsJoinEnd limit entries TooMany = HaveMoreThan limit entries
IsJoinEnd limit entries NoMemory = Unit {0}

-- Each certificate is valid for the problem that it is about.
abbrev pub AreValid : List Mating → Type 0
AreValid certificates = (c : Mating) → Contains certificates c → ValidMate c c.problem

-- Each evasion to a check of the position leads to the problem of one of the certificates.
abbrev pub AnswerEach : List Mating → Board → Move → Type 0
AnswerEach certificates p check = (evasion : Move) → IsEvasion p.side (after p check) evasion
    → (c : Mating) × Contains certificates c × (c.problem ≡ after_both p check evasion)

-- What covers a position that the one certificate lists, in its version, covers one that the other
-- lists, in that one's.
abbrev pub CoversAsMuch : Side → Mating → Mating → Type 0
CoversAsMuch attacker c joined = (position : Board) → CoversListed c.version c.entries attacker position
    → CoversListed joined.version joined.entries attacker position
