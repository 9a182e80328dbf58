-- What lists of positions say, in both versions: when entries of a mate, and when the positions of
-- an escape, bear out what they claim.
use Rattle.std.specs.Prelude.{◌≡◌, ◌<◌, ℕ, List, Contains}
use Rattle.bit_boards.specs.declared.piece.Side.{Side}
use Rattle.board_core.specs.declared.moves.Move.{Move}
use Rattle.board_core.specs.Board.{Board}
use Rattle.board_core.specs.Kept.{IsKept}
use Rattle.shogi_rules.specs.Rules.{after}
use Rattle.shogi_rules.specs.Tsume.{IsCheck, IsEvasion}
use Rattle.mate_def.specs.Mate.{after_both, RankAtMost, IsMate, Escapes, HasEvasionTo}
use Rattle.mate_facts.specs.declared.entry.MateEntry.{MateEntry}
use Rattle.hand_dominance.specs.declared.version.Version.{Version}
use Rattle.hand_dominance.specs.declared.version.Version.TheVariants.{One, Two}
use Rattle.hand_dominance.specs.Dominance.{Dominates}

-- The one position covers the other, for this attacker: in version 1 it is the other, in version 2
-- it dominates it.
abbrev pub Covers : Version → Side → Board → Board → Type 0
Covers One attacker over under = over ≡ under
Covers Two attacker over under = Dominates attacker over under

-- A law: what covers a position in version 1 covers it in each.
abbrev pub CoversStays : Type 0
CoversStays = (version : Version) (attacker : Side) (over under : Board) → Covers One attacker over under → Covers version attacker over under

-- 1. MATES.

-- The position covers that of an entry.
pub record CoversListed (version : Version) (entries : List MateEntry) (attacker : Side) (position : Board) : Type 0 where
  pub entry : MateEntry
  pub listed : Contains entries entry
  pub covers : Covers version attacker position entry.at

-- The position covers that of an entry whose rank is lower than this one.
pub record CoversLower (version : Version) (entries : List MateEntry) (attacker : Side) (rank : ℕ) (position : Board) : Type 0 where
  pub entry : MateEntry
  pub listed : Contains entries entry
  pub covers : Covers version attacker position entry.at
  pub lower : entry.rank.number < rank

-- An entry of a mate is borne out at a position: its move is a check of that, and each evasion to
-- it leads to a position that covers a listed one of lower rank.
pub record IsBorneOutAt (version : Version) (entries : List MateEntry) (attacker : Side) (entry : MateEntry) (position : Board) : Type 0 where
  pub check : IsCheck attacker position entry.by
  pub evasions : (evasion : Move) → IsEvasion attacker (after position entry.by) evasion
      → CoversLower version entries attacker entry.rank.number (after_both position entry.by evasion)

-- An entry of a mate is borne out: it is so at its own position.
abbrev pub IsBorneOut : Version → List MateEntry → Side → MateEntry → Type 0
IsBorneOut version entries attacker entry = IsBorneOutAt version entries attacker entry entry.at

-- The positions of the entries keep what every position keeps, and the entries are borne out.
abbrev pub AreBorneOut : Version → List MateEntry → Side → Type 0
AreBorneOut version entries attacker = (entry : MateEntry) → Contains entries entry → IsKept entry.at × IsBorneOut version entries attacker entry

-- A law: where all entries are borne out, each position (that keeps what every position keeps) that
-- covers an entry's is a mate within the entry's rank.
abbrev pub RanksWhereCovered : Type 0
RanksWhereCovered = (version : Version) (attacker : Side) (entries : List MateEntry) (entry : MateEntry) (position : Board)
    → AreBorneOut version entries attacker → Contains entries entry → IsKept position → Covers version attacker position entry.at
    → RankAtMost attacker entry.rank.number position

-- A law: an entry that is borne out is borne out at each position that covers its own, where both
-- keep what every position keeps.
abbrev pub BorneOutAbove : Type 0
BorneOutAbove = (version : Version) (attacker : Side) (entries : List MateEntry) (entry : MateEntry) (position : Board)
    → IsBorneOut version entries attacker entry → IsKept position → IsKept entry.at → Covers version attacker position entry.at
    → IsBorneOutAt version entries attacker entry position

-- A law: an entry that is borne out in version 1 is borne out in each.
abbrev pub BorneOutStays : Type 0
BorneOutStays = (version : Version) (attacker : Side) (entries : List MateEntry) (entry : MateEntry) → IsBorneOut One entries attacker entry
    → IsBorneOut version entries attacker entry

-- 2. ESCAPES.

-- One of the positions covers this one.
pub record IsCovered (version : Version) (s : List Board) (attacker : Side) (position : Board) : Type 0 where
  pub listed : Board
  pub inside : Contains s listed
  pub covers : Covers version attacker listed position

-- The position is held: each check from it has an evasion that leads to a position that one of the
-- listed covers.
abbrev pub IsHeld : Version → List Board → Side → Board → Type 0
IsHeld version s attacker b = (check : Move) → IsCheck attacker b check → HasEvasionTo attacker (IsCovered version s attacker) b check

-- The positions are closed: at each the attacker is to move, and each is held.
pub record AreClosed (version : Version) (s : List Board) (attacker : Side) : Type 0 where
  pub turn : (b : Board) → Contains s b → b.side ≡ attacker
  pub held : (b : Board) → Contains s b → IsHeld version s attacker b

-- The positions keep what every position keeps.
abbrev pub AreKept : List Board → Type 0
AreKept s = (b : Board) → Contains s b → IsKept b

-- A law: where positions are closed, none (that keeps what every position keeps) that one of them
-- covers is a mate.
abbrev pub NoMateWhereCovered : Type 0
NoMateWhereCovered = (version : Version) (attacker : Side) (s : List Board) (position : Board) → AreKept s → AreClosed version s attacker
    → IsKept position → IsCovered version s attacker position → ¬ IsMate attacker position

-- A law: where positions are closed in version 1, the defender escapes from each.
abbrev pub EscapesWhereListed : Type 0
EscapesWhereListed = (attacker : Side) (s : List Board) (position : Board) → AreClosed One s attacker → Contains s position → Escapes attacker position

-- A law: where positions are closed, the defender escapes from each (that keeps what every position
-- keeps) that one of them covers.
abbrev pub EscapesWhereCovered : Type 0
EscapesWhereCovered = (version : Version) (attacker : Side) (s : List Board) (position : Board) → AreKept s → AreClosed version s attacker
    → IsKept position → IsCovered version s attacker position → Escapes attacker position

-- A law: a position that is held in version 1 is held in each.
abbrev pub HeldStays : Type 0
HeldStays = (version : Version) (attacker : Side) (s : List Board) (b : Board) → IsHeld One s attacker b → IsHeld version s attacker b
