-- Which entry of a mate a position covers: of several that of the least rank, the first such.
use Rattle.std.specs.Prelude.{◌≡◌, ◌<◌, ◌≤◌, ◌⊎◌, ℕ, List, Option, Some, None, slice_get}
use Rattle.bit_boards.specs.declared.piece.Side.{Side}
use Rattle.board_core.specs.Board.{Board}
use Rattle.mate_facts.specs.declared.entry.MateEntry.{MateEntry}
use Rattle.hand_dominance.specs.declared.version.Version.{Version}
use Rattle.hand_dominance.specs.BorneOut.{Covers}

-- An entry stands at the place, and the position covers the entry's.
pub record StandsCovered (version : Version) (entries : List MateEntry) (attacker : Side) (position : Board) (place : ℕ) : Type 0 where
  pub entry : MateEntry
  pub there : slice_get entries place ≡ Some entry
  pub covers : Covers version attacker position entry.at

-- The one entry comes before the other: its rank is less, or the ranks are the same and the one
-- stands no later.
abbrev pub ComesBefore : ℕ → MateEntry → ℕ → MateEntry → Type 0
ComesBefore place entry other_place other =
    (entry.rank.number < other.rank.number) ⊎ ((entry.rank.number ≡ other.rank.number) × (place ≤ other_place))

-- The position covers that of the entry at the place, which comes before each other such.
pub record IsLeastCovered (version : Version) (entries : List MateEntry) (attacker : Side) (position : Board) (place : ℕ) : Type 0 where
  pub stands : StandsCovered version entries attacker position place
  pub least : (other : ℕ) (covered : StandsCovered version entries attacker position other) → ComesBefore place stands.entry other covered.entry

-- What is found of the entries whose positions a position covers: none, or the place of the least.
abbrev pub IsFoundCovered : Version → List MateEntry → Side → Board → Option ℕ → Type 0
IsFoundCovered version entries attacker position None = (place : ℕ) → ¬ StandsCovered version entries attacker position place
IsFoundCovered version entries attacker position (Some place) = IsLeastCovered version entries attacker position place
