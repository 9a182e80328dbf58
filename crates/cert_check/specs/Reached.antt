-- For the functions of the crate alone: what of a mate's entries a position covers, as far as it
-- matters for a rank.
use Rattle.std.specs.Prelude.{◌<◌, ◌⊎◌, ℕ, List, Option, Some, None}
use Rattle.bit_boards.specs.declared.piece.Side.{Side}
use Rattle.board_core.specs.Board.{Board}
use Rattle.mate_facts.specs.declared.entry.MateEntry.{MateEntry}
use Rattle.hand_dominance.specs.declared.version.Version.{Version}
use Rattle.dominance_places.specs.Found.{IsFoundCovered, StandsCovered}

-- The position covers that of the entry at the place, whose rank is lower than this one.
pub record StandsLower (version : Version) (entries : List MateEntry) (attacker : Side) (rank : ℕ) (position : Board) (place : ℕ) : Type 0 where
  pub stands : StandsCovered version entries attacker position place
  pub lower : stands.entry.rank.number < rank

-- What is found for a rank of the entries whose positions a position covers: the place of one of
-- lower rank; or none or the least, as without a rank.
abbrev pub IsFoundFor : Version → List MateEntry → Side → ℕ → Board → Option ℕ → Type 0
IsFoundFor version entries attacker rank position None = IsFoundCovered version entries attacker position None
IsFoundFor version entries attacker rank position (Some place) =
    StandsLower version entries attacker rank position place ⊎ IsFoundCovered version entries attacker position (Some place)
