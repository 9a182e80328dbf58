-- Which numbers make settings, without the type that keeps them.
use Rattle.std.specs.Prelude.{ℕ, Bool, true, ◌≤◌}
use Rattle.std.specs.Int.{IsPowerOfTwo}
use Rattle.search_limits.specs.declared.expansions.TheConstants.{MOST_EXPANSIONS}
use Rattle.search_limits.specs.declared.settings.TheConstants.{MOST_WORKERS, MOST_ROOM, LEAST_ROWS, MOST_ROWS, MOST_SHARDS}

-- A number lies between two others, or is one of them.
abbrev pub IsFromTo : ℕ → ℕ → ℕ → Type 0
IsFromTo low high n = (low ≤ n) × (n ≤ high)

-- The five numbers of a search, and whether its table lends what it knows of other hands.
pub record SettingsView : Type 0 where
  pub workers : ℕ
  pub expansions : ℕ
  pub room : ℕ
  pub rows : ℕ
  pub shards : ℕ
  pub lends : Bool

-- Five numbers, as those of a search whose table lends.
abbrev pub numbers_of : ℕ → ℕ → ℕ → ℕ → ℕ → SettingsView
numbers_of its_workers its_expansions its_room its_rows its_shards =
    record { workers = its_workers; expansions = its_expansions; room = its_room; rows = its_rows; shards = its_shards; lends = true }

-- Each number lies in its range.
pub record AreInRange (n : SettingsView) : Type 0 where
  pub workers : IsFromTo 1 MOST_WORKERS n.workers
  pub expansions : IsFromTo 1 MOST_EXPANSIONS n.expansions
  pub room : IsFromTo 1 MOST_ROOM n.room
  pub rows : IsFromTo LEAST_ROWS MOST_ROWS n.rows
  pub shards : IsFromTo 1 MOST_SHARDS n.shards

-- The numbers make settings: each lies in its range, the rows and the shards are powers of two, and
-- there are no more shards than rows.
pub record AreSound (n : SettingsView) : Type 0 where
  pub ranges : AreInRange n
  pub rows : IsPowerOfTwo n.rows
  pub shards : IsPowerOfTwo n.shards
  pub within : n.shards ≤ n.rows
