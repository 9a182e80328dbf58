-- The numbers of settings, and which test is the first that other numbers fail.
use Rattle.std.specs.Prelude.{◌≡◌, ◌<◌, ◌↔◌, ℕ, true}
use Rattle.std.specs.Int.{IsPowerOfTwo, is_power_of_two}
use Rattle.search_limits.specs.Sizes.{SettingsView, IsFromTo, AreInRange}
use Rattle.search_limits.specs.declared.expansions.TheConstants.{MOST_EXPANSIONS}
use Rattle.search_limits.specs.declared.settings.TheConstants.{MOST_WORKERS, MOST_ROOM, LEAST_ROWS, MOST_ROWS, MOST_SHARDS}
use Rattle.search_limits.specs.declared.faults.Setting.{Setting}
use Rattle.search_limits.specs.declared.faults.Setting.TheVariants.{Workers, Expansions, Room, Rows, Shards}
use Rattle.search_limits.specs.declared.settings.Settings.{Settings}
use Rattle.search_limits.specs.declared.faults.SettingsFault.{SettingsFault}
use Rattle.search_limits.specs.declared.faults.SettingsFault.TheVariants.{OutOfRange, NotPowerOfTwo, MoreShardsThanRows}
use Rattle.search_limits.specs.declared.faults.Size.{Size}
use Rattle.search_limits.specs.declared.faults.Size.TheVariants.{Rows as TheRows, Shards as TheShards}

-- The numbers of settings, and whether the table lends.
abbrev pub settings_in : Settings → SettingsView
settings_in s = record { workers = s.workers; expansions = s.expansions; room = s.room; rows = s.rows; shards = s.shards; lends = s.lends }

-- This number is the first that is outside its range.
abbrev pub IsFirstOutside : Setting → SettingsView → Type 0
IsFirstOutside Workers n = ¬ IsFromTo 1 MOST_WORKERS n.workers
IsFirstOutside Expansions n = IsFromTo 1 MOST_WORKERS n.workers × (¬ IsFromTo 1 MOST_EXPANSIONS n.expansions)
IsFirstOutside Room n = IsFromTo 1 MOST_WORKERS n.workers × IsFromTo 1 MOST_EXPANSIONS n.expansions × (¬ IsFromTo 1 MOST_ROOM n.room)
IsFirstOutside Rows n = IsFromTo 1 MOST_WORKERS n.workers × IsFromTo 1 MOST_EXPANSIONS n.expansions × IsFromTo 1 MOST_ROOM n.room
    × (¬ IsFromTo LEAST_ROWS MOST_ROWS n.rows)
IsFirstOutside Shards n = IsFromTo 1 MOST_WORKERS n.workers × IsFromTo 1 MOST_EXPANSIONS n.expansions × IsFromTo 1 MOST_ROOM n.room
    × IsFromTo LEAST_ROWS MOST_ROWS n.rows × (¬ IsFromTo 1 MOST_SHARDS n.shards)

-- This size is the first that is no power of two: the rows are tested before the shards.
abbrev pub IsFirstOdd : Size → SettingsView → Type 0
IsFirstOdd TheRows n = ¬ IsPowerOfTwo n.rows
IsFirstOdd TheShards n = IsPowerOfTwo n.rows × (¬ IsPowerOfTwo n.shards)

-- Both sizes are powers of two, and there are more shards than rows.
abbrev pub HaveMoreShards : SettingsView → Type 0
HaveMoreShards n = IsPowerOfTwo n.rows × IsPowerOfTwo n.shards × (n.rows < n.shards)

-- The numbers fail this test and pass those before it: first the ranges, in the order of the
-- numbers; then that the rows are a power of two, then the shards; and then that there are no more
-- shards than rows.
abbrev pub FailFirst : SettingsFault → SettingsView → Type 0
FailFirst (OutOfRange setting) n = IsFirstOutside setting n
FailFirst (NotPowerOfTwo size) n = AreInRange n × IsFirstOdd size n
FailFirst MoreShardsThanRows n = AreInRange n × HaveMoreShards n

-- A law: a number has one bit exactly where it is a power of two.
abbrev pub PowersHaveOneBit : Type 0
PowersHaveOneBit = (n : ℕ) → (is_power_of_two n ≡ true) ↔ IsPowerOfTwo n
