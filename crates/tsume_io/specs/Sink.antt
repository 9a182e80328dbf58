-- What a write does to the bytes that a sink has kept. They are `None` where the sink doesn't tell
-- them; of these nothing is said, but that they still aren't told.
use Rattle.std.specs.Prelude.{◌≡◌, ℕ, ◌<◌, ◌≤◌, List, ◌++◌, length, take, Option, None, Some}

-- The kept bytes grew by these at the end. What was told is still told, what wasn't isn't.
abbrev pub GrewBy : Option (List ℕ) → Option (List ℕ) → List ℕ → Type 0
GrewBy None None bytes = Unit {0}
GrewBy (Some before) (Some after) bytes = after ≡ before ++ bytes
GrewBy None (Some after) bytes = ⊥
GrewBy (Some before) None bytes = ⊥

-- The kept bytes grew by some first of these bytes, and not by all of them.
abbrev pub GrewByPrefix : Option (List ℕ) → Option (List ℕ) → List ℕ → Type 0
GrewByPrefix before after bytes = (k : ℕ) × (k < length bytes) × GrewBy before after (take k bytes)

-- A write took this many bytes: at least one where there is one, and no more than there are.
pub record IsWriteOf (count : ℕ) (bytes : List ℕ) : Type 0 where
  pub some : 0 < length bytes → 1 ≤ count
  pub within : count ≤ length bytes
