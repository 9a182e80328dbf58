-- Serves the index of a path, which no public clause names.
use Rattle.std.specs.Prelude.{◌≡◌, ℕ, suc, List, [], ◌∷◌, Option, Some, None, cond}
use Rattle.std.specs.Option.{option_map}
use Rattle.std.specs.BTreeMap.{BTreeMap, get, is_at}
use Rattle.board_core.specs.declared.keys.Key.{Key}
use Rattle.board_core.specs.KeyOrder.{key_cmp}

-- The first place at which the key stands on the path, counted from the root; none where it isn't
-- on the path.
abbrev pub first_place : List Key → Key → Option ℕ
first_place [] key = None
first_place (first ∷ rest) key = cond (is_at (key_cmp key) first) (Some 0) (option_map suc (first_place rest key))

-- The index tells of each key where it stands first on the path, and knows no other key.
pub record IsIndex (index : BTreeMap Key ℕ) (path : List Key) : Type 0 where
  pub tells : (key : Key) → get key_cmp index key ≡ first_place path key
