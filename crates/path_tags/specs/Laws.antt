-- What is true of all tags and paths.
use Rattle.std.specs.Prelude.{◌≡◌, ◌≢◌, ◌⊎◌, ◌↔◌, ◌++◌, List, [], ◌∷◌, Contains}
use Rattle.board_core.specs.declared.keys.Key.{Key}
use Rattle.path_tags.specs.Tag.{IsRising, joined_without, IsWithin}

-- A law: tags with the same keys are one tag.
abbrev pub TagsApart : Type 0
TagsApart = (a b : List Key) → IsRising a → IsRising b → ((key : Key) → Contains a key ↔ Contains b key) → a ≡ b

-- A law: two tags joined without a key are a tag.
abbrev pub JoinedRise : Type 0
JoinedRise = (key : Key) (a b : List Key) → IsRising a → IsRising b → IsRising (joined_without key a b)

-- A law: what is joined without a key has the keys of both but for that key, and no other.
abbrev pub JoinedHold : Type 0
JoinedHold = (key : Key) (a b : List Key) (other : Key)
    → Contains (joined_without key a b) other ↔ ((Contains a other ⊎ Contains b other) × (other ≢ key))

-- A law: the empty tag lies within each path.
abbrev pub EmptyIsWithin : Type 0
EmptyIsWithin = (path : List Key) → IsWithin [] path

-- A law: the tag of one key lies within the paths on which the key stands.
abbrev pub OneIsWithin : Type 0
OneIsWithin = (key : Key) (path : List Key) → IsWithin (key ∷ []) path ↔ Contains path key

-- A law: a tag within a path lies within it with a key more.
abbrev pub WithinMore : Type 0
WithinMore = (tag path : List Key) (key : Key) → IsWithin tag path → IsWithin tag (path ++ key ∷ [])

-- A law: two tags lie within a path with a key more exactly where they lie, joined without that
-- key, within the path.
abbrev pub JoinedWithin : Type 0
JoinedWithin = (key : Key) (a b path : List Key)
    → (IsWithin a (path ++ key ∷ []) × IsWithin b (path ++ key ∷ [])) ↔ IsWithin (joined_without key a b) path
