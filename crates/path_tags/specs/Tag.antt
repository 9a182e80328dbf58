-- Tags: lists of keys in their order, each key once.
use Rattle.std.specs.Prelude.{List, [], ◌∷◌, not, Contains, filter}
use Rattle.std.specs.Ordering.{is_eq}
use Rattle.std.specs.List.Sorted.{IsStrictlySortedBy}
use Rattle.std.specs.BTreeSet.{insert_key}
use Rattle.board_core.specs.declared.keys.Key.{Key}
use Rattle.board_core.specs.KeyOrder.{key_cmp}

-- Each key of the list comes before all those behind it, so that none stands in it twice.
abbrev pub IsRising : List Key → Type 0
IsRising keys = IsStrictlySortedBy key_cmp keys

-- The keys of either list: those of the second are put into the first, each at its place in the
-- order, unless it is there.
abbrev pub joined : List Key → List Key → List Key
joined keys [] = keys
joined keys (other ∷ others) = insert_key key_cmp (joined keys others) other

-- The list without the key.
abbrev pub without : Key → List Key → List Key
without key keys = filter (λ other. not (is_eq (key_cmp key other))) keys

-- The keys of either list, but for one key.
abbrev pub joined_without : Key → List Key → List Key → List Key
joined_without key keys others = without key (joined keys others)

-- Each key of the tag stands on the path.
abbrev pub IsWithin : List Key → List Key → Type 0
IsWithin tag path = (key : Key) → Contains tag key → Contains path key
