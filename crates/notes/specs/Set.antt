-- Serves the model of a note: what the set of a leaf has.
use Rattle.std.specs.Prelude.{List, [], Option, Some, None}
use Rattle.std.specs.declared.sync.Arc.{Arc}
use Rattle.std.specs.declared.alloc.Global.{Global}
use Rattle.board_core.specs.Board.{Board}
use Rattle.mate_facts.specs.declared.entry.MateEntry.{MateEntry}
use Rattle.notes.specs.Derivation.{Ranked}
use Rattle.notes.specs.Sets.{ranked, unranked}
use Rattle.notes.specs.declared.set.Set.{Set}
use Rattle.notes.specs.declared.set.Set.TheVariants.{Mate, Escape}

-- The entries of a mate's set; none of an escape's.
abbrev pub entries_of : Set → List MateEntry
entries_of (Mate entries) = entries.items
entries_of (Escape positions) = []

-- The positions of an escape's set; none of a mate's.
abbrev pub positions_of : Set → List Board
positions_of (Mate entries) = []
positions_of (Escape positions) = positions.items

-- The entries of what set there is.
abbrev pub entries_with : Option (Arc Set Global) → List MateEntry
entries_with None = []
entries_with (Some set) = entries_of set.value

-- The positions of what set there is.
abbrev pub positions_with : Option (Arc Set Global) → List Board
positions_with None = []
positions_with (Some set) = positions_of set.value

-- The positions of a set, with their ranks.
abbrev pub ranked_of : Set → List Ranked
ranked_of (Mate entries) = ranked entries.items
ranked_of (Escape positions) = unranked positions.items

-- The positions of what set there is, with their ranks.
abbrev pub ranked_with : Option (Arc Set Global) → List Ranked
ranked_with None = []
ranked_with (Some set) = ranked_of set.value
