-- The notes of a note's tree.
use Rattle.std.specs.Prelude.{◌≡◌, ◌⊎◌, List, map}
use Rattle.std.specs.List.{flat_map}
use Rattle.notes.specs.Derivation.{Derivation, Derivations, derived, none_under, one_under, source_of, under_of}

-- The note stands in the tree: it is the tree itself, or stands in the tree of one of the notes
-- under its last step.
abbrev mutual
  pub IsIn : Derivation → Derivation → Type 0
  IsIn (derived step notes) note = (derived step notes ≡ note) ⊎ IsUnder notes note

  pub IsUnder : Derivations → Derivation → Type 0
  IsUnder none_under note = ⊥
  IsUnder (one_under first notes) note = IsIn first note ⊎ IsUnder notes note

-- The notes under a note's source, in their order, each by its source.
abbrev pub next_under : Derivation → List Derivation
next_under note = map source_of (under_of (source_of note))

-- The notes two steps under a note that carries none, in their order, each by its source: where the
-- side to move is the same again.
abbrev pub two_under : Derivation → List Derivation
two_under note = flat_map next_under (under_of note)
