-- In which order the notes of a tree are walked, none again but where it is a lower mate.
use Rattle.std.specs.Prelude.{◌≡◌, ◌<◌, ◌++◌, ◌⊎◌, List, [], ◌∷◌, Contains}
use Rattle.notes.specs.declared.rule.Conclusion.TheVariants.{Mate}
use Rattle.notes.specs.Derivation.{Derivation, position_of, height_of, conclusion_of, source_of}
use Rattle.cert_extract.specs.Tree.{two_under}

-- The note stands two steps under one of these.
abbrev pub IsUnderOne : List Derivation → Derivation → Type 0
IsUnderOne notes note = (above : Derivation) × Contains notes above × Contains (two_under above) note

-- The note may be walked after these: it is the tree's source, where none was walked, or stands two
-- steps under one of them; and where one of them is about the same position, it is a mate, and
-- lower.
pub record MayFollow (tree : Derivation) (before : List Derivation) (note : Derivation) : Type 0 where
  pub stands : ((before ≡ []) × (source_of tree ≡ note)) ⊎ IsUnderOne before note
  pub lower : (earlier : Derivation) → Contains before earlier → position_of earlier ≡ position_of note
      → (conclusion_of note ≡ Mate) × (height_of note < height_of earlier)

-- Notes of a tree that are walked, in their order: the tree's source first, then each where it may
-- follow those before it.
abbrev pub IsWalk : Derivation → List Derivation → Type 0
IsWalk tree walked = (before rest : List Derivation) (note : Derivation) → walked ≡ before ++ note ∷ rest → MayFollow tree before note
