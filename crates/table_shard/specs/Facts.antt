-- How an entry keeps its notes: it serves private functions alone.
use Rattle.std.specs.Prelude.{◌≡◌, List, [], ◌∷◌}
use Rattle.notes.specs.Derivation.{Derivation, tag_of}
use Rattle.table_shard.specs.Entry.{IsTagged}
use Rattle.table_shard.specs.declared.facts.Facts.{Facts}
use Rattle.table_shard.specs.declared.facts.Facts.TheVariants.{Unknown, Closed, One, Two, Three, Four}

-- The notes that are kept, in order of coming.
abbrev pub notes_of : Facts → List Derivation
notes_of Unknown = []
notes_of (Closed note) = note ∷ []
notes_of (One a) = a ∷ []
notes_of (Two a b) = a ∷ b ∷ []
notes_of (Three a b c) = a ∷ b ∷ c ∷ []
notes_of (Four a b c d) = a ∷ b ∷ c ∷ d ∷ []

-- The one that is kept alone holds on every path, each of the others depends on 1 to 32 positions.
abbrev pub AreFacts : Facts → Type 0
AreFacts Unknown = Unit {0}
AreFacts (Closed note) = tag_of note ≡ []
AreFacts (One a) = IsTagged a
AreFacts (Two a b) = IsTagged a × IsTagged b
AreFacts (Three a b c) = IsTagged a × IsTagged b × IsTagged c
AreFacts (Four a b c d) = IsTagged a × IsTagged b × IsTagged c × IsTagged d
