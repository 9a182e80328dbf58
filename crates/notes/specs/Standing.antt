-- What a leaf is listed among, as whoever reads it sees it.
use Rattle.std.specs.Prelude.{◌≡◌, ℕ, List, [], Contains}
use Rattle.board_core.specs.Board.{Board}
use Rattle.mate_facts.specs.declared.entry.MateEntry.{MateEntry}
use Rattle.mate_facts.specs.Entries.{IsListedWith}
use Rattle.hand_dominance.specs.declared.version.Version.{Version}
use Rattle.notes.specs.declared.rule.Rule.TheVariants.{MateLeaf, EscapeLeaf}
use Rattle.notes.specs.Derivation.{Derivation, rule_of, attacker_of, position_of, beside_of}
use Rattle.notes.specs.Sets.{AreMates, AreEscapes, ranked, unranked}

-- The entries among which a mate's leaf stands: they are those of a mate, in its version and for
-- its attacker, and list its position with its rank; and it stands among their positions with
-- their ranks. None where the note is no such leaf.
pub record AreEntriesAbout (note : Derivation) (entries : List MateEntry) : Type 0 where
  pub leaf : (version : Version) (rank : ℕ) → rule_of note ≡ MateLeaf version rank
      → AreMates version (attacker_of note) entries × IsListedWith entries rank (position_of note) × (beside_of note ≡ ranked entries)
  pub none : ((version : Version) (rank : ℕ) → ¬ (rule_of note ≡ MateLeaf version rank)) → entries ≡ []

-- The positions among which an escape's leaf stands: they are those of an escape, in its version
-- and for its attacker, and its own is one. None where the note is no such leaf.
pub record ArePositionsAbout (note : Derivation) (positions : List Board) : Type 0 where
  pub leaf : (version : Version) → rule_of note ≡ EscapeLeaf version
      → AreEscapes version (attacker_of note) positions × Contains positions (position_of note) × (beside_of note ≡ unranked positions)
  pub none : ((version : Version) → ¬ (rule_of note ≡ EscapeLeaf version)) → positions ≡ []
