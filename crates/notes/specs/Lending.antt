-- Which notes may be lent: carried to a position of which its key is known, by the keys alone.
use Rattle.std.specs.Prelude.{◌≡◌, ◌↔◌, []}
use Rattle.bit_boards.specs.declared.piece.Side.{Side}
use Rattle.board_core.specs.declared.keys.Key.{Key}
use Rattle.board_core.specs.Board.{Board}
use Rattle.board_core.specs.Kept.{IsKept}
use Rattle.board_core.specs.Key.{key_of}
use Rattle.hand_dominance.specs.ByKey.{KeyDominates}
use Rattle.notes.specs.declared.rule.Conclusion.{Conclusion}
use Rattle.notes.specs.declared.rule.Conclusion.TheVariants.{Mate, Escape}
use Rattle.notes.specs.Derivation.{Derivation, attacker_of, position_of, tag_of, conclusion_of}
use Rattle.notes.specs.Valid.{IsValid, MayBeCarried}

-- What is concluded of the position of the one key holds of that of the other, as far as the keys
-- tell: a mate of each that dominates it, an escape of each that it dominates.
abbrev pub CarriesByKey : Conclusion → Side → Key → Key → Type 0
CarriesByKey Mate attacker from to = KeyDominates attacker to from
CarriesByKey Escape attacker from to = KeyDominates attacker from to

-- The note about the position of the one key may be lent to that of the other: it is this
-- attacker's, depends on no repetition, and what it concludes holds there too.
pub record MayBeLent (attacker : Side) (from to : Key) (note : Derivation) : Type 0 where
  pub same_attacker : attacker_of note ≡ attacker
  pub closed : tag_of note ≡ []
  pub holds : CarriesByKey (conclusion_of note) attacker from to

-- The note is valid, and may be carried to the position that has the key, if one has.
pub record IsLentTo (attacker : Side) (key : Key) (note : Derivation) : Type 0 where
  pub valid : IsValid note
  pub may : (b : Board) → IsKept b → key_of b ≡ key.0 → MayBeCarried attacker b note

-- A law: a valid note may be lent to the key of a position exactly where it may be carried to the
-- position.
abbrev pub LendingIsCarrying : Type 0
LendingIsCarrying = (attacker : Side) (from to : Key) (b : Board) (note : Derivation) → IsValid note → key_of (position_of note) ≡ from.0
    → IsKept b → key_of b ≡ to.0 → MayBeLent attacker from to note ↔ MayBeCarried attacker b note
