-- What a note says: an absolute statement, true whoever reads it.
use Rattle.std.specs.Prelude.{◌≡◌, ◌*◌, ◌+◌, ◌⊎◌, ℕ, List, [], Contains}
use Rattle.bit_boards.specs.declared.piece.Side.{Side}
use Rattle.bit_boards.specs.Kind.{other}
use Rattle.board_core.specs.declared.keys.Key.{Key}
use Rattle.board_core.specs.Board.{Board}
use Rattle.board_core.specs.Kept.{IsKept}
use Rattle.board_core.specs.Key.{key_of}
use Rattle.mate_def.specs.Mate.{RankAtMost, IsMatedWithin, EscapesInto, Escapes, CanEvadeTo}
use Rattle.notes.specs.declared.rule.Conclusion.TheVariants.{Mate, Escape}
use Rattle.notes.specs.Derivation.{Derivation, attacker_of, position_of, tag_of, height_of, conclusion_of}
use Rattle.notes.specs.Valid.{IsValid}

-- The positions stand for the tag: each of its keys is the key of one of them.
abbrev pub StandFor : List Key → List Board → Type 0
StandFor tag t = (key : Key) → Contains tag key → (q : Board) × Contains t q × IsKept q × (key.0 ≡ key_of q)

-- Of a mate where the attacker is to move: its height is twice a number of moves within which the
-- position is mate.
abbrev pub IsTrueMate : Derivation → Type 0
IsTrueMate note = (n : ℕ) × (height_of note ≡ 2 * n) × RankAtMost (attacker_of note) n (position_of note)

-- Of a mate where the defender is to move: its height is one more than twice a number of moves
-- within which each position is mate to which an evasion leads.
abbrev pub IsTrueMated : Derivation → Type 0
IsTrueMated note = (n : ℕ) × (height_of note ≡ 2 * n + 1) × IsMatedWithin (attacker_of note) n (position_of note)

-- Of an escape where the attacker is to move: the position escapes into any positions that stand
-- for the tag.
abbrev pub IsTrueEscape : Derivation → Type 0
IsTrueEscape note = (t : List Board) → StandFor (tag_of note) t → EscapesInto (attacker_of note) (position_of note) t

-- Of an escape where the defender is to move: he has an evasion that leads to one of any positions
-- that stand for the tag, or to one that escapes into these.
abbrev pub IsTrueEvading : Derivation → Type 0
IsTrueEvading note = (t : List Board) → StandFor (tag_of note) t
    → CanEvadeTo (attacker_of note) (λ q. Contains t q ⊎ EscapesInto (attacker_of note) q t) (position_of note)

-- The side is to move at the note's position.
abbrev pub IsToMove : Side → Derivation → Type 0
IsToMove side note = (position_of note).side ≡ side

-- What a note says, by its conclusion and by who is to move, is true; a mate has no tag; an escape
-- of the attacker's position without one is an escape; and each key of a tag is that of a position,
-- so that there are positions that stand for it.
pub record IsTrueNote (note : Derivation) : Type 0 where
  pub mate : conclusion_of note ≡ Mate → IsToMove (attacker_of note) note → IsTrueMate note
  pub mated : conclusion_of note ≡ Mate → IsToMove (other (attacker_of note)) note → IsTrueMated note
  pub escape : conclusion_of note ≡ Escape → IsToMove (attacker_of note) note → IsTrueEscape note
  pub evading : conclusion_of note ≡ Escape → IsToMove (other (attacker_of note)) note → IsTrueEvading note
  pub untagged : conclusion_of note ≡ Mate → tag_of note ≡ []
  pub escapes : conclusion_of note ≡ Escape → IsToMove (attacker_of note) note → tag_of note ≡ [] → Escapes (attacker_of note) (position_of note)
  pub keys : (key : Key) → Contains (tag_of note) key → (q : Board) × IsKept q × (key.0 ≡ key_of q)

-- A law: every valid note is true.
abbrev pub NotesAreTrue : Type 0
NotesAreTrue = (note : Derivation) → IsValid note → IsTrueNote note
