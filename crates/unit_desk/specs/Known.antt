-- Notes that are known before a search begins, and what they say of its problem.
use Rattle.std.specs.Prelude.{◌≡◌, ◌≢◌, ◌<◌, ◌⊎◌, ℕ, List, [], Option, Some, None, IsSomeAnd, slice_get}
use Rattle.bit_boards.specs.declared.piece.Side.{Side}
use Rattle.board_core.specs.Board.{Board}
use Rattle.notes.specs.Derivation.{Derivation, attacker_of, position_of, tag_of, carried}
use Rattle.notes.specs.Valid.{MayBeCarried}

-- The note may be known before a search begins: it holds on every path, and is for the attacker.
pub record IsKnown (attacker : Side) (note : Derivation) : Type 0 where
  pub closed : tag_of note ≡ []
  pub same_attacker : attacker_of note ≡ attacker

-- The note is about the problem's position, or may be carried to it.
abbrev pub Reaches : Board → Derivation → Type 0
Reaches problem note = (position_of note ≡ problem) ⊎ MayBeCarried problem.side problem note

-- The note at the place, from 0, reaches the problem.
abbrev pub ReachesAt : Board → List Derivation → ℕ → Type 0
ReachesAt problem notes place = IsSomeAnd (slice_get notes place) (Reaches problem)

-- It is the first that does.
pub record IsFirstReaching (problem : Board) (notes : List Derivation) (place : ℕ) : Type 0 where
  pub reaches : ReachesAt problem notes place
  pub none_before : (earlier : ℕ) → earlier < place → ¬ ReachesAt problem notes earlier

-- What a note that reaches the problem says of it: the note itself, where it is about it; else the
-- note, carried to it.
abbrev pub IsSaidBy : Board → Derivation → Derivation → Type 0
IsSaidBy problem note said =
    ((position_of note ≡ problem) × (said ≡ note))
    ⊎ ((position_of note ≢ problem) × MayBeCarried problem.side problem note × (said ≡ carried problem.side problem note))

-- What notes say of the problem: what the first that reaches it says; nothing where none does.
abbrev pub IsFirstSaid : Board → List Derivation → Option Derivation → Type 0
IsFirstSaid problem notes None = (place : ℕ) → ¬ ReachesAt problem notes place
IsFirstSaid problem notes (Some said) =
    (place : ℕ) × IsFirstReaching problem notes place × IsSomeAnd (slice_get notes place) (λ note. IsSaidBy problem note said)
