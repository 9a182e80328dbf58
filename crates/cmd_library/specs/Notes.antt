-- What of a library is known before a search begins.
use Rattle.std.specs.Prelude.{◌≡◌, ◌≤◌, ◌⊎◌, ℕ, List, [], Contains, if◌then◌else◌}
use Rattle.std.specs.List.{flat_map}
use Rattle.bit_boards.specs.declared.piece.Side.{Side}
use Rattle.bit_boards.specs.Kind.{same_side}
use Rattle.board_core.specs.Board.{Board}
use Rattle.mate_facts.specs.Entries.{IsListedWith}
use Rattle.cert_text.specs.declared.certificate.Certificate.{Certificate}
use Rattle.cert_text.specs.declared.certificate.Certificate.TheVariants.{Mate, Escape}
use Rattle.cert_text.specs.Kinds.{problem_of}
use Rattle.cert_extract.specs.Known.{leaves_of}
use Rattle.notes.specs.Derivation.{Derivation}
use Rattle.unit_desk.specs.Known.{ReachesAt}

-- The notes of a certificate for a side: the leaves of what it lists, where its problem has this
-- side to move; else none.
abbrev pub leaves_for : Side → Certificate → List Derivation
leaves_for side c = if same_side (problem_of c).side side then leaves_of c else []

-- The notes of a library for a side: those of its certificates, in their order.
abbrev pub notes_of : Side → List Certificate → List Derivation
notes_of side certificates = flat_map (leaves_for side) certificates

-- A certificate lists the position: as one of an escape, or in an entry of a mate, whose rank is
-- 2,048 at most.
abbrev pub Lists : Certificate → Board → Type 0
Lists (Mate c) b = (rank : ℕ) × (rank ≤ 2048) × IsListedWith c.entries rank b
Lists (Escape c) b = Contains c.entries b

-- A certificate of the library lists the position, whose problem has its side to move.
pub record IsListedIn (certificates : List Certificate) (b : Board) : Type 0 where
  pub certificate : Certificate
  pub among : Contains certificates certificate
  pub turn : (problem_of certificate).side ≡ b.side
  pub lists : Lists certificate b

-- The problem is known by the library: a certificate lists it, or one of the notes is about it, or
-- may be carried to it.
abbrev pub IsKnownBy : List Certificate → Board → Type 0
IsKnownBy certificates b = IsListedIn certificates b ⊎ ((place : ℕ) × ReachesAt b (notes_of b.side certificates) place)
