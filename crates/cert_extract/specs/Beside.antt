-- What a note tells: its own position, and what a leaf stands among.
use Rattle.std.specs.Prelude.{◌≡◌, ◌<◌, ◌⊎◌, ℕ, List, Contains}
use Rattle.board_core.specs.Board.{Board}
use Rattle.notes.specs.declared.rule.Rule.{Rule}
use Rattle.notes.specs.declared.rule.Rule.TheVariants.{MateLeaf, EscapeLeaf}
use Rattle.notes.specs.Derivation.{Derivation, Ranked, rule_of, position_of, beside_of}

-- A leaf of a mate, of this rank and about this position, tells of one of those that it stands
-- among: that is of lower rank, or the leaf's own.
pub record IsToldBeside (beside : List Ranked) (rank : ℕ) (own : Board) (one : Ranked) : Type 0 where
  pub inside : Contains beside one
  pub low : (one.rank < rank) ⊎ ((one.rank ≡ rank) × (one.at ≡ own))

-- A leaf with this rule, which stands among these and is about the one position, tells of the
-- other: of a mate one of lower rank or its own, of an escape any. Another note tells of none.
abbrev pub IsBeside : Rule → List Ranked → Board → Board → Type 0
IsBeside (MateLeaf version rank) beside own b = (one : Ranked) × IsToldBeside beside rank own one × (one.at ≡ b)
IsBeside (EscapeLeaf version) beside own b = (one : Ranked) × Contains beside one × (one.at ≡ b)
IsBeside rule beside own b = ⊥

-- A note tells of a position: it is its own, or one that it tells of as a leaf.
abbrev pub Tells : Derivation → Board → Type 0
Tells note b = (position_of note ≡ b) ⊎ IsBeside (rule_of note) (beside_of note) (position_of note) b
