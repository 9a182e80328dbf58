-- The positions of a mate's entries, and of any list in which none stands twice.
use Rattle.std.specs.Prelude.{◌≡◌, ℕ, List, Some, Contains, map, slice_get}
use Rattle.board_core.specs.Board.{Board}
use Rattle.mate_facts.specs.declared.entry.MateEntry.{MateEntry}

-- No position stands at two places of the list.
abbrev pub AreApart : List Board → Type 0
AreApart positions = (i j : ℕ) (b : Board) → slice_get positions i ≡ Some b → slice_get positions j ≡ Some b → i ≡ j

-- The positions of a mate's entries.
abbrev pub positions_of : List MateEntry → List Board
positions_of entries = map (λ entry. entry.at) entries

-- An entry lists the position with this rank.
pub record IsListedWith (entries : List MateEntry) (rank : ℕ) (position : Board) : Type 0 where
  pub entry : MateEntry
  pub listed : Contains entries entry
  pub same : entry.at ≡ position
  pub has_rank : entry.rank.number ≡ rank
