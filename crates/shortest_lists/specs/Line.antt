-- The line of play of a shortest mate: the mate's moves against evasions that last as long as the
-- bound says.
use Rattle.std.specs.Prelude.{◌≡◌, ◌<◌, ◌≤◌, ◌-◌, ℕ, List, [], ◌∷◌, Contains}
use Rattle.bit_boards.specs.declared.piece.Side.{Side}
use Rattle.board_core.specs.declared.moves.Move.{Move}
use Rattle.board_core.specs.Board.{Board}
use Rattle.board_core.specs.Kept.{IsKept}
use Rattle.board_core.specs.Order.{order_of}
use Rattle.shogi_rules.specs.Rules.{after}
use Rattle.shogi_rules.specs.Tsume.{IsEvasion}
use Rattle.mate_def.specs.Mate.{RankAtMost, after_both}
use Rattle.mate_facts.specs.declared.entry.MateEntry.{MateEntry}
use Rattle.mate_facts.specs.Entries.{IsListedWith, positions_of}
use Rattle.hand_dominance.specs.BorneOut.{AreKept}
use Rattle.cert_text.specs.Certificate.{Mating}
use Rattle.cert_check.specs.Valid.{ValidMate}
use Rattle.bound_text.specs.declared.entry.BoundEntry.{BoundEntry}
use Rattle.bound_check.specs.Valid.{IsValidBound, Keeps}

-- The mate lists the position with this move.
pub record IsListedMove (c : Mating) (position : Board) (move : Move) : Type 0 where
  pub entry : MateEntry
  pub listed : Contains c.entries entry
  pub same : entry.at ≡ position
  pub has_move : entry.by ≡ move

-- The position lasts for so many moves: the mate has that rank there; and where it is more than
-- one, the bound lists the position with one less, or with more.
pub record Lasts (c : Mating) (bounds : List BoundEntry) (rank : ℕ) (position : Board) : Type 0 where
  pub ranked : IsListedWith c.entries rank position
  pub kept : Keeps bounds rank position

-- The evasion is the first, in the order of moves, that leads to a position that lasts for so many
-- moves.
pub record IsFirstLasting (c : Mating) (bounds : List BoundEntry) (attacker : Side) (rank : ℕ) (b : Board) (evasion : Move) : Type 0 where
  pub is_evasion : IsEvasion attacker b evasion
  pub lasts : Lasts c bounds rank (after b evasion)
  pub first : (other : Move) → IsEvasion attacker b other → Lasts c bounds rank (after b other) → order_of evasion ≤ order_of other

-- The line from a position of a rank: the mate's move there; at rank 1 that is all; above it comes
-- the first evasion that leads to a position that lasts for one move less, and then the line from
-- there.
abbrev pub IsLineFrom : Mating → List BoundEntry → Side → ℕ → Board → List Move → Type 0
IsLineFrom c bounds attacker rank b [] = ⊥
IsLineFrom c bounds attacker rank b (check ∷ []) = (rank ≡ 1) × IsListedMove c b check
IsLineFrom c bounds attacker rank b (check ∷ evasion ∷ rest) =
    (1 < rank) × IsListedMove c b check × IsFirstLasting c bounds attacker (rank - 1) (after b check) evasion
    × IsLineFrom c bounds attacker (rank - 1) (after_both b check evasion) rest

-- The line of play of a mate of a position, of a rank.
abbrev pub IsShortestLine : Mating → List BoundEntry → Board → ℕ → List Move → Type 0
IsShortestLine c bounds p rank line = IsLineFrom c bounds p.side rank p line

-- A law: at a position that lasts for so many moves, by a valid mate whose positions are kept ones,
-- as the problem is, and a valid bound, there is a mate within that number, and none within one
-- less.
abbrev pub LastingIsExact : Type 0
LastingIsExact = (c : Mating) (bounds : List BoundEntry) (p b : Board) (within rank : ℕ) → AreKept (positions_of c.entries) → IsKept p
    → ValidMate c p → IsValidBound bounds p within → Lasts c bounds rank b → RankAtMost p.side rank b × (¬ RankAtMost p.side (rank - 1) b)
