-- The main line of a mate's certificate: the attacker plays the certificate's move, the defender
-- the evasion that lasts longest.
use Rattle.std.specs.Prelude.{◌≡◌, ◌≤◌, ℕ, List, [], ◌∷◌, Option, Some, None}
use Rattle.bit_boards.specs.declared.piece.Side.{Side}
use Rattle.board_core.specs.declared.moves.Move.{Move}
use Rattle.board_core.specs.Board.{Board}
use Rattle.board_core.specs.Order.{order_of}
use Rattle.shogi_rules.specs.Rules.{after}
use Rattle.shogi_rules.specs.Tsume.{IsCheck, IsEvasion}
use Rattle.mate_def.specs.Mate.{after_both}
use Rattle.cert_text.specs.Certificate.{Mating}
use Rattle.dominance_places.specs.Found.{IsLeastCovered}

-- The certificate has this move at the position: it is that of the position's entry, which is, of
-- those that the position covers, the one of the least rank, the first such. (In version 1 it is
-- the one entry that has the position.)
pub record IsMoveAt (c : Mating) (attacker : Side) (position : Board) (move : Move) : Type 0 where
  pub place : ℕ
  pub found : IsLeastCovered c.version c.entries attacker position place
  pub has_move : found.stands.entry.by ≡ move

-- The certificate has this rank at the position: it is that of the position's entry.
pub record IsRankAt (c : Mating) (attacker : Side) (position : Board) (rank : ℕ) : Type 0 where
  pub place : ℕ
  pub found : IsLeastCovered c.version c.entries attacker position place
  pub has_rank : found.stands.entry.rank.number ≡ rank

-- The evasion that lasts longest: it leads to the position of the highest rank, and is the first
-- that does, in the order of moves.
pub record IsLongest (c : Mating) (attacker : Side) (b : Board) (evasion : Move) : Type 0 where
  pub is_evasion : IsEvasion attacker b evasion
  pub rank : ℕ
  pub leads : IsRankAt c attacker (after b evasion) rank
  pub highest : (other : Move) (lower : ℕ) → IsEvasion attacker b other → IsRankAt c attacker (after b other) lower → lower ≤ rank
  pub first : (other : Move) → IsEvasion attacker b other → IsRankAt c attacker (after b other) rank → order_of evasion ≤ order_of other

-- The main line at a position: the certificate's move there; where the defender has no evasion to
-- it, that is all; else it goes on with the evasion that lasts longest, and then with the main line
-- from there.
abbrev pub IsMainLine : Mating → Side → Board → List Move → Type 0
IsMainLine c attacker b [] = ⊥
IsMainLine c attacker b (check ∷ []) = IsMoveAt c attacker b check × ((evasion : Move) → ¬ IsEvasion attacker (after b check) evasion)
IsMainLine c attacker b (check ∷ evasion ∷ rest) =
    IsMoveAt c attacker b check × IsLongest c attacker (after b check) evasion × IsMainLine c attacker (after_both b check evasion) rest

-- What the defender plays after a check: nothing where he has no evasion, else the one that lasts
-- longest.
abbrev pub IsDefence : Mating → Side → Board → Option Move → Type 0
IsDefence c attacker b None = (evasion : Move) → ¬ IsEvasion attacker b evasion
IsDefence c attacker b (Some evasion) = IsLongest c attacker b evasion

-- The moves mate from a position: they are checks and evasions in turn, and there is no evasion to
-- the last check.
abbrev pub DoMate : Side → Board → List Move → Type 0
DoMate attacker b [] = ⊥
DoMate attacker b (check ∷ []) = IsCheck attacker b check × ((evasion : Move) → ¬ IsEvasion attacker (after b check) evasion)
DoMate attacker b (check ∷ evasion ∷ rest) =
    IsCheck attacker b check × IsEvasion attacker (after b check) evasion × DoMate attacker (after_both b check evasion) rest
