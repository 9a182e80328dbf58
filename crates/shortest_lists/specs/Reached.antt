-- What the facts lead to from a problem: along the mate that they show, and along the bound.
use Rattle.std.specs.Prelude.{◌≡◌, ◌<◌, ℕ, zero, suc, List, Some, Contains, length}
use Rattle.board_core.specs.declared.moves.Move.{Move}
use Rattle.board_core.specs.Board.{Board}
use Rattle.shogi_rules.specs.Rules.{after}
use Rattle.shogi_rules.specs.Tsume.{IsCheck, IsEvasion}
use Rattle.mate_def.specs.Mate.{after_both}
use Rattle.mate_facts.specs.declared.entry.MateEntry.{MateEntry}
use Rattle.mate_facts.specs.Entries.{AreApart}
use Rattle.shortest_facts.specs.Facts.{Known}

-- The mate that the facts show goes on from the one position to the other: the attacker plays the
-- check of the first one's fact, and the defender an evasion to it.
pub record IsMateStep (k : Known) (b next : Board) : Type 0 where
  pub check : Move
  pub by : (k.at b).by ≡ Some check
  pub evasion : Move
  pub is_evasion : IsEvasion k.attacker (after b check) evasion
  pub leads : after_both b check evasion ≡ next

-- The bound that the facts show goes on from the one position to the other: the attacker plays a
-- check, and the defender the evasion of the fact after it, where a mate is known to take more than
-- one move.
pub record IsBoundStep (k : Known) (b next : Board) : Type 0 where
  pub check : Move
  pub is_check : IsCheck k.attacker b check
  pub evasion : Move
  pub by : (k.at (after b check)).by ≡ Some evasion
  pub long : 1 < (k.at (after b check)).least
  pub leads : after_both b check evasion ≡ next

-- So many steps lead from the position to the other.
abbrev pub LeadsTo : (Board → Board → Type 0) → Board → ℕ → Board → Type 0
LeadsTo Step p zero q = p ≡ q
LeadsTo Step p (suc steps) q = (b : Board) × LeadsTo Step p steps b × Step b q

-- Some number of steps does.
abbrev pub IsReached : (Board → Board → Type 0) → Board → Board → Type 0
IsReached Step p q = (steps : ℕ) × LeadsTo Step p steps q

-- Steps lead from the position to more different positions than so many.
pub record HasMoreThan (Step : Board → Board → Type 0) (p : Board) (most : ℕ) : Type 0 where
  pub positions : List Board
  pub apart : AreApart positions
  pub more : most < length positions
  pub reached : (q : Board) → Contains positions q → IsReached Step p q

-- The entry is what the facts say of its position: the rank is the most moves that a mate takes,
-- and the move is the fact's.
pub record IsOfFact (k : Known) (entry : MateEntry) : Type 0 where
  pub rank : entry.rank.number ≡ (k.at entry.at).most
  pub by : (k.at entry.at).by ≡ Some entry.by
