-- The moves of a position that is visited, and what is known of the positions that they lead to.
use Rattle.std.specs.Prelude.{◌≡◌, ◌⊎◌, ◌+◌, ◌<◌, ◌≤◌, ℕ, List, map, Contains}
use Rattle.board_core.specs.declared.moves.Move.{Move}
use Rattle.board_core.specs.Board.{Board}
use Rattle.shogi_rules.specs.Rules.{after}
use Rattle.shogi_rules.specs.Tsume.{IsCheck, IsEvasion}
use Rattle.mate_def.specs.Mate.{after_both}
use Rattle.shortest_facts.specs.declared.fact.TheConstants.{NEVER}
use Rattle.shortest_facts.specs.Facts.{Known, HasNoCheck}
use Rattle.shortest_search.specs.declared.child.Child.{Child}

-- A check, with what is known of the position that it leads to: each evasion leads to a position
-- that is known to be mate in at most so many moves; and where a mate takes more than one move from
-- there, so many that it is known to take.
pub record IsKnownCheck (k : Known) (b : Board) (child : Child) : Type 0 where
  pub is_check : IsCheck k.attacker b child.by
  pub most : child.most < NEVER → (evasion : Move) → IsEvasion k.attacker (after b child.by) evasion → (k.at (after_both b child.by evasion)).most ≤ child.most
  pub least : 1 < child.least → child.least ≤ (k.at (after b child.by)).least

-- An evasion, with what is known of the position that it leads to: it is known to be mate in at
-- most so many moves; and it has no check, or a mate is known to take so many.
pub record IsKnownEvasion (k : Known) (b : Board) (child : Child) : Type 0 where
  pub is_evasion : IsEvasion k.attacker b child.by
  pub most : (k.at (after b child.by)).most ≤ child.most
  pub least : HasNoCheck k.attacker (after b child.by) ⊎ (child.least ≤ (k.at (after b child.by)).least)

-- The children have the property, and each move with this property is that of one.
pub record AreAll (Known : Child → Type 0) (Wanted : Move → Type 0) (children : List Child) : Type 0 where
  pub each : (child : Child) → Contains children child → Known child
  pub all : (move : Move) → Wanted move → Contains (map (λ child. child.by) children) move

-- All checks of a position, with what is known.
abbrev pub AreChecks : Known → Board → List Child → Type 0
AreChecks k b children = AreAll (IsKnownCheck k b) (IsCheck k.attacker b) children

-- All evasions of a position, with what is known.
abbrev pub AreEvasions : Known → Board → List Child → Type 0
AreEvasions k b children = AreAll (IsKnownEvasion k b) (IsEvasion k.attacker b) children

-- One more, but never more than never.
abbrev pub IsNext : ℕ → ℕ → Type 0
IsNext n next = (next ≡ n + 1) ⊎ ((next ≡ NEVER) × (NEVER ≤ n))
