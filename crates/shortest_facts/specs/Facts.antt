-- What is known of how many of the attacker's moves mates take, and what each such fact rests on.
use Rattle.std.specs.Prelude.{◌≡◌, ◌⊎◌, ◌+◌, ◌<◌, ◌≤◌, ℕ, None, IsSomeAnd}
use Rattle.bit_boards.specs.declared.piece.Side.{Side}
use Rattle.bit_boards.specs.declared.piece.Side.TheVariants.{Black, White}
use Rattle.bit_boards.specs.Kind.{other}
use Rattle.board_core.specs.declared.moves.Move.{Move}
use Rattle.board_core.specs.Board.{Board}
use Rattle.board_core.specs.Kept.{IsKept}
use Rattle.shogi_rules.specs.Rules.{after}
use Rattle.shogi_rules.specs.Tsume.{IsCheck, IsEvasion}
use Rattle.mate_def.specs.Mate.{HasEvasionTo, after_both}
use Rattle.shortest_facts.specs.declared.fact.Fact.{Fact}
use Rattle.shortest_facts.specs.declared.fact.TheConstants.{NEVER}

-- What is known of every position, for an attacker.
pub record Known : Type 0 where
  pub attacker : Side
  pub at : Board → Fact

-- The fewest moves that a mate could take of which nothing is known: 1 where the attacker is to
-- move, 0 where the defender is, who may be mated already.
abbrev pub fewest : Side → Side → ℕ
fewest Black Black = 1
fewest Black White = 0
fewest White Black = 0
fewest White White = 1

-- The fact about a position of which nothing is known.
abbrev pub nothing_at : Side → Board → Fact
nothing_at attacker b = record { least = fewest attacker b.side; most = NEVER; by = None }

-- There is no check.
abbrev pub HasNoCheck : Side → Board → Type 0
HasNoCheck attacker b = (check : Move) → ¬ IsCheck attacker b check

-- 1. WHERE THE ATTACKER IS TO MOVE.

-- The check mates as fast as the fact says: each evasion to it leads to a position that is known to
-- be mate in fewer moves.
pub record Mates (k : Known) (b : Board) (check : Move) : Type 0 where
  pub is_check : IsCheck k.attacker b check
  pub faster : (evasion : Move) → IsEvasion k.attacker (after b check) evasion → (k.at (after_both b check evasion)).most < (k.at b).most

-- What the fact about a position rests on, where the attacker is to move. A mate takes one move at
-- least. Where one is known, the fact's move is its check. Where a mate takes more than one move,
-- each check has an evasion; where it takes more than two, each check leads to a position from
-- which it is known to take at most one move less.
pub record StandsForAttacker (k : Known) (b : Board) : Type 0 where
  pub some_least : 1 ≤ (k.at b).least
  pub some_most : 1 ≤ (k.at b).most
  pub mate : (k.at b).most < NEVER → IsSomeAnd (k.at b).by (Mates k b)
  pub evaded : 1 < (k.at b).least → (check : Move) → IsCheck k.attacker b check → HasEvasionTo k.attacker (λ next. Unit {0}) b check
  pub longer : 2 < (k.at b).least → (check : Move) → IsCheck k.attacker b check → (k.at b).least ≤ (k.at (after b check)).least + 1

-- 2. WHERE THE DEFENDER IS TO MOVE.

-- The evasion holds out as long as the fact says: it leads to a position without a check, or to one
-- from which a mate is known to take as many moves.
pub record HoldsOut (k : Known) (b : Board) (evasion : Move) : Type 0 where
  pub is_evasion : IsEvasion k.attacker b evasion
  pub long : HasNoCheck k.attacker (after b evasion) ⊎ ((k.at b).least ≤ (k.at (after b evasion)).least)

-- What the fact about a position rests on, where the defender is to move. Where a mate is known,
-- each evasion leads to one in no more moves. Where it takes more than one move, the fact's move is
-- an evasion that holds out as long.
pub record StandsForDefender (k : Known) (b : Board) : Type 0 where
  pub mated : (k.at b).most < NEVER → (evasion : Move) → IsEvasion k.attacker b evasion → (k.at (after b evasion)).most ≤ (k.at b).most
  pub holds_out : 1 < (k.at b).least → IsSomeAnd (k.at b).by (HoldsOut k b)

-- 3. ALL FACTS.

-- All facts rest on what they have to. (Of positions that keep what every position keeps.)
pub record AreBorneOut (k : Known) : Type 0 where
  pub attacker : (b : Board) → IsKept b → b.side ≡ k.attacker → StandsForAttacker k b
  pub defender : (b : Board) → IsKept b → b.side ≡ other k.attacker → StandsForDefender k b

-- What is known now is as good as what was, and the attacker is the same: at each position the
-- least has only risen, and the most only fallen.
pub record IsBetter (before after_it : Known) : Type 0 where
  pub same : after_it.attacker ≡ before.attacker
  pub least : (b : Board) → IsKept b → (before.at b).least ≤ (after_it.at b).least
  pub most : (b : Board) → IsKept b → (after_it.at b).most ≤ (before.at b).most

-- Nothing is known.
abbrev pub IsNothing : Side → Known → Type 0
IsNothing attacker k = (k.attacker ≡ attacker) × ((b : Board) → k.at b ≡ nothing_at attacker b)

-- What is known at one position was changed to this, and nothing else was.
pub record IsChanged (before after_it : Known) (b : Board) (fact : Fact) : Type 0 where
  pub same : after_it.attacker ≡ before.attacker
  pub there : after_it.at b ≡ fact
  pub elsewhere : (q : Board) → IsKept q → (q ≡ b) ⊎ (after_it.at q ≡ before.at q)
