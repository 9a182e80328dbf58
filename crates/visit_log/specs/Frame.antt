-- What a visit is of, and what is known in it.
use Rattle.std.specs.Prelude.{ℕ, List, [], Option, Some, None}
use Rattle.bit_boards.specs.declared.piece.Side.{Side}
use Rattle.bit_boards.specs.declared.piece.Side.TheVariants.{Black, White}
use Rattle.board_core.specs.declared.keys.Key.{Key}
use Rattle.board_core.specs.Board.{Board}
use Rattle.board_core.specs.Key.{key_of}
use Rattle.pn_numbers.specs.declared.node.Node.{Node}
use Rattle.pn_numbers.specs.declared.node.Node.TheVariants.{Attacker, Defender}
use Rattle.pn_numbers.specs.declared.numbers.Numbers.{Numbers}
use Rattle.pn_numbers.specs.declared.numbers.TheConstants.{INFINITE}
use Rattle.notes.specs.declared.words.Kept.{Kept}
use Rattle.visit_log.specs.declared.parts.Child.{Child}

-- The search of a worker: the position of its problem, in which the attacker is to move, and the
-- worker's number, from 1.
pub record Task : Type 0 where
  pub problem : Board
  pub worker : ℕ

-- The search of a problem's position by the worker of this number.
abbrev pub task_for : Board → ℕ → Task
task_for b number = record { problem = b; worker = number }

-- The side that attacks.
abbrev pub attacker_in : Task → Side
attacker_in task = task.problem.side

-- Whose move it is, where the first side attacks and the second is to move.
abbrev pub node_of : Side → Side → Node
node_of Black Black = Attacker
node_of Black White = Defender
node_of White Black = Defender
node_of White White = Attacker

-- Whose move it is at a position.
abbrev pub node_at : Side → Board → Node
node_at attacker b = node_of attacker b.side

-- What is visited: a position with its key, the thresholds of the visit, and the numbers with which
-- the position is entered.
pub record Place : Type 0 where
  pub position : Board
  pub key : Key
  pub limits : Numbers
  pub numbers : Numbers

-- A visit that is going on: what it is of, what entering it was answered (none before that), the
-- successors, in the order of moves (none before they are listed), and at which place, from 0, the
-- one stands that is being visited, or was last.
pub record FrameView : Type 0 where
  pub place : Place
  pub kept : Option Kept
  pub children : List Child
  pub chosen : ℕ

-- The key of a position.
abbrev pub the_key : Board → Key
the_key b = record { 0 = key_of b }

-- No threshold.
abbrev pub no_limits : Numbers
no_limits = record { pn = INFINITE; dn = INFINITE }

-- The numbers of a position of which nothing at all is known.
abbrev pub one_and_one : Numbers
one_and_one = record { pn = 1; dn = 1 }

-- The visit of the problem's own position has no thresholds, and begins with the numbers 1 and 1.
abbrev pub root : Task → Place
root task = record { position = task.problem; key = the_key task.problem; limits = no_limits; numbers = one_and_one }

-- A visit before its position is entered.
abbrev pub begun : Place → FrameView
begun p = record { place = p; kept = None; children = []; chosen = 0 }

-- A visit whose position is entered and whose successors are listed.
abbrev pub opened : Place → Kept → List Child → FrameView
opened p kept children = record { place = p; kept = Some kept; children = children; chosen = 0 }

-- The visit with other children.
abbrev pub with_children : FrameView → List Child → FrameView
with_children f children = record { place = f.place; kept = f.kept; children = children; chosen = f.chosen }

-- The visit that goes on to the child at a place.
abbrev pub choose : FrameView → ℕ → FrameView
choose f place = record { place = f.place; kept = f.kept; children = f.children; chosen = place }
