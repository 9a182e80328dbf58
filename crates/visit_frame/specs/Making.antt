-- What the parts of the making of a note take and give: it serves private functions alone.
use Rattle.std.specs.Prelude.{◌≡◌, List, All, map, Some}
use Rattle.bit_boards.specs.declared.piece.Side.{Side}
use Rattle.bit_boards.specs.Kind.{other}
use Rattle.board_core.specs.declared.keys.Key.{Key}
use Rattle.board_core.specs.Board.{Board}
use Rattle.shogi_rules.specs.Rules.{after}
use Rattle.pn_numbers.specs.declared.node.Node.{Node}
use Rattle.pn_numbers.specs.declared.node.Node.TheVariants.{Attacker, Defender}
use Rattle.notes.specs.Derivation.{Derivation, rule_of, attacker_of, position_of, under_of}
use Rattle.notes.specs.Valid.{IsValid, Says}
use Rattle.notes.specs.declared.rule.Rule.{Rule}
use Rattle.notes.specs.declared.rule.Conclusion.{Conclusion}
use Rattle.notes.specs.declared.rule.Conclusion.TheVariants.{Mate, Escape}
use Rattle.visit_log.specs.declared.parts.Child.{Child}
use Rattle.visit_log.specs.Frame.{Task, attacker_in, node_at}
use Rattle.visit_log.specs.Children.{AreMoves, move_to}
use Rattle.visit_log.specs.Machine.{IsPlayed}
use Rattle.visit_log.specs.Sound.{IsSoundChild}

-- A valid note by this rule about this position, for the attacker, over these notes.
pub record IsNoteFor (rule : Rule) (attacker : Side) (b : Board) (under : List Derivation) (note : Derivation) : Type 0 where
  pub valid : IsValid note
  pub its_rule : rule_of note ≡ rule
  pub same_attacker : attacker_of note ≡ attacker
  pub about : position_of note ≡ b
  pub its_under : under_of note ≡ under

-- A position as play leads to it, with its children, of which what is known is sound on the path.
pub record IsKnown (task : Task) (path : List Key) (node : Node) (b : Board) (children : List Child) : Type 0 where
  pub is_node : node ≡ node_at (attacker_in task) b
  pub played : IsPlayed (attacker_in task) b
  pub moves : AreMoves node (attacker_in task) b (map move_to children)
  pub sound : All (IsSoundChild task b path) children

-- What a note says that serves the other side of a node.
abbrev pub against : Node → Conclusion
against Attacker = Escape
against Defender = Mate

-- The child has a note, and it says that the other side of the node gets what it wants.
pub record Refutes (node : Node) (attacker : Side) (b : Board) (child : Child) : Type 0 where
  pub note : Derivation
  pub has : child.note ≡ Some note
  pub says : Says (against node) attacker (after b child.by) note

-- The side whose move it is at a node.
abbrev pub mover : Node → Side → Side
mover Attacker attacker = attacker
mover Defender attacker = other attacker

-- The moves of a node, each refuted.
pub record AllSay (node : Node) (attacker : Side) (b : Board) (children : List Child) : Type 0 where
  pub turn : b.side ≡ mover node attacker
  pub moves : AreMoves node attacker b (map move_to children)
  pub refuted : All (Refutes node attacker b) children
