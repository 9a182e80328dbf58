-- What the children of a node say of it.
use Rattle.std.specs.Prelude.{◌≡◌, ◌==◌, ◌&&◌, ◌||◌, ◌↔◌, ◌++◌, ℕ, Bool, true, false, not, List, [], ◌∷◌, Option, Some, None, All, Contains, map, is_some, nat_le, if◌then◌else◌, IsTrue}
use Rattle.std.specs.List.{list_any, list_all, find, position}
use Rattle.bit_boards.specs.declared.piece.Side.{Side}
use Rattle.board_core.specs.declared.keys.Key.{Key}
use Rattle.board_core.specs.declared.moves.Move.{Move}
use Rattle.board_core.specs.declared.moves.Move.TheVariants as moves
use Rattle.board_core.specs.Board.{Board}
use Rattle.board_core.specs.Key.{key_of}
use Rattle.board_core.specs.Order.{Lists}
use Rattle.shogi_rules.specs.Rules.{after}
use Rattle.shogi_rules.specs.Tsume.{IsCheck, IsEvasion}
use Rattle.pn_numbers.specs.declared.node.Node.{Node}
use Rattle.pn_numbers.specs.declared.node.Node.TheVariants.{Attacker, Defender}
use Rattle.pn_numbers.specs.declared.numbers.Numbers.{Numbers}
use Rattle.pn_numbers.specs.declared.numbers.TheConstants.{INFINITE}
use Rattle.pn_numbers.specs.declared.selecting.Child.{Child as Counted}
use Rattle.pn_numbers.specs.Combined.{numbers_at}
use Rattle.notes.specs.Derivation.{Derivation, conclusion_of}
use Rattle.notes.specs.declared.rule.Conclusion.{Conclusion}
use Rattle.notes.specs.declared.rule.Conclusion.TheVariants.{Mate, Escape}
use Rattle.notes.specs.declared.rule.Rule.{Rule}
use Rattle.notes.specs.declared.rule.Rule.TheVariants.{MateEnd, MateAll, MateBy, EscapeEnd, EscapeBy, EscapeRepeat, EscapeAll}
use Rattle.visit_log.specs.declared.parts.Child.{Child}
use Rattle.visit_log.specs.declared.parts.Look.{Look}
use Rattle.visit_log.specs.declared.parts.Look.TheVariants.{Due, Fresh, Stale}
use Rattle.visit_log.specs.Frame.{node_at, one_and_one}

-- 1. WHICH CHILDREN THERE ARE.

-- The moves are those of who is to move at the node: exactly the attacker's checks, or exactly the
-- defender's evasions, in their order.
abbrev pub AreMoves : Node → Side → Board → List Move → Type 0
AreMoves Attacker attacker b moves = Lists (IsCheck attacker b) moves
AreMoves Defender attacker b moves = Lists (IsEvasion attacker b) moves

-- Whether the child of such a node is to be looked at first: not, where it is an attacker's
-- position that stands on the path.
abbrev pub first_look : Bool → Look
first_look true = Stale
first_look false = Due

-- A child of which nothing is known yet: its key is that of the position after the move; it is on
-- the path where the defender moves and its key stands there; it is to be looked at where it isn't
-- on the path.
pub record IsNewChild (attacker : Side) (b : Board) (path : List Key) (child : Child) : Type 0 where
  pub key : child.key.0 ≡ key_of (after b child.by)
  pub on_path : IsTrue child.on_path ↔ ((node_at attacker b ≡ Defender) × Contains path child.key)
  pub look : child.look ≡ first_look child.on_path
  pub numbers : child.numbers ≡ one_and_one
  pub below : child.below ≡ 0
  pub no_note : child.note ≡ None

-- The move that leads to a child.
abbrev pub move_to : Child → Move
move_to child = child.by

-- The children of a position, in the order of moves, when nothing is known of them yet. The path
-- holds the keys of the attacker's positions that are being visited, this one's among them.
pub record AreChildren (attacker : Side) (b : Board) (path : List Key) (children : List Child) : Type 0 where
  pub moves : AreMoves (node_at attacker b) attacker b (map move_to children)
  pub new : All (IsNewChild attacker b path) children

-- 2. WHETHER THEY SOLVE THE NODE.

-- Whether the child is solved on the path by a note.
abbrev pub has_note : Child → Bool
has_note child = is_some child.note

-- Whether it says that the attacker mates.
abbrev pub is_mate : Conclusion → Bool
is_mate Mate = true
is_mate Escape = false

-- Whether a note is there, and says that the attacker mates.
abbrev pub shows_mate : Option Derivation → Bool
shows_mate None = false
shows_mate (Some note) = is_mate (conclusion_of note)

-- Whether a note is there, and says that the defender escapes.
abbrev pub shows_escape : Option Derivation → Bool
shows_escape None = false
shows_escape (Some note) = not (is_mate (conclusion_of note))

-- Whether the child decides its node alone: the attacker has a check that mates; the defender has
-- an evasion that escapes, or gets him back to a position on the path.
abbrev pub decides : Node → Child → Bool
decides Attacker child = shows_mate child.note
decides Defender child = child.on_path || shows_escape child.note

-- The first child that decides its node; none where none does.
abbrev pub deciding : Node → List Child → Option Child
deciding node children = find (decides node) children

-- Whether the node is solved on the path: a child decides it, or all have a note (so where there is
-- no child).
abbrev pub is_solved : Node → List Child → Bool
is_solved node children = is_some (deciding node children) || list_all has_note children

-- 3. THE NOTE OF A SOLVED NODE.

-- The note of a child, if it has one.
abbrev pub note_list : Option Derivation → List Derivation
note_list None = []
note_list (Some note) = note ∷ []

-- The notes of the children, in their order.
abbrev pub notes_in : List Child → List Derivation
notes_in [] = []
notes_in (child ∷ children) = note_list child.note ++ notes_in children

-- The rule by which a child that decides its node does.
abbrev pub rule_by : Node → Child → Rule
rule_by Attacker child = MateBy child.by
rule_by Defender child = if child.on_path then EscapeRepeat child.by else EscapeBy child.by

-- The rule of a node that no child decides alone.
abbrev pub rule_of_all : Node → List Child → Rule
rule_of_all Attacker [] = EscapeEnd
rule_of_all Attacker (child ∷ children) = EscapeAll
rule_of_all Defender [] = MateEnd
rule_of_all Defender (child ∷ children) = MateAll

-- The rule of a solved node's note, by the child that decides it, if one does.
abbrev pub rule_with : Node → List Child → Option Child → Rule
rule_with node children None = rule_of_all node children
rule_with node children (Some child) = rule_by node child

-- The notes on which it rests.
abbrev pub notes_with : List Child → Option Child → List Derivation
notes_with children None = notes_in children
notes_with children (Some child) = note_list child.note

-- The rule of a solved node's note.
abbrev pub rule_at : Node → List Child → Rule
rule_at node children = rule_with node children (deciding node children)

-- The notes on which a solved node's note rests.
abbrev pub notes_under : Node → List Child → List Derivation
notes_under node children = notes_with children (deciding node children)

-- 4. THE NUMBERS OF AN UNSOLVED NODE.

-- Proved or disproved, by what a note says.
abbrev pub settled : Conclusion → Numbers
settled Mate = record { pn = 0; dn = INFINITE }
settled Escape = record { pn = INFINITE; dn = 0 }

-- What a child counts as: proved or disproved where it has a note, else with the numbers that were
-- seen last.
abbrev pub numbers_by : Option Derivation → Numbers → Numbers
numbers_by None numbers = numbers
numbers_by (Some note) numbers = settled (conclusion_of note)

-- Whether both are drops on one square.
abbrev pub drop_on_same : Move → Move → Bool
drop_on_same (moves.Board from to promote) other = false
drop_on_same (moves.Drop dropped to) (moves.Board from at promote) = false
drop_on_same (moves.Drop dropped to) (moves.Drop other at) = to.number == at.number

-- Whether an earlier child hides a later one: both are drops on one square, and the earlier one has
-- no note yet.
abbrev pub hides : Child → Child → Bool
hides later earlier = not (has_note earlier) && drop_on_same later.by earlier.by

-- Whether a child is hidden by the children before it. Only the defender's drops are: those on one
-- square are answers of one kind.
abbrev pub is_hidden : Node → List Child → Child → Bool
is_hidden Attacker before child = false
is_hidden Defender before child = list_any (hides child) before

-- A child as it is counted behind others. One that is hidden counts as proved: so it adds nothing
-- to the sum of a defender's node, isn't its least, and isn't selected.
abbrev pub counted_behind : Node → List Child → Child → Counted
counted_behind node before child = record {
  numbers = if is_hidden node before child then settled Mate else numbers_by child.note child.numbers;
  below = child.below;
}

-- The children as they are counted, behind others.
abbrev pub counted_after : Node → List Child → List Child → List Counted
counted_after node before [] = []
counted_after node before (child ∷ children) = counted_behind node before child ∷ counted_after node (before ++ child ∷ []) children

-- The children as they are counted.
abbrev pub counted : Node → List Child → List Counted
counted node children = counted_after node [] children

-- The numbers of a child as it is counted.
abbrev pub numbers_in : Counted → Numbers
numbers_in child = child.numbers

-- The node's own numbers.
abbrev pub own_numbers : Node → List Child → Numbers
own_numbers node children = numbers_at node (map numbers_in (counted node children))

-- Whether numbers have come to a threshold.
abbrev pub reaches : Numbers → Numbers → Bool
reaches numbers limits = nat_le limits.pn numbers.pn || nat_le limits.dn numbers.dn

-- 5. WHICH IS LOOKED AT FIRST.

-- Whether it is to be looked at in this round.
abbrev pub is_due : Look → Bool
is_due Due = true
is_due Fresh = false
is_due Stale = false

-- Whether this round has looked at it.
abbrev pub is_fresh : Look → Bool
is_fresh Due = false
is_fresh Fresh = true
is_fresh Stale = false

-- Whether the child is.
abbrev pub child_is_due : Child → Bool
child_is_due child = is_due child.look

-- The place of the first child that is due; none where none is.
abbrev pub first_due : List Child → Option ℕ
first_due children = position child_is_due children
