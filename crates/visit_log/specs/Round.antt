-- What comes next in a visit. A round looks at the children that are due, in their order: in the
-- first round all but those on the path, later the one whose visit has just ended, where that left
-- no note. Then the node is solved, or its numbers have come to a threshold, or a child is
-- selected; one that this round hasn't looked at is looked at once more, and the node is reckoned
-- with anew; else it is visited, and the next round begins. (df-pn: Nagai 2002.)
use Rattle.std.specs.Prelude.{◌≡◌, ◌≤◌, ◌<◌, ◌+◌, ◌⊎◌, ℕ, true, false, List, Some, None, map, slice_get, slice_set}
use Rattle.bit_boards.specs.declared.piece.Side.{Side}
use Rattle.bit_boards.specs.Kind.{other}
use Rattle.board_core.specs.declared.keys.Key.{Key}
use Rattle.board_core.specs.declared.moves.Move.{Move}
use Rattle.board_core.specs.Board.{Board}
use Rattle.board_core.specs.Key.{key_of}
use Rattle.shogi_rules.specs.Rules.{after}
use Rattle.path_tags.specs.Tag.{IsWithin}
use Rattle.pn_numbers.specs.declared.node.Node.{Node}
use Rattle.pn_numbers.specs.declared.numbers.Numbers.{Numbers}
use Rattle.pn_numbers.specs.Numbers.{IsOpen}
use Rattle.pn_numbers.specs.Selection.{IsSelected}
use Rattle.pn_numbers.specs.Thresholds.{thresholds_of}
use Rattle.start_def.specs.Start.{IsStartOfCheck, IsStartOfEvasion}
use Rattle.notes.specs.Derivation.{Derivation, attacker_of, position_of, tag_of, rule_of, under_of, highest, carried}
use Rattle.notes.specs.Valid.{IsValid}
use Rattle.notes.specs.Lending.{IsLentTo}
use Rattle.notes.specs.declared.words.Seen.{Seen}
use Rattle.notes.specs.declared.words.Seen.TheVariants.{New, Open as Known, Solved as Shown, Lent}
use Rattle.visit_log.specs.declared.parts.Child.{Child}
use Rattle.visit_log.specs.declared.parts.Look.{Look}
use Rattle.visit_log.specs.declared.parts.Look.TheVariants.{Due, Fresh, Stale}
use Rattle.visit_log.specs.declared.parts.Left.{Left}
use Rattle.visit_log.specs.declared.parts.Left.TheVariants.{Solved, Open}
use Rattle.visit_log.specs.declared.words.WorkEnd.{WorkEnd}
use Rattle.visit_log.specs.declared.words.WorkEnd.TheVariants.{Posted, Spent, NoRoom, TooHigh, NoMemory, Stopped}
use Rattle.visit_log.specs.Frame.{Task, attacker_in, node_at, Place, FrameView, with_children}
use Rattle.visit_log.specs.Children.{is_solved, rule_at, notes_under, counted, own_numbers, reaches, first_due}

-- Whose move it is in a visit.
abbrev pub node_in : Task → FrameView → Node
node_in task f = node_at (attacker_in task) f.place.position

-- The numbers of the visit's node.
abbrev pub own : Task → FrameView → Numbers
own task f = own_numbers (node_in task f) f.children

-- 1. WHAT COMES NEXT.

-- No child is due, and the node is solved on the path.
pub record Solves (task : Task) (f : FrameView) : Type 0 where
  pub none_due : first_due f.children ≡ None
  pub solved : is_solved (node_in task f) f.children ≡ true

-- No child is due, the node isn't solved, and one of its numbers has come to its threshold. They
-- are both from 1 to the cap.
pub record GivesUp (task : Task) (f : FrameView) : Type 0 where
  pub none_due : first_due f.children ≡ None
  pub unsolved : is_solved (node_in task f) f.children ≡ false
  pub reached : reaches (own task f) f.place.limits ≡ true
  pub in_range : IsOpen (own task f)

-- No child is due, the node isn't solved, its numbers are below their thresholds, and the worker
-- selects the child at this place, beside this second best number.
pub record Selects (task : Task) (f : FrameView) (place second : ℕ) : Type 0 where
  pub none_due : first_due f.children ≡ None
  pub unsolved : is_solved (node_in task f) f.children ≡ false
  pub below : reaches (own task f) f.place.limits ≡ false
  pub selected : IsSelected (node_in task f) (counted (node_in task f) f.children) task.worker place second

-- The child at the place is looked at next: it is the first that is due; or it is selected, and
-- this round hasn't looked at it.
pub record LooksNext (task : Task) (f : FrameView) (place : ℕ) (child : Child) : Type 0 where
  pub there : slice_get f.children place ≡ Some child
  pub next : (first_due f.children ≡ Some place) ⊎ ((child.look ≡ Stale) × ((second : ℕ) × Selects task f place second))

-- The child that is visited next, where it stands, and the second best selecting number.
pub record Choice : Type 0 where
  pub place : ℕ
  pub child : Child
  pub second : ℕ

-- The child is visited next: it is selected, and this round has looked at it. Its numbers are both
-- from 1 to the cap.
pub record GoesDown (task : Task) (f : FrameView) (choice : Choice) : Type 0 where
  pub there : slice_get f.children choice.place ≡ Some choice.child
  pub selects : Selects task f choice.place choice.second
  pub fresh : choice.child.look ≡ Fresh
  pub in_range : IsOpen choice.child.numbers

-- What a child is visited with: its position, its thresholds, and its numbers as they were seen
-- last.
abbrev pub child_place : Task → FrameView → Choice → Place
child_place task f choice = record {
  position = after f.place.position choice.child.by;
  key = choice.child.key;
  limits = thresholds_of (node_in task f) f.place.limits (own task f) choice.child.numbers choice.second;
  numbers = choice.child.numbers;
}

-- 2. WHAT A LOOK CHANGES.

-- The numbers with which a position begins behind a move, the attacker's or the defender's. They
-- are both from 1 to the cap.
pub record IsStart (attacker : Side) (b : Board) (by : Move) (numbers : Numbers) : Type 0 where
  pub in_range : IsOpen numbers
  pub check : b.side ≡ attacker → IsStartOfCheck attacker b by numbers
  pub evasion : b.side ≡ other attacker → IsStartOfEvasion attacker b by numbers

-- A note that may be told of a position of this key on this path: it is about it, for the attacker,
-- and holds on the path.
pub record IsFactOn (attacker : Side) (key : Key) (path : List Key) (note : Derivation) : Type 0 where
  pub valid : IsValid note
  pub about : key_of (position_of note) ≡ key.0
  pub same_attacker : attacker_of note ≡ attacker
  pub within : IsWithin (tag_of note) path

-- What a look may tell of the position of this key on this path: nothing; numbers from 1 to the
-- cap; a note about it that holds on the path; a note that may be carried to it (to whichever
-- position has the key).
abbrev pub MayShow : Side → Key → List Key → Seen → Type 0
MayShow attacker key path New = Unit {0}
MayShow attacker key path (Known numbers below) = IsOpen numbers
MayShow attacker key path (Shown note) = IsFactOn attacker key path note
MayShow attacker key path (Lent note) = IsLentTo attacker key note

-- A look at a child: where it stands, the child before, what was told, and the numbers with which
-- it begins.
pub record Sight : Type 0 where
  pub place : ℕ
  pub child : Child
  pub seen : Seen
  pub start : Numbers

-- A child of the position after a look, for the attacker. New: it counts with the numbers with
-- which it begins, and no worker below it. Lent: the note is carried to it.
abbrev pub told : Side → Board → Child → Seen → Numbers → Child
told attacker b child New start = record child { look = Fresh; numbers = start; below = 0 }
told attacker b child (Known numbers below) start = record child { look = Fresh; numbers = numbers; below = below }
told attacker b child (Shown note) start = record child { look = Fresh; note = Some note }
told attacker b child (Lent note) start = record child { look = Fresh; note = Some (carried attacker (after b child.by) note) }

-- The visit after a look.
abbrev pub looked : Task → FrameView → Sight → FrameView
looked task f sight =
    with_children f (slice_set f.children sight.place (told (attacker_in task) f.place.position sight.child sight.seen sight.start))

-- What a look tells of the position behind a move: where it is new, the numbers with which it
-- begins; a note is about it; one that is lent is valid where it is carried to it (whoever carries
-- it shows this).
abbrev pub Tells : Side → Board → Move → Seen → Numbers → Type 0
Tells attacker b by New start = IsStart attacker b by start
Tells attacker b by (Known numbers below) start = Unit {0}
Tells attacker b by (Shown note) start = position_of note ≡ after b by
Tells attacker b by (Lent note) start = IsValid (carried attacker (after b by) note)

-- The look is the one that comes next, and what was told may be told.
pub record IsSight (task : Task) (path : List Key) (f : FrameView) (sight : Sight) : Type 0 where
  pub next : LooksNext task f sight.place sight.child
  pub may : MayShow (attacker_in task) sight.child.key path sight.seen
  pub tells : Tells (attacker_in task) f.place.position sight.child.by sight.seen sight.start

-- 3. WHAT A CHILD'S VISIT CHANGES.

-- What was looked at in this round is stale in the next.
abbrev pub staled_look : Look → Look
staled_look Due = Due
staled_look Fresh = Stale
staled_look Stale = Stale

-- A child when the next round begins.
abbrev pub staled : Child → Child
staled child = record child { look = staled_look child.look }

-- The child whose visit ended so: without a note it is due; with one it isn't looked at again.
abbrev pub visited : Child → Left → Child
visited child (Open numbers) = record child { look = Due }
visited child (Solved note) = record child { look = Stale; note = Some note }

-- The visit after that of a child, which stood at the place: the next round begins.
abbrev pub came_back : FrameView → ℕ → Child → Left → FrameView
came_back f place child left = with_children f (slice_set (map staled f.children) place (visited child left))

-- 4. THE NOTE OF A SOLVED NODE.

-- The note is made of the children's notes, by the rule that solves the node, and is about its
-- position.
pub record IsMade (task : Task) (f : FrameView) (note : Derivation) : Type 0 where
  pub valid : IsValid note
  pub rule : rule_of note ≡ rule_at (node_in task f) f.children
  pub same_attacker : attacker_of note ≡ attacker_in task
  pub about : position_of note ≡ f.place.position
  pub under : under_of note ≡ notes_under (node_in task f) f.children

-- Why it isn't made: its height would be above 4,096; or it wouldn't, and there was no memory.
abbrev pub IsRefusal : Task → FrameView → WorkEnd → Type 0
IsRefusal task f TooHigh = 4096 < highest (notes_under (node_in task f) f.children) + 1
IsRefusal task f NoMemory = highest (notes_under (node_in task f) f.children) + 1 ≤ 4096
IsRefusal task f Posted = ⊥
IsRefusal task f Spent = ⊥
IsRefusal task f NoRoom = ⊥
IsRefusal task f Stopped = ⊥
