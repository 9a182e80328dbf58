-- What holds of a worker wherever it stands: the positions that it visits are as play leads to
-- them, what it knows of their children is about these, and each note that it has holds on its
-- path.
use Rattle.std.specs.Prelude.{◌≡◌, ℕ, true, false, List, [], ◌∷◌, Option, Some, None, All, Contains, map, slice_get}
use Rattle.bit_boards.specs.declared.piece.Side.{Side}
use Rattle.board_core.specs.declared.keys.Key.{Key}
use Rattle.board_core.specs.declared.moves.Move.{Move}
use Rattle.board_core.specs.Board.{Board}
use Rattle.board_core.specs.Kept.{IsKept}
use Rattle.board_core.specs.Key.{key_of}
use Rattle.shogi_rules.specs.Rules.{after}
use Rattle.shogi_rules.specs.Tsume.{IsProblem}
use Rattle.path_tags.specs.Tag.{IsWithin}
use Rattle.pn_numbers.specs.declared.node.Node.{Node}
use Rattle.pn_numbers.specs.declared.node.Node.TheVariants.{Defender}
use Rattle.pn_numbers.specs.Numbers.{IsOpen}
use Rattle.notes.specs.Derivation.{Derivation, attacker_of, position_of, tag_of}
use Rattle.notes.specs.Valid.{IsValid}
use Rattle.notes.specs.declared.words.Update.{Update}
use Rattle.notes.specs.declared.words.Update.TheVariants.{Numbers as Count, Note as Noted, Nothing}
use Rattle.visit_log.specs.declared.parts.Child.{Child}
use Rattle.visit_log.specs.declared.parts.Look.TheVariants.{Stale}
use Rattle.visit_log.specs.declared.parts.Entry.{Entry}
use Rattle.visit_log.specs.declared.parts.Left.TheVariants.{Solved, Open}
use Rattle.visit_log.specs.declared.parts.Stage.{Stage}
use Rattle.visit_log.specs.declared.parts.Stage.TheVariants.{Polling, Drawing, Entering, Looking, Claiming, Leaving, Posting, Winding}
use Rattle.visit_log.specs.declared.words.Request.{Request}
use Rattle.visit_log.specs.declared.words.Request.TheVariants.{Poll, Draw as Draws, Claim as Claims, Look, Enter, Leave, Post, End}
use Rattle.visit_log.specs.Frame.{Task, attacker_in, node_at, Place, FrameView, root, begun}
use Rattle.visit_log.specs.Children.{AreMoves, move_to, is_fresh}
use Rattle.visit_log.specs.Round.{node_in, Solves}
use Rattle.visit_log.specs.Machine.{State, path_of, place_by, IsPlayed}

-- The task is the search of a problem.
pub record IsTask (task : Task) : Type 0 where
  pub kept : IsKept task.problem
  pub problem : IsProblem task.problem

-- The note is about the position, for the attacker, and holds on the path.
pub record IsNoteOf (task : Task) (b : Board) (path : List Key) (note : Derivation) : Type 0 where
  pub valid : IsValid note
  pub about : position_of note ≡ b
  pub same_attacker : attacker_of note ≡ attacker_in task
  pub within : IsWithin (tag_of note) path

-- A child that is on the path stands there, the defender has moved to it, and it is never looked
-- at.
pub record IsOnPath (node : Node) (path : List Key) (child : Child) : Type 0 where
  pub defends : node ≡ Defender
  pub there : Contains path child.key
  pub unsolved : child.note ≡ None
  pub stale : child.look ≡ Stale

-- What is known of a child of the position: its key; numbers from 1 to the cap; a note about it
-- that holds on the path; whether it is an attacker's position that stands on the path.
pub record IsSoundChild (task : Task) (b : Board) (path : List Key) (child : Child) : Type 0 where
  pub key : child.key.0 ≡ key_of (after b child.by)
  pub in_range : IsOpen child.numbers
  pub note : (note : Derivation) → child.note ≡ Some note → IsNoteOf task (after b child.by) path note
  pub on_path : child.on_path ≡ true → IsOnPath (node_at (attacker_in task) b) path child
  pub off_path : child.on_path ≡ false → node_at (attacker_in task) b ≡ Defender → ¬ Contains path child.key

-- A place over these visits: the problem's own, where there is none; else that of the child that
-- the innermost one goes down to.
abbrev pub IsPlaced : Task → List FrameView → Place → Type 0
IsPlaced task [] p = p ≡ root task
IsPlaced task (g ∷ gs) p =
    (child : Child) × (slice_get g.children g.chosen ≡ Some child) × (p.position ≡ after g.place.position child.by) × (p.key ≡ child.key)
    × (child.on_path ≡ false)

-- The visit of a place is of a position as play leads to it, with that position's key, and is
-- entered with numbers from 1 to the cap.
pub record IsSoundPlace (task : Task) (fs : List FrameView) (p : Place) : Type 0 where
  pub played : IsPlayed (attacker_in task) p.position
  pub key : p.key.0 ≡ key_of p.position
  pub in_range : IsOpen p.numbers
  pub placed : IsPlaced task fs p

-- The successors of the visit's position are listed, and what is known of them is sound on the
-- path.
pub record IsListed (task : Task) (path : List Key) (f : FrameView) : Type 0 where
  pub played : IsPlayed (attacker_in task) f.place.position
  pub key : f.place.key.0 ≡ key_of f.place.position
  pub moves : AreMoves (node_in task f) (attacker_in task) f.place.position (map move_to f.children)
  pub children : All (IsSoundChild task f.place.position path) f.children

-- A visit over others whose successors are listed.
pub record IsSoundVisit (task : Task) (f : FrameView) (fs : List FrameView) : Type 0 where
  pub in_range : IsOpen f.place.numbers
  pub placed : IsPlaced task fs f.place
  pub listed : IsListed task (path_of task (f ∷ fs)) f

-- Visits that go on, the innermost first.
abbrev pub AreSound : Task → List FrameView → Type 0
AreSound task [] = Unit {0}
AreSound task (f ∷ fs) = IsSoundVisit task f fs × AreSound task fs

-- The move of an entry is that of the child to which the innermost visit goes down; there is none
-- for the problem's own position.
abbrev pub IsMoveTo : List FrameView → Option Move → Type 0
IsMoveTo [] by = by ≡ None
IsMoveTo (g ∷ gs) by = (child : Child) × (slice_get g.children g.chosen ≡ Some child) × (by ≡ Some child.by)

-- The entry begins a visit over these.
pub record IsSoundEntry (task : Task) (fs : List FrameView) (entry : Entry) : Type 0 where
  pub move : IsMoveTo fs entry.by
  pub in_range : IsOpen entry.numbers
  pub placed : IsPlaced task fs (place_by task fs entry)

-- The note answers the problem: it holds on every path, and is about the problem's position, for
-- its attacker.
pub record IsAnswer (task : Task) (note : Derivation) : Type 0 where
  pub valid : IsValid note
  pub closed : tag_of note ≡ []
  pub about : position_of note ≡ task.problem
  pub same_attacker : attacker_of note ≡ attacker_in task

-- The child at the place may be looked at: it isn't on the path, and this round hasn't looked at it
-- yet.
pub record IsLookedAt (f : FrameView) (place : ℕ) : Type 0 where
  pub child : Child
  pub there : slice_get f.children place ≡ Some child
  pub off_path : child.on_path ≡ false
  pub unseen : is_fresh child.look ≡ false

-- What holds at a stage, with these visits going on.
abbrev pub IsSoundAt : Task → Stage → List FrameView → Type 0
IsSoundAt task (Polling entry) fs = AreSound task fs × IsSoundEntry task fs entry
IsSoundAt task (Drawing entry) fs = AreSound task fs × IsSoundEntry task fs entry
IsSoundAt task Entering [] = ⊥
IsSoundAt task Entering (f ∷ fs) = IsSoundPlace task fs f.place × (f ≡ begun f.place) × AreSound task fs
IsSoundAt task (Looking place) [] = ⊥
IsSoundAt task (Looking place) (f ∷ fs) = AreSound task (f ∷ fs) × IsLookedAt f place
IsSoundAt task Claiming [] = ⊥
IsSoundAt task Claiming (f ∷ fs) = AreSound task (f ∷ fs) × Solves task f
IsSoundAt task (Leaving left) [] = ⊥
IsSoundAt task (Leaving (Open numbers)) (f ∷ []) = ⊥
IsSoundAt task (Leaving (Open numbers)) (f ∷ g ∷ gs) = AreSound task (f ∷ g ∷ gs) × IsOpen numbers
IsSoundAt task (Leaving (Solved note)) (f ∷ fs) = AreSound task (f ∷ fs) × IsNoteOf task f.place.position (path_of task fs) note
IsSoundAt task (Posting None) fs = fs ≡ []
IsSoundAt task (Posting (Some note)) fs = (fs ≡ []) × IsAnswer task note
IsSoundAt task (Winding end) fs = Unit {0}

-- What holds of a worker in this state.
abbrev pub IsSound : Task → State → Type 0
IsSound task s = IsSoundAt task s.stage s.frames

-- 2. WHAT IS ASKED.

-- What is handed in with a Leave: numbers from 1 to the cap, or a note about the key's position,
-- for the attacker.
abbrev pub IsSoundUpdate : Side → Key → Update → Type 0
IsSoundUpdate attacker key (Count numbers) = IsOpen numbers
IsSoundUpdate attacker key (Noted note) = (key_of (position_of note) ≡ key.0) × (attacker_of note ≡ attacker)
IsSoundUpdate attacker key Nothing = Unit {0}

-- What a request promises.
abbrev pub IsSoundRequest : Task → Request → Type 0
IsSoundRequest task Poll = Unit {0}
IsSoundRequest task Draws = Unit {0}
IsSoundRequest task Claims = Unit {0}
IsSoundRequest task (Look key) = Unit {0}
IsSoundRequest task (Enter key numbers) = IsOpen numbers
IsSoundRequest task (Leave kept key update) = IsSoundUpdate (attacker_in task) key update
IsSoundRequest task (Post note) = IsAnswer task note
IsSoundRequest task (End end) = Unit {0}
