-- What a visit is, as a tree of what is done in it, and the log that it writes: the requests and
-- answers, in order.
use Rattle.std.specs.Prelude.{◌≡◌, ◌⊎◌, ◌++◌, ℕ, Bool, true, false, List, [], ◌∷◌, Option, Some, None}
use Rattle.board_core.specs.declared.keys.Key.{Key}
use Rattle.pn_numbers.specs.declared.node.Node.{Node}
use Rattle.pn_numbers.specs.declared.node.Node.TheVariants.{Attacker, Defender}
use Rattle.notes.specs.Derivation.{Derivation}
use Rattle.notes.specs.declared.words.Kept.{Kept}
use Rattle.notes.specs.declared.words.Seen.TheVariants.{Lent}
use Rattle.notes.specs.declared.words.Update.{Update}
use Rattle.notes.specs.declared.words.Update.TheVariants.{Numbers as Count, Note as Noted, Nothing}
use Rattle.notes.specs.declared.words.Draw.{Draw}
use Rattle.notes.specs.declared.words.Draw.TheVariants.{Go, Done, Spent as AllDrawn}
use Rattle.notes.specs.declared.words.RoomAnswer.{RoomAnswer}
use Rattle.notes.specs.declared.words.RoomAnswer.TheVariants.{Room, NoRoom as Full}
use Rattle.visit_log.specs.declared.parts.Child.{Child}
use Rattle.visit_log.specs.declared.parts.Left.{Left}
use Rattle.visit_log.specs.declared.parts.Left.TheVariants.{Solved, Open}
use Rattle.visit_log.specs.declared.words.WorkEnd.{WorkEnd}
use Rattle.visit_log.specs.declared.words.WorkEnd.TheVariants.{Posted, Spent, NoRoom, NoMemory, Stopped}
use Rattle.visit_log.specs.declared.words.Request.{Request}
use Rattle.visit_log.specs.declared.words.Request.TheVariants.{Poll, Draw as Draws, Claim as Claims, Look, Enter, Leave, Post}
use Rattle.visit_log.specs.declared.words.Reply.{Reply}
use Rattle.visit_log.specs.declared.words.Reply.TheVariants.{Poll as Polled, Draw as Drew, Claim as Claimed, Look as Looked, Enter as Entered, Leave as LeftIt, Post as PostedIt}
use Rattle.visit_log.specs.Frame.{Task, attacker_in, node_at, Place, FrameView, root, opened, choose}
use Rattle.visit_log.specs.Children.{AreChildren}
use Rattle.visit_log.specs.Round.{own, Solves, GivesUp, LooksNext, Choice, GoesDown, child_place, Sight, looked, MayShow, IsSight, came_back, IsMade, IsRefusal}

-- A request with its answer; none where a look was refused memory.
abbrev pub Exchange : Type 0
Exchange = Request × Option Reply

-- 1. THE TREE. Any visit may be cut off by want of memory; then it winds up.
mutual
  pub data Visit : Type 0 where
    Unpolled : Visit  -- cut off before the poll
    Halted : Visit  -- the poll said to stop
    Undrawn : Visit  -- polled, and cut off before the draw
    Refused : Draw → Visit  -- no number was drawn: done, or spent
    Unentered : ℕ → Visit  -- the number was drawn, and then it was cut off
    Unlisted : ℕ → Kept → Visit  -- entered, and cut off before the successors were listed
    Visited : ℕ → Kept → List Child → Doings → Tail → Visit  -- the number; entered; the successors; what was done; how it ended

  -- What is done in a visit: looks at children, and visits of them, one after the other.
  pub data Doings : Type 0 where
    nothing_yet : Doings
    and_look : Doings → Sight → Doings
    and_visit : Doings → Choice → Visit → Doings

  -- How a visit ends.
  pub data Tail : Type 0 where
    Cut : Tail  -- cut off
    Blind : ℕ → Child → Tail  -- the next look, at this child, was refused memory
    Uncarried : ℕ → Child → Derivation → Tail  -- the next look, at this child, lent this note, and there was no memory to carry it
    Unclaimed : Tail  -- solved, and there was no room for the note
    Unmade : ℕ → WorkEnd → Tail  -- solved, the room was claimed, and the note not made
    Made : ℕ → Derivation → Tail  -- solved: the room was claimed, and it left with the note
    Passed : Tail  -- left with its numbers
    Under : Choice → Visit → Tail  -- the visit of a child wound up

-- How a visit ended: it winds up, with this end; or it left its position so.
pub data Ending : Type 0 where
  Winds : WorkEnd → Ending
  Ends : Left → Ending

-- 2. WHAT IS KNOWN.

-- The visit after that of a child ended so.
abbrev pub after_child : FrameView → Choice → Ending → FrameView
after_child f choice (Winds end) = choose f choice.place
after_child f choice (Ends left) = came_back (choose f choice.place) choice.place choice.child left

-- How a visit ends, and what is known in it after what was done.
abbrev mutual
  -- How a visit ends.
  pub ending : Task → Place → Visit → Ending
  ending task p Unpolled = Winds NoMemory
  ending task p Halted = Winds Stopped
  ending task p Undrawn = Winds NoMemory
  ending task p (Refused (Go number)) = Winds NoMemory
  ending task p (Refused Done) = Winds Posted
  ending task p (Refused AllDrawn) = Winds Spent
  ending task p (Unentered number) = Winds NoMemory
  ending task p (Unlisted number kept) = Winds NoMemory
  ending task p (Visited number kept children doings tail) = tail_ending task (known_after task (opened p kept children) doings) tail

  -- What is known after these doings.
  pub known_after : Task → FrameView → Doings → FrameView
  known_after task f nothing_yet = f
  known_after task f (and_look doings sight) = looked task (known_after task f doings) sight
  known_after task f (and_visit doings choice visit) =
      let g = known_after task f doings in
      after_child g choice (ending task (child_place task g choice) visit)

  pub tail_ending : Task → FrameView → Tail → Ending
  tail_ending task f Cut = Winds NoMemory
  tail_ending task f (Blind place child) = Winds NoMemory
  tail_ending task f (Uncarried place child note) = Winds NoMemory
  tail_ending task f Unclaimed = Winds NoRoom
  tail_ending task f (Unmade room end) = Winds end
  tail_ending task f (Made room note) = Ends (Solved note)
  tail_ending task f Passed = Ends (Open (own task f))
  tail_ending task f (Under choice visit) = ending task (child_place task f choice) visit

-- 3. THE LOG.

-- A poll.
abbrev pub polled : Bool → Exchange
polled stop = (Poll, Some (Polled stop))

-- A draw.
abbrev pub drew : Draw → Exchange
drew draw = (Draws, Some (Drew draw))

-- Entering a position.
abbrev pub entered : Place → Kept → Exchange
entered p kept = (Enter p.key p.numbers, Some (Entered kept))

-- A look at a child that lends a note.
abbrev pub lent_at : Child → Derivation → Exchange
lent_at child note = (Look child.key, Some (Looked (Lent note)))

-- A look.
abbrev pub looked_at : Sight → Exchange
looked_at sight = (Look sight.child.key, Some (Looked sight.seen))

-- A claim.
abbrev pub claimed : RoomAnswer → Exchange
claimed claim = (Claims, Some (Claimed claim))

-- What entering was answered.
abbrev pub kept_by : Option Kept → Kept
kept_by None = Rattle.notes.specs.declared.words.Kept.TheVariants.Unkept
kept_by (Some kept) = kept

-- Leaving a position with this update.
abbrev pub leave : FrameView → Update → Exchange
leave f update = (Leave (kept_by f.kept) f.place.key update, Some LeftIt)

-- The log when a visit was drawn.
abbrev pub drawn_on : List Exchange → ℕ → List Exchange
drawn_on log number = (log ++ polled false ∷ []) ++ drew (Go number) ∷ []

-- The log when its position is entered.
abbrev pub entered_on : List Exchange → ℕ → Place → Kept → List Exchange
entered_on log number p kept = drawn_on log number ++ entered p kept ∷ []

-- The log behind a visit, behind what was done in it, and behind its ending.
abbrev mutual
  -- The log behind a visit.
  pub visit_on : Task → List Exchange → Place → Visit → List Exchange
  visit_on task log p Unpolled = log
  visit_on task log p Halted = log ++ polled true ∷ []
  visit_on task log p Undrawn = log ++ polled false ∷ []
  visit_on task log p (Refused draw) = (log ++ polled false ∷ []) ++ drew draw ∷ []
  visit_on task log p (Unentered number) = drawn_on log number
  visit_on task log p (Unlisted number kept) = entered_on log number p kept ++ leave (opened p kept []) Nothing ∷ []
  visit_on task log p (Visited number kept children doings tail) =
      tail_on task (doings_on task (entered_on log number p kept) (opened p kept children) doings)
      (known_after task (opened p kept children) doings) tail

  pub doings_on : Task → List Exchange → FrameView → Doings → List Exchange
  doings_on task log f nothing_yet = log
  doings_on task log f (and_look doings sight) = doings_on task log f doings ++ looked_at sight ∷ []
  doings_on task log f (and_visit doings choice visit) =
      visit_on task (doings_on task log f doings) (child_place task (known_after task f doings) choice) visit

  pub tail_on : Task → List Exchange → FrameView → Tail → List Exchange
  tail_on task log f Cut = log ++ leave f Nothing ∷ []
  tail_on task log f (Blind place child) = (log ++ (Look child.key, None) ∷ []) ++ leave f Nothing ∷ []
  tail_on task log f (Uncarried place child note) = (log ++ lent_at child note ∷ []) ++ leave f Nothing ∷ []
  tail_on task log f Unclaimed = (log ++ claimed Full ∷ []) ++ leave f Nothing ∷ []
  tail_on task log f (Unmade room end) = (log ++ claimed (Room room) ∷ []) ++ leave f Nothing ∷ []
  tail_on task log f (Made room note) = (log ++ claimed (Room room) ∷ []) ++ leave f (Noted note) ∷ []
  tail_on task log f Passed = log ++ leave f (Count (own task f)) ∷ []
  tail_on task log f (Under choice visit) = visit_on task log (child_place task f choice) visit ++ leave f Nothing ∷ []

-- 4. WHICH TREES ARE VISITS.

-- The visit left its position, and the search goes on.
abbrev pub EndsOpen : Ending → Type 0
EndsOpen (Winds end) = ⊥
EndsOpen (Ends left) = Unit {0}

-- The visit winds up.
abbrev pub EndsWinding : Ending → Type 0
EndsWinding (Winds end) = Unit {0}
EndsWinding (Ends left) = ⊥

-- The path behind a node: an attacker's position is put on it.
abbrev pub path_with : Node → Key → List Key → List Key
path_with Attacker key path = path ++ key ∷ []
path_with Defender key path = path

-- The path behind the node of a place.
abbrev pub path_at : Task → Place → List Key → List Key
path_at task p path = path_with (node_at (attacker_in task) p.position) p.key path

-- Whether a tree is a visit, on a path; whether these things are done in it; and whether it ends
-- so.
abbrev mutual
  pub IsVisit : Task → List Key → Place → Visit → Type 0
  IsVisit task path p Unpolled = Unit {0}
  IsVisit task path p Halted = Unit {0}
  IsVisit task path p Undrawn = Unit {0}
  IsVisit task path p (Refused (Go number)) = ⊥
  IsVisit task path p (Refused Done) = Unit {0}
  IsVisit task path p (Refused AllDrawn) = Unit {0}
  IsVisit task path p (Unentered number) = Unit {0}
  IsVisit task path p (Unlisted number kept) = Unit {0}
  IsVisit task path p (Visited number kept children doings tail) =
      AreChildren (attacker_in task) p.position (path_at task p path) children
      × AreDone task (path_at task p path) (opened p kept children) doings
      × IsTail task (path_at task p path) (known_after task (opened p kept children) doings) tail

  -- Each look is at the child that is looked at next, each visit is of the child that is visited
  -- next, and it leaves that child.
  pub AreDone : Task → List Key → FrameView → Doings → Type 0
  AreDone task path f nothing_yet = Unit {0}
  AreDone task path f (and_look doings sight) = AreDone task path f doings × IsSight task path (known_after task f doings) sight
  AreDone task path f (and_visit doings choice visit) =
      let g = known_after task f doings in
      AreDone task path f doings × GoesDown task g choice × IsVisit task path (child_place task g choice) visit
      × EndsOpen (ending task (child_place task g choice) visit)

  pub IsTail : Task → List Key → FrameView → Tail → Type 0
  IsTail task path f Cut = Unit {0}
  IsTail task path f (Blind place child) = LooksNext task f place child
  IsTail task path f (Uncarried place child note) = LooksNext task f place child × MayShow (attacker_in task) child.key path (Lent note)
  IsTail task path f Unclaimed = Solves task f
  IsTail task path f (Unmade room end) = Solves task f × IsRefusal task f end
  IsTail task path f (Made room note) = Solves task f × IsMade task f note
  IsTail task path f Passed = GivesUp task f
  IsTail task path f (Under choice visit) =
      GoesDown task f choice × IsVisit task path (child_place task f choice) visit × EndsWinding (ending task (child_place task f choice) visit)

-- 5. WHOLE LOGS.

-- How the log of a search goes on behind the visit of the problem's position, by how that ended: a
-- note is posted. Want of memory may come in between, while a worker winds up or before it posts,
-- and then it is its end, whatever the end was to be.
abbrev pub EndsLog : Ending → List Exchange → List Exchange → WorkEnd → Type 0
EndsLog (Winds reason) visit log end = (log ≡ visit) × ((end ≡ reason) ⊎ (end ≡ NoMemory))
EndsLog (Ends (Solved note)) visit log end =
    ((log ≡ visit ++ (Post note, Some PostedIt) ∷ []) × (end ≡ Posted)) ⊎ ((log ≡ visit) × (end ≡ NoMemory))
EndsLog (Ends (Open numbers)) visit log end = ⊥

-- A visit log: all that a worker asks and is told in its search, to this end. It is the log of a
-- visit of the problem's position.
pub record IsVisitLog (task : Task) (log : List Exchange) (end : WorkEnd) : Type 0 where
  pub visit : Visit
  pub is_visit : IsVisit task [] (root task) visit
  pub ends : EndsLog (ending task (root task) visit) (visit_on task [] (root task) visit) log end
