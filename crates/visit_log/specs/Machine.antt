-- The search as a machine: where a worker stands between two requests, what it asks next, and where
-- an answer leads.
use Rattle.std.specs.Prelude.{◌≡◌, ◌⊎◌, ◌+◌, ◌<◌, ℕ, true, false, List, [], ◌∷◌, Option, Some, None, map, is_some, slice_get, if◌then◌else◌}
use Rattle.search_limits.specs.declared.expansions.TheConstants.{MOST_EXPANSIONS}
use Rattle.bit_boards.specs.declared.piece.Side.{Side}
use Rattle.bit_boards.specs.Kind.{other}
use Rattle.board_core.specs.declared.keys.Key.{Key}
use Rattle.board_core.specs.declared.moves.Move.{Move}
use Rattle.board_core.specs.Board.{Board}
use Rattle.board_core.specs.Kept.{IsKept}
use Rattle.shogi_rules.specs.Rules.{IsInCheck, after}
use Rattle.notes.specs.Derivation.{Derivation}
use Rattle.notes.specs.Valid.{IsInPlay}
use Rattle.notes.specs.declared.words.Kept.{Kept}
use Rattle.notes.specs.declared.words.Seen.{Seen}
use Rattle.notes.specs.declared.words.Seen.TheVariants.{New, Open as Known, Solved as Shown, Lent}
use Rattle.notes.specs.declared.words.Update.{Update}
use Rattle.notes.specs.declared.words.Update.TheVariants.{Numbers as Count, Note as Noted, Nothing}
use Rattle.notes.specs.declared.words.Draw.TheVariants.{Go, Done, Spent as AllDrawn}
use Rattle.notes.specs.declared.words.RoomAnswer.TheVariants.{Room, NoRoom as Full}
use Rattle.pn_numbers.specs.declared.node.Node.TheVariants.{Defender}
use Rattle.visit_log.specs.declared.parts.Child.{Child}
use Rattle.visit_log.specs.declared.parts.Entry.{Entry}
use Rattle.visit_log.specs.declared.parts.Left.{Left}
use Rattle.visit_log.specs.declared.parts.Left.TheVariants.{Solved, Open}
use Rattle.visit_log.specs.declared.parts.Stage.{Stage}
use Rattle.visit_log.specs.declared.parts.Stage.TheVariants.{Polling, Drawing, Entering, Looking, Claiming, Leaving, Posting, Winding}
use Rattle.visit_log.specs.declared.words.WorkEnd.{WorkEnd}
use Rattle.visit_log.specs.declared.words.WorkEnd.TheVariants.{Posted, Spent, NoRoom, NoMemory, Stopped}
use Rattle.visit_log.specs.declared.words.Request.{Request}
use Rattle.visit_log.specs.declared.words.Request.TheVariants.{Poll, Draw as Draws, Claim as Claims, Look, Enter, Leave, Post, End}
use Rattle.visit_log.specs.declared.words.Reply.{Reply}
use Rattle.visit_log.specs.declared.words.Reply.TheVariants.{Poll as Polled, Draw as Drew, Claim as Claimed, Look as Looked, Enter as Entered, Leave as LeftIt, Post as PostedIt}
use Rattle.visit_log.specs.Frame.{Task, attacker_in, node_at, Place, FrameView, root, begun, opened, choose}
use Rattle.visit_log.specs.Children.{AreChildren}
use Rattle.visit_log.specs.Round.{own, Solves, GivesUp, LooksNext, Choice, GoesDown, child_place, Sight, looked, MayShow, Tells, came_back, IsMade, IsRefusal}
use Rattle.visit_log.specs.Visit.{path_at, kept_by}

-- What it does next, the visits that are going on, the innermost first, and how many were drawn and
-- how much room it got.
pub record State : Type 0 where
  pub stage : Stage
  pub frames : List FrameView
  pub visits : ℕ
  pub claims : ℕ

-- The state at another stage, with these visits going on.
abbrev pub at_stage : State → Stage → List FrameView → State
at_stage s stage frames = record { stage = stage; frames = frames; visits = s.visits; claims = s.claims }

-- The keys of the attacker's positions among those that are being visited, the problem's first.
abbrev pub path_of : Task → List FrameView → List Key
path_of task [] = []
path_of task (f ∷ fs) = path_at task f.place (path_of task fs)

-- 1. ENTRIES.

-- What the visit of a place is begun with: the move to it, if there is one, its key, thresholds and
-- numbers.
abbrev pub entry_to : Option Move → Place → Entry
entry_to by p = record { by = by; key = p.key; limits = p.limits; numbers = p.numbers }

-- The entry of the problem's own position.
abbrev pub root_entry : Task → Entry
root_entry task = entry_to None (root task)

-- The entry of the child that is visited next.
abbrev pub entry_of : Task → FrameView → Choice → Entry
entry_of task f choice = entry_to (Some choice.child.by) (child_place task f choice)

-- The position behind a move from the innermost one; the problem's, where there is no move.
abbrev pub position_by : Task → List FrameView → Option Move → Board
position_by task fs None = task.problem
position_by task [] (Some by) = task.problem
position_by task (f ∷ fs) (Some by) = after f.place.position by

-- What the entry begins a visit of.
abbrev pub place_by : Task → List FrameView → Entry → Place
place_by task fs entry = record { position = position_by task fs entry.by; key = entry.key; limits = entry.limits; numbers = entry.numbers }

-- The worker before it asks anything.
abbrev pub start : Task → State
start task = record { stage = Polling (root_entry task); frames = []; visits = 0; claims = 0 }

-- 2. WINDING UP.

-- Of a visit that winds up only what is left of it is known: its position and where the entry is.
abbrev pub bare : FrameView → FrameView
bare f = record { place = f.place; kept = f.kept; children = []; chosen = 0 }

-- The visits that have entered their positions: all but perhaps the innermost.
abbrev pub entered_ones : List FrameView → List FrameView
entered_ones [] = []
entered_ones (f ∷ fs) = if is_some f.kept then bare f ∷ map bare fs else map bare fs

-- The worker winds up, for this end.
abbrev pub wind : State → WorkEnd → State
wind s end = at_stage s (Winding end) (entered_ones s.frames)

-- A worker that was starved winds up for want of memory, unless it has ended.
abbrev pub starve_winding : State → WorkEnd → List FrameView → State
starve_winding s end [] = at_stage s (Winding end) []
starve_winding s end (f ∷ fs) = at_stage s (Winding NoMemory) (f ∷ fs)

-- What starving does at a stage.
abbrev pub starve_at : State → Stage → State
starve_at s (Winding end) = starve_winding s end s.frames
starve_at s (Polling entry) = wind s NoMemory
starve_at s (Drawing entry) = wind s NoMemory
starve_at s Entering = wind s NoMemory
starve_at s (Looking place) = wind s NoMemory
starve_at s Claiming = wind s NoMemory
starve_at s (Leaving left) = wind s NoMemory
starve_at s (Posting posted) = wind s NoMemory

-- The state once the worker is starved.
abbrev pub starve : State → State
starve s = starve_at s s.stage

-- 3. WHERE AN ANSWER LEADS.

-- What the innermost visit does next, and the visit then: it looks, it claims, it leaves with its
-- numbers, or it goes down to a child.
abbrev pub Settles : Task → FrameView → Stage → FrameView → Type 0
Settles task f (Looking place) g = ((child : Child) × LooksNext task f place child) × (g ≡ f)
Settles task f Claiming g = Solves task f × (g ≡ f)
Settles task f (Leaving (Open numbers)) g = GivesUp task f × (numbers ≡ own task f) × (g ≡ f)
Settles task f (Polling entry) g = (choice : Choice) × GoesDown task f choice × (entry ≡ entry_of task f choice) × (g ≡ choose f choice.place)
Settles task f (Leaving (Solved note)) g = ⊥
Settles task f (Drawing entry) g = ⊥
Settles task f Entering g = ⊥
Settles task f (Posting posted) g = ⊥
Settles task f (Winding end) g = ⊥

-- The state in which the innermost visit, as it stands now, does next what it does.
pub record GoesOn (task : Task) (s : State) (f : FrameView) (fs : List FrameView) (t : State) : Type 0 where
  pub next : FrameView
  pub settles : Settles task f t.stage next
  pub is : t ≡ at_stage s t.stage (next ∷ fs)

-- With a visit more.
abbrev pub one_visit : State → State
one_visit s = record { stage = s.stage; frames = s.frames; visits = s.visits + 1; claims = s.claims }

-- With room for a note more.
abbrev pub one_claim : State → State
one_claim s = record { stage = s.stage; frames = s.frames; visits = s.visits; claims = s.claims + 1 }

-- A position as play leads to it: where the defender is to move he is in check.
pub record IsPlayed (attacker : Side) (b : Board) : Type 0 where
  pub kept : IsKept b
  pub play : IsInPlay attacker b
  pub checked : node_at attacker b ≡ Defender → IsInCheck b.cells (other attacker)

-- A visit is drawn: the visit begins, of a position as play leads to it (whoever makes the step
-- shows this); or there is no memory for it.
abbrev pub Begins : Task → State → Entry → State → Type 0
Begins task s entry t =
    (IsPlayed (attacker_in task) (position_by task s.frames entry.by)
    × (t ≡ at_stage (one_visit s) Entering (begun (place_by task s.frames entry) ∷ s.frames)))
    ⊎ (t ≡ wind (one_visit s) NoMemory)

-- The visit, once entering its position was answered so.
abbrev pub keep : FrameView → Kept → FrameView
keep f kept = record { place = f.place; kept = Some kept; children = f.children; chosen = f.chosen }

-- The innermost position is entered: its successors are listed; or there is no memory for them.
abbrev pub Opens : Task → State → List FrameView → Kept → State → Type 0
Opens task s [] kept t = ⊥
Opens task s (f ∷ fs) kept t =
    ((children : List Child) × AreChildren (attacker_in task) f.place.position (path_of task (f ∷ fs)) children
    × GoesOn task s (opened f.place kept children) fs t)
    ⊎ (t ≡ wind (at_stage s Entering (keep f kept ∷ fs)) NoMemory)

-- A note is lent.
abbrev pub IsLending : Seen → Type 0
IsLending New = ⊥
IsLending (Known numbers below) = ⊥
IsLending (Shown note) = ⊥
IsLending (Lent note) = Unit {0}

-- The child at the place was looked at; or a note is lent, and there is no memory to carry it.
abbrev pub Sees : Task → State → ℕ → List FrameView → Seen → State → Type 0
Sees task s place [] seen t = ⊥
Sees task s place (f ∷ fs) seen t =
    ((sight : Sight) × (sight.place ≡ place) × (sight.seen ≡ seen) × (slice_get f.children place ≡ Some sight.child)
    × Tells (attacker_in task) f.place.position sight.child.by seen sight.start × GoesOn task s (looked task f sight) fs t)
    ⊎ (IsLending seen × (t ≡ wind (at_stage s (Looking place) (f ∷ fs)) NoMemory))

-- Room was claimed: the note is made; or it isn't.
abbrev pub Makes : Task → State → List FrameView → State → Type 0
Makes task s [] t = ⊥
Makes task s (f ∷ fs) t =
    ((note : Derivation) × IsMade task f note × (t ≡ at_stage (one_claim s) (Leaving (Solved note)) s.frames))
    ⊎ ((end : WorkEnd) × IsRefusal task f end × (t ≡ wind (one_claim s) end))

-- The innermost position was left: so its note is to be posted, or the visit below goes on.
abbrev pub Returns : Task → State → List FrameView → Left → State → Type 0
Returns task s [] (Solved note) t = t ≡ at_stage s (Posting (Some note)) []
Returns task s [] (Open numbers) t = ⊥
Returns task s (g ∷ gs) left t = (child : Child) × (slice_get g.children g.chosen ≡ Some child) × GoesOn task s (came_back g g.chosen child left) gs t

-- The visits without the innermost.
abbrev pub rest_of : List FrameView → List FrameView
rest_of [] = []
rest_of (f ∷ fs) = fs

-- What an answer leads to, by what the worker did.
abbrev pub LeadsAt : Task → State → Stage → Reply → State → Type 0
LeadsAt task s (Polling entry) (Polled true) t = t ≡ wind s Stopped
LeadsAt task s (Polling entry) (Polled false) t = t ≡ at_stage s (Drawing entry) s.frames
LeadsAt task s (Drawing entry) (Drew (Go number)) t = Begins task s entry t
LeadsAt task s (Drawing entry) (Drew Done) t = t ≡ wind s Posted
LeadsAt task s (Drawing entry) (Drew AllDrawn) t = t ≡ wind s Spent
LeadsAt task s Entering (Entered kept) t = Opens task s s.frames kept t
LeadsAt task s (Looking place) (Looked seen) t = Sees task s place s.frames seen t
LeadsAt task s Claiming (Claimed Full) t = t ≡ wind s NoRoom
LeadsAt task s Claiming (Claimed (Room room)) t = Makes task s s.frames t
LeadsAt task s (Leaving left) LeftIt t = Returns task s (rest_of s.frames) left t
LeadsAt task s (Posting posted) PostedIt t = t ≡ wind s Posted
LeadsAt task s (Winding end) LeftIt t = t ≡ at_stage s (Winding end) (rest_of s.frames)
LeadsAt task s stage answer t = ⊥

-- What an answer leads to.
abbrev pub LeadsTo : Task → State → Reply → State → Type 0
LeadsTo task s answer t = LeadsAt task s s.stage answer t

-- 4. WHICH ANSWERS MAY COME.

-- There is a visit.
abbrev pub IsMore : List FrameView → Type 0
IsMore [] = ⊥
IsMore (f ∷ fs) = Unit {0}

-- What may be shown of the child at the place.
abbrev pub MayShowAt : Task → List FrameView → ℕ → Seen → Type 0
MayShowAt task [] place seen = ⊥
MayShowAt task (f ∷ fs) place seen =
    (child : Child) → slice_get f.children place ≡ Some child → MayShow (attacker_in task) child.key (path_of task (f ∷ fs)) seen

-- The answer is of the kind that was asked for, and may come. A visit comes only where fewer than a
-- billion came before. Nothing answers an End.
abbrev pub FitsAt : Task → State → Stage → Reply → Type 0
FitsAt task s (Polling entry) (Polled stop) = Unit {0}
FitsAt task s (Drawing entry) (Drew (Go number)) = s.visits < MOST_EXPANSIONS
FitsAt task s (Drawing entry) (Drew Done) = Unit {0}
FitsAt task s (Drawing entry) (Drew AllDrawn) = Unit {0}
FitsAt task s Entering (Entered kept) = Unit {0}
FitsAt task s (Looking place) (Looked seen) = MayShowAt task s.frames place seen
FitsAt task s Claiming (Claimed claim) = Unit {0}
FitsAt task s (Leaving left) LeftIt = Unit {0}
FitsAt task s (Posting posted) PostedIt = Unit {0}
FitsAt task s (Winding end) LeftIt = IsMore s.frames
FitsAt task s stage answer = ⊥

-- The answer may come in this state.
abbrev pub Fits : Task → State → Reply → Type 0
Fits task s answer = FitsAt task s s.stage answer

-- 5. WHAT IS ASKED.

-- To enter the innermost position.
abbrev pub ask_enter : List FrameView → Request
ask_enter [] = End NoMemory
ask_enter (f ∷ fs) = Enter f.place.key f.place.numbers

-- To look at a child.
abbrev pub ask_look : Option Child → Request
ask_look None = End NoMemory
ask_look (Some child) = Look child.key

-- To look at the innermost visit's child at a place.
abbrev pub ask_look_in : List FrameView → ℕ → Request
ask_look_in [] place = End NoMemory
ask_look_in (f ∷ fs) place = ask_look (slice_get f.children place)

-- What a Leave tells.
abbrev pub update_by : Left → Update
update_by (Solved note) = Noted note
update_by (Open numbers) = Count numbers

-- To leave the innermost position; an End where there is none.
abbrev pub ask_leave : List FrameView → Update → WorkEnd → Request
ask_leave [] update end = End end
ask_leave (f ∷ fs) update end = Leave (kept_by f.kept) f.place.key update

-- To post the note.
abbrev pub ask_post : Option Derivation → Request
ask_post None = End NoMemory
ask_post (Some note) = Post note

-- What is asked at a stage, with these visits going on.
abbrev pub asks_at : Stage → List FrameView → Request
asks_at (Polling entry) fs = Poll
asks_at (Drawing entry) fs = Draws
asks_at Entering fs = ask_enter fs
asks_at (Looking place) fs = ask_look_in fs place
asks_at Claiming fs = Claims
asks_at (Leaving left) fs = ask_leave fs (update_by left) NoMemory
asks_at (Posting posted) fs = ask_post posted
asks_at (Winding end) fs = ask_leave fs Nothing end

-- The next request. (Where nothing sensible could be asked an End stands here; no worker that a log
-- leads to comes there.)
abbrev pub asks : State → Request
asks s = asks_at s.stage s.frames

-- A note that is posted is given away with the request.
abbrev pub asked_at : Stage → Stage
asked_at (Posting posted) = Posting None
asked_at (Polling entry) = Polling entry
asked_at (Drawing entry) = Drawing entry
asked_at Entering = Entering
asked_at (Looking place) = Looking place
asked_at Claiming = Claiming
asked_at (Leaving left) = Leaving left
asked_at (Winding end) = Winding end

-- The state once the request is made.
abbrev pub asked : State → State
asked s = at_stage s (asked_at s.stage) s.frames

-- How a worker ended, if it has.
abbrev pub end_at : Stage → List FrameView → Option WorkEnd
end_at (Winding end) [] = Some end
end_at stage frames = None

-- How the worker ended, if it has.
abbrev pub end_of : State → Option WorkEnd
end_of s = end_at s.stage s.frames
