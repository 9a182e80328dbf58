-- What is true of all visit logs and of every worker.
use Rattle.std.specs.Prelude.{◌≡◌, ◌≤◌, ◌<◌, ◌+◌, ◌⊎◌, ◌↔◌, ℕ, true, List, [], ◌∷◌, Some, Contains, count_by, length, slice_get}
use Rattle.search_limits.specs.declared.expansions.TheConstants.{MOST_EXPANSIONS}
use Rattle.board_core.specs.declared.keys.Key.{Key}
use Rattle.notes.specs.Derivation.{Derivation}
use Rattle.notes.specs.declared.words.Kept.{Kept}
use Rattle.notes.specs.declared.words.Draw.TheVariants.{Done, Spent as AllDrawn}
use Rattle.notes.specs.declared.words.RoomAnswer.TheVariants.{NoRoom as Full}
use Rattle.visit_log.specs.declared.parts.Child.{Child}
use Rattle.visit_log.specs.declared.parts.Left.{Left}
use Rattle.visit_log.specs.declared.parts.Left.TheVariants.{Solved}
use Rattle.visit_log.specs.declared.words.WorkEnd.{WorkEnd}
use Rattle.visit_log.specs.declared.words.WorkEnd.TheVariants.{Posted, Spent, NoRoom, TooHigh, NoMemory, Stopped}
use Rattle.visit_log.specs.declared.words.Request.TheVariants.{Post, End}
use Rattle.visit_log.specs.declared.words.Reply.{Reply}
use Rattle.visit_log.specs.declared.words.Reply.TheVariants.{Post as PostedIt}
use Rattle.visit_log.specs.Frame.{Task, attacker_in, FrameView, opened}
use Rattle.visit_log.specs.Children.{AreChildren}
use Rattle.visit_log.specs.Round.{MayShow, Tells, Sight, looked, came_back}
use Rattle.visit_log.specs.Visit.{Exchange, IsVisitLog, polled, drew, claimed}
use Rattle.visit_log.specs.Unmade.{EndsTooHigh}
use Rattle.visit_log.specs.Machine.{State, start, asks, starve, end_of, path_of, Fits, LeadsTo}
use Rattle.visit_log.specs.Run.{Happening, Runs, Happens, event, events, IsBegunLog}
use Rattle.visit_log.specs.Sound.{IsTask, IsSound, IsSoundRequest, IsSoundPlace, IsSoundVisit, IsLookedAt, IsNoteOf}
use Rattle.visit_log.specs.Counts.{Words, own_slots, own_size, enters, leaves, enters_some, leaves_some, visits_in, rooms_in, gives_visit, gives_room, asks_room, to_come, AreBrackets}

-- A law: whatever happens to a worker, its log is the beginning of a visit log.
abbrev pub LogsBegin : Type 0
LogsBegin = (task : Task) (happenings : List Happening) (s : State) → Runs task (start task) happenings s → IsBegunLog task (events happenings)

-- A law: where it has ended, its log is a visit log, to that end.
abbrev pub LogsAreWhole : Type 0
LogsAreWhole = (task : Task) (happenings : List Happening) (s : State) (end : WorkEnd) → Runs task (start task) happenings s
    → end_of s ≡ Some end → IsVisitLog task (events happenings) end

-- A law: in a visit log each Leave leaves what was entered last and not left yet, and at its end
-- everything is left.
abbrev pub LogsAreBrackets : Type 0
LogsAreBrackets = (task : Task) (log : List Exchange) (end : WorkEnd) → IsVisitLog task log end → AreBrackets [] log []

-- A law: room is asked for at most once a visit; so no more often in a visit log than visits are
-- given.
abbrev pub OneClaimAVisit : Type 0
OneClaimAVisit = (task : Task) (log : List Exchange) (end : WorkEnd) → IsVisitLog task log end → count_by asks_room log ≤ count_by gives_visit log

-- A law: wherever a worker stands, what it knows is sound.
abbrev pub WorkersAreSound : Type 0
WorkersAreSound = (task : Task) (happenings : List Happening) (s : State) → IsTask task → Runs task (start task) happenings s → IsSound task s

-- A law: what happens to a sound worker leaves it sound.
abbrev pub StaysSound : Type 0
StaysSound = (task : Task) (s t : State) (happening : Happening) → IsTask task → IsSound task s → Happens task s happening t → IsSound task t

-- A law: what a sound worker asks is sound.
abbrev pub AsksSound : Type 0
AsksSound = (task : Task) (s : State) → IsTask task → IsSound task s → IsSoundRequest task (asks s)

-- A law: an event changes a sound worker's own slots by what it enters and leaves, whatever words
-- they have.
abbrev pub SlotsMove : Type 0
SlotsMove = (words : Words) (task : Task) (s t : State) (answer : Reply) (word : ℕ) → IsSound task s
    → Fits task s answer → LeadsTo task s answer t
    → own_slots words t.frames word + leaves words (asks s, Some answer) word ≡ own_slots words s.frames word + enters words (asks s, Some answer) word

-- A law: and their number.
abbrev pub SizesMove : Type 0
SizesMove = (task : Task) (s t : State) (answer : Reply) → IsSound task s → Fits task s answer → LeadsTo task s answer t
    → own_size t.frames + leaves_some (asks s, Some answer) ≡ own_size s.frames + enters_some (asks s, Some answer)

-- A law: what a worker asks to leave is its own.
abbrev pub LeavesOwn : Type 0
LeavesOwn = (words : Words) (s : State) (answer : Reply) (word : ℕ) → leaves words (asks s, Some answer) word ≤ own_slots words s.frames word

-- A law: and it has entered a slot where it asks to leave one.
abbrev pub LeavesSome : Type 0
LeavesSome = (s : State) (answer : Reply) → leaves_some (asks s, Some answer) ≤ own_size s.frames

-- A law: starving changes no slots, drawn visits or room.
pub record IsLeftAlone (s t : State) : Type 0 where
  pub slots : (words : Words) (word : ℕ) → own_slots words t.frames word ≡ own_slots words s.frames word
  pub size : own_size t.frames ≡ own_size s.frames
  pub visits : t.visits ≡ s.visits
  pub claims : t.claims ≡ s.claims

-- A law: so it is.
abbrev pub StarvingMovesNothing : Type 0
StarvingMovesNothing = (s : State) → IsLeftAlone s (starve s)

-- A law: visits and room are counted by the answers that give them.
abbrev pub VisitsMove : Type 0
VisitsMove = (task : Task) (s t : State) (answer : Reply) → Fits task s answer → LeadsTo task s answer t
    → (t.visits ≡ s.visits + visits_in answer) × (t.claims ≡ s.claims + rooms_in answer)

-- What is counted of a worker: it has no more visits going on, no more slots and no more room
-- than it has drawn visits, of which there are at most a billion.
pub record IsCounted (s : State) : Type 0 where
  pub slots : own_size s.frames ≤ length s.frames
  pub frames : length s.frames ≤ s.visits
  pub claims : s.claims ≤ s.visits
  pub most : s.visits ≤ MOST_EXPANSIONS

-- A law: so it is wherever a worker stands.
abbrev pub WorkersAreCounted : Type 0
WorkersAreCounted = (task : Task) (happenings : List Happening) (s : State) → Runs task (start task) happenings s → IsCounted s

-- A law: with each answer less is still to come.
abbrev pub LessToCome : Type 0
LessToCome = (task : Task) (s t : State) (happening : Happening) → IsTask task → IsSound task s → Happens task s happening t
    → (0 < length (event happening)) → to_come t < to_come s

-- A law: a visit of a sound place whose successors are listed anew is sound.
abbrev pub OpenedIsSound : Type 0
OpenedIsSound = (task : Task) (f : FrameView) (fs : List FrameView) (kept : Kept) (children : List Child) → IsSoundPlace task fs f.place
    → AreChildren (attacker_in task) f.place.position (path_of task (f ∷ fs)) children → IsSoundVisit task (opened f.place kept children) fs

-- A law: a look at a child that isn't on the path leaves a visit sound.
abbrev pub LookedIsSound : Type 0
LookedIsSound = (task : Task) (f : FrameView) (fs : List FrameView) (sight : Sight) → IsSoundVisit task f fs → IsLookedAt f sight.place
    → slice_get f.children sight.place ≡ Some sight.child → MayShow (attacker_in task) sight.child.key (path_of task (f ∷ fs)) sight.seen
    → Tells (attacker_in task) f.place.position sight.child.by sight.seen sight.start → IsSoundVisit task (looked task f sight) fs

-- A law: what comes back from the visit of a child leaves the visit sound.
abbrev pub BackIsSound : Type 0
BackIsSound = (task : Task) (f g : FrameView) (gs : List FrameView) (child : Child) (left : Left) → IsSoundVisit task f (g ∷ gs)
    → IsSoundVisit task g gs → slice_get g.children g.chosen ≡ Some child
    → ((note : Derivation) → left ≡ Solved note → IsNoteOf task f.place.position (path_of task (g ∷ gs)) note)
    → IsSoundVisit task (came_back g g.chosen child left) gs

-- A law: visits and room are those of the log.
abbrev pub CountsOfLogs : Type 0
CountsOfLogs = (task : Task) (happenings : List Happening) (s : State) → Runs task (start task) happenings s
    → (s.visits ≡ count_by gives_visit (events happenings)) × (s.claims ≡ count_by gives_room (events happenings))

-- A law: a worker that a log leads to asks for its end exactly where it has ended so.
abbrev pub AsksItsEnd : Type 0
AsksItsEnd = (task : Task) (happenings : List Happening) (s : State) (end : WorkEnd) → IsTask task → Runs task (start task) happenings s
    → (asks s ≡ End end) ↔ (end_of s ≡ Some end)

-- Why a worker of the task ends so, by its log. Posted: it posted, or a draw was answered done.
-- Spent, NoRoom: a draw, a claim was answered so. Stopped: a poll was true. TooHigh: a note, for
-- which it was given room, would have been too high. Want of memory needs no cause.
abbrev pub HasCause : Task → WorkEnd → List Exchange → Type 0
HasCause task Posted log = ((note : Derivation) × Contains log (Post note, Some PostedIt)) ⊎ Contains log (drew Done)
HasCause task Spent log = Contains log (drew AllDrawn)
HasCause task NoRoom log = Contains log (claimed Full)
HasCause task TooHigh log = EndsTooHigh task log
HasCause task NoMemory log = Unit {0}
HasCause task Stopped log = Contains log (polled true)

-- A law: each end of a visit log has its cause.
abbrev pub EndsHaveCauses : Type 0
EndsHaveCauses = (task : Task) (log : List Exchange) (end : WorkEnd) → IsVisitLog task log end → HasCause task end log

-- No key stands twice on the path.
abbrev pub NoRepeats : List Key → Type 0
NoRepeats path = (i j : ℕ) (key : Key) → slice_get path i ≡ Some key → slice_get path j ≡ Some key → i ≡ j

-- A law: an attacker's position stands at most once on a worker's path, since a successor that
-- stands there isn't visited.
abbrev pub PathsHaveNoRepeats : Type 0
PathsHaveNoRepeats = (task : Task) (happenings : List Happening) (s : State) → Runs task (start task) happenings s
    → NoRepeats (path_of task s.frames)
