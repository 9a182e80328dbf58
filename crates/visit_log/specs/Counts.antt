-- What a worker counts: the slots that it has entered and not left, by their words, its visits and
-- its room; and what is still to come.
use Rattle.std.specs.Prelude.{◌≡◌, ◌+◌, ◌-◌, ◌*◌, ◌==◌, ℕ, Bool, true, false, List, [], ◌∷◌, Option, Some, None, length, count_by, not, if◌then◌else◌}
use Rattle.search_limits.specs.declared.expansions.TheConstants.{MOST_EXPANSIONS}
use Rattle.board_core.specs.declared.keys.Key.{Key}
use Rattle.notes.specs.declared.words.Kept.{Kept}
use Rattle.notes.specs.declared.words.Kept.TheVariants.{Slot, Unkept}
use Rattle.notes.specs.declared.words.Draw.{Draw}
use Rattle.notes.specs.declared.words.Draw.TheVariants.{Go, Done, Spent as AllDrawn}
use Rattle.notes.specs.declared.words.RoomAnswer.{RoomAnswer}
use Rattle.notes.specs.declared.words.RoomAnswer.TheVariants.{Room, NoRoom as Full}
use Rattle.visit_log.specs.declared.parts.Child.{Child}
use Rattle.visit_log.specs.declared.parts.Stage.{Stage}
use Rattle.visit_log.specs.declared.parts.Stage.TheVariants.{Polling, Drawing, Entering, Looking, Claiming, Leaving, Posting, Winding}
use Rattle.visit_log.specs.declared.words.Request.TheVariants.{Claim as Claims, Enter, Leave}
use Rattle.visit_log.specs.declared.words.Reply.{Reply}
use Rattle.visit_log.specs.declared.words.Reply.TheVariants.{Draw as Drew, Claim as Claimed, Enter as Entered, Leave as LeftIt}
use Rattle.visit_log.specs.Frame.{FrameView}
use Rattle.visit_log.specs.Children.{is_fresh}
use Rattle.visit_log.specs.Visit.{Exchange}
use Rattle.visit_log.specs.Machine.{State}

-- 1. SLOTS.

-- Which word counts the visits below a slot, by the key whose row it is in: keys of one row have
-- one word for each slot.
abbrev pub Words : Type 0
Words = Key → ℕ → ℕ

-- 1 where it is the slot of a key that has this word, else 0.
abbrev pub slot_once : Words → Kept → Key → ℕ → ℕ
slot_once words Unkept of word = 0
slot_once words (Slot number) of word = if words of number == word then 1 else 0

-- 1 where it is some slot, else 0.
abbrev pub kept_once : Kept → ℕ
kept_once Unkept = 0
kept_once (Slot number) = 1

-- 1 where what entering was answered is a slot that has this word, else 0; 0 where nothing was
-- answered yet.
abbrev pub slot_of : Words → Option Kept → Key → ℕ → ℕ
slot_of words None of word = 0
slot_of words (Some kept) of word = slot_once words kept of word

-- 1 where what entering was answered is some slot, else 0.
abbrev pub slots_in : Option Kept → ℕ
slots_in None = 0
slots_in (Some kept) = kept_once kept

-- How many of these visits have entered a slot that has this word.
abbrev pub own_slots : Words → List FrameView → ℕ → ℕ
own_slots words [] word = 0
own_slots words (f ∷ fs) word = slot_of words f.kept f.place.key word + own_slots words fs word

-- How many of these visits have entered a slot.
abbrev pub own_size : List FrameView → ℕ
own_size [] = 0
own_size (f ∷ fs) = slots_in f.kept + own_size fs

-- How often an event enters a slot that has this word.
abbrev pub enters : Words → Exchange → ℕ → ℕ
enters words (Enter of numbers, Some (Entered kept)) word = slot_once words kept of word
enters words event word = 0

-- How often it leaves one.
abbrev pub leaves : Words → Exchange → ℕ → ℕ
leaves words (Leave kept of update, Some LeftIt) word = slot_once words kept of word
leaves words event word = 0

-- How often an event enters some slot, and how often it leaves one.
abbrev pub enters_some : Exchange → ℕ
enters_some (Enter of numbers, Some (Entered kept)) = kept_once kept
enters_some event = 0

-- How often it leaves some slot.
abbrev pub leaves_some : Exchange → ℕ
leaves_some (Leave kept of update, Some LeftIt) = kept_once kept
leaves_some event = 0

-- 2. VISITS AND ROOM.

-- How many visits a draw gives.
abbrev pub visit_of : Draw → ℕ
visit_of (Go number) = 1
visit_of Done = 0
visit_of AllDrawn = 0

-- How much room a claim gives.
abbrev pub room_of : RoomAnswer → ℕ
room_of (Room room) = 1
room_of Full = 0

-- How many visits an answer gives, and how much room.
abbrev pub visits_in : Reply → ℕ
visits_in (Drew draw) = visit_of draw
visits_in answer = 0

-- How much room an answer gives.
abbrev pub rooms_in : Reply → ℕ
rooms_in (Claimed claim) = room_of claim
rooms_in answer = 0

-- Whether an event gives a visit, and whether it asks for room.
abbrev pub gives_visit : Exchange → Bool
gives_visit (request, Some (Drew (Go number))) = true
gives_visit event = false

-- Whether it asks for room.
abbrev pub asks_room : Exchange → Bool
asks_room (Claims, answer) = true
asks_room event = false

-- Whether it gives room.
abbrev pub gives_room : Exchange → Bool
gives_room (request, Some (Claimed (Room room))) = true
gives_room event = false

-- 3. WHAT IS STILL TO COME, AT MOST: so many requests.

-- No position has more children.
abbrev pub most_children : ℕ
most_children = 13770

-- How many children this round hasn't looked at.
abbrev pub unseen : List Child → ℕ
unseen children = count_by (λ child. not (is_fresh child.look)) children

-- How many of the innermost visit's.
abbrev pub unseen_in : List FrameView → ℕ
unseen_in [] = 0
unseen_in (f ∷ fs) = unseen f.children

-- How many requests are to come, at most, until the stage is another, beside what the visits and
-- the visits that go on allow.
abbrev pub cost : Stage → List FrameView → ℕ
cost (Polling entry) fs = 2
cost (Drawing entry) fs = 1
cost Entering fs = most_children + 5
cost (Looking place) fs = 3 + unseen_in fs
cost Claiming fs = 2
cost (Leaving left) fs = 1
cost (Posting posted) fs = 1
cost (Winding end) fs = 0

-- How many requests are to come, at most.
abbrev pub to_come : State → ℕ
to_come s = 30000 * (MOST_EXPANSIONS - s.visits) + (most_children + 6) * length s.frames + cost s.stage s.frames

-- 4. BRACKETS: each Leave leaves what was entered last and not left yet.

-- What is entered and not left, the latest first, before and after an event.
abbrev pub IsBracket : List (Kept × Key) → Exchange → List (Kept × Key) → Type 0
IsBracket before (Enter key numbers, Some (Entered kept)) after = after ≡ (kept, key) ∷ before
IsBracket before (Leave kept key update, Some LeftIt) after = before ≡ (kept, key) ∷ after
IsBracket before event after = after ≡ before

-- What is entered and not left, the latest first, before and after these events.
abbrev pub AreBrackets : List (Kept × Key) → List Exchange → List (Kept × Key) → Type 0
AreBrackets before [] after = after ≡ before
AreBrackets before (event ∷ events) after = (between : List (Kept × Key)) × IsBracket before event between × AreBrackets between events after
