-- A desk: how much was drawn and claimed, of how much, and what is posted for which problem.
use Rattle.std.specs.Prelude.{◌≡◌, ◌<◌, ◌≤◌, ◌+◌, ℕ, [], Option, Some, None, IfSome, IsSome}
use Rattle.board_core.specs.Board.{Board}
use Rattle.notes.specs.Derivation.{Derivation, attacker_of, position_of, tag_of}
use Rattle.notes.specs.declared.words.Draw.{Draw}
use Rattle.notes.specs.declared.words.Draw.TheVariants.{Go, Done, Spent}
use Rattle.notes.specs.declared.words.RoomAnswer.{RoomAnswer}
use Rattle.notes.specs.declared.words.RoomAnswer.TheVariants.{Room, NoRoom}
use Rattle.search_limits.specs.Sizes.{IsFromTo}
use Rattle.search_limits.specs.declared.expansions.TheConstants.{MOST_EXPANSIONS}
use Rattle.search_limits.specs.declared.settings.TheConstants.{MOST_ROOM}

-- The problem's position, how many visits and notes there may be, how many visits were drawn and
-- for how many notes room was claimed, and the note that is posted.
pub record DeskView : Type 0 where
  pub position : Board
  pub expansions : ℕ
  pub room : ℕ
  pub drawn : ℕ
  pub claimed : ℕ
  pub posted : Option Derivation

-- The note answers the problem: it holds on every path, is about the problem's position, and for
-- its attacker, who is to move there.
pub record IsAnswerTo (position : Board) (note : Derivation) : Type 0 where
  pub closed : tag_of note ≡ []
  pub about : position_of note ≡ position
  pub same_attacker : attacker_of note ≡ position.side

-- What is kept of a desk: its limits are those of settings, no more is drawn than there are visits,
-- no more is claimed than there is room, and what is posted answers the problem.
pub record IsDesk (desk : DeskView) : Type 0 where
  pub expansions : IsFromTo 1 MOST_EXPANSIONS desk.expansions
  pub room : IsFromTo 1 MOST_ROOM desk.room
  pub drawn : desk.drawn ≤ desk.expansions
  pub claimed : desk.claimed ≤ desk.room
  pub posted : IfSome desk.posted (IsAnswerTo desk.position)

-- The desk of a problem at the beginning: nothing is drawn, claimed or posted.
abbrev pub fresh : Board → ℕ → ℕ → DeskView
fresh position expansions room = record { position = position; expansions = expansions; room = room; drawn = 0; claimed = 0; posted = None }

-- A note is posted.
abbrev pub HasPosted : DeskView → Type 0
HasPosted desk = IsSome desk.posted

-- What a draw answers, and the desk after it. Done: a note is posted. Spent: none is, and all
-- visits were drawn. Go: none is, and the next visit is drawn. Nothing else changes.
abbrev pub Draws : DeskView → Draw → DeskView → Type 0
Draws desk Done after = HasPosted desk × (after ≡ desk)
Draws desk Spent after = (¬ HasPosted desk) × (desk.drawn ≡ desk.expansions) × (after ≡ desk)
Draws desk (Go number) after = (¬ HasPosted desk) × (desk.drawn < desk.expansions) × (number ≡ desk.drawn + 1) × (after ≡ record desk { drawn = number })

-- What a claim answers, and the desk after it. NoRoom: all room was claimed. Room: that of the next
-- note is claimed. Nothing else changes.
abbrev pub Claims : DeskView → RoomAnswer → DeskView → Type 0
Claims desk NoRoom after = (desk.claimed ≡ desk.room) × (after ≡ desk)
Claims desk (Room note) after = (desk.claimed < desk.room) × (note ≡ desk.claimed + 1) × (after ≡ record desk { claimed = note })

-- What is posted after a note is: the first stays.
abbrev pub first_posted : Option Derivation → Derivation → Option Derivation
first_posted None note = Some note
first_posted (Some first) note = Some first
