-- A desk whose counts are words, as its callers see it: its seats, what each call does to a seat,
-- and what it comes to in the end.
use Rattle.std.specs.Prelude.{◌≡◌, ◌+◌, ◌<◌, ◌≤◌, ◌==◌, ◌||◌, ◌&&◌, ◌⊎◌, ℕ, min, List, [], ◌∷◌, ◌++◌, length, filter, count_by, nat_le, Bool, true, false, IsTrue, Option, Some, None, IfSome, IsSome, IsNone, if◌then◌else◌}
use Rattle.std.specs.Option.{option_or}
use Rattle.atomic_table.specs.Seated.{TableId}
use Rattle.board_core.specs.Board.{Board}
use Rattle.notes.specs.Derivation.{Derivation}
use Rattle.notes.specs.declared.words.Draw.{Draw}
use Rattle.notes.specs.declared.words.Draw.TheVariants.{Go, Done, Spent}
use Rattle.notes.specs.declared.words.RoomAnswer.{RoomAnswer}
use Rattle.notes.specs.declared.words.RoomAnswer.TheVariants.{Room, NoRoom}
use Rattle.search_limits.specs.Sizes.{IsFromTo}
use Rattle.search_limits.specs.declared.expansions.TheConstants.{MOST_EXPANSIONS}
use Rattle.search_limits.specs.declared.settings.TheConstants.{MOST_ROOM}
use Rattle.unit_desk.specs.Desk.{IsAnswerTo}
use Rattle.word_desk.specs.declared.view.View.{View}
use Rattle.word_desk.specs.Rule.{count_above}

-- A desk: which words it has, the problem's position, and how many visits and notes there may be.
pub record WordDeskView : Type 0 where
  pub words : TableId
  pub position : Board
  pub expansions : ℕ
  pub room : ℕ

-- A seat: of which desk it is, how many of all parts it has, the visits that it drew, how many of
-- its draws got none, the claims that it made, how many of its claims got none, whether it has met
-- a posted note, and the note that it posted first of all.
pub record DeskSeatView : Type 0 where
  pub desk : WordDeskView
  pub parts : ℕ
  pub visits : List ℕ
  pub draw_ends : ℕ
  pub claims : List ℕ
  pub claim_ends : ℕ
  pub met : Bool
  pub note : Option Derivation

-- The numbers up to a limit among some.
abbrev pub numbers_to : ℕ → List ℕ → List ℕ
numbers_to limit numbers = filter (λ number. nat_le number limit) numbers

-- A seat of a desk, by its view and its note: a number that it drew is a visit where it is within
-- the expansions, and one that it claimed is a claim where it is within the room.
abbrev pub seat_of : WordDeskView → View → Option Derivation → DeskSeatView
seat_of its_desk view its_note = record {
  desk = its_desk;
  parts = view.parts;
  visits = numbers_to its_desk.expansions view.drawn;
  draw_ends = count_above its_desk.expansions view.drawn + length view.missed;
  claims = numbers_to its_desk.room view.claimed;
  claim_ends = count_above its_desk.room view.claimed;
  met = view.met;
  note = its_note;
}

-- A seat that has so many parts, and nothing else.
abbrev pub unused : WordDeskView → ℕ → DeskSeatView
unused its_desk its_parts =
    record { desk = its_desk; parts = its_parts; visits = []; draw_ends = 0; claims = []; claim_ends = 0; met = false; note = None }

-- What is kept of a seat: the limits of its desk are those of settings; it has a part, has drawn no
-- more visits than there are and claimed no more than there is room; and its note answers the
-- problem.
pub record IsSeat (seat : DeskSeatView) : Type 0 where
  pub expansions : IsFromTo 1 MOST_EXPANSIONS seat.desk.expansions
  pub room : IsFromTo 1 MOST_ROOM seat.desk.room
  pub part : 0 < seat.parts
  pub visits : length seat.visits ≤ seat.desk.expansions
  pub claims : length seat.claims ≤ seat.desk.room
  pub note : IfSome seat.note (IsAnswerTo seat.desk.position)

-- What a draw answers, and the seat after it. Done: it has met a posted note now. Spent: it hasn't
-- met one, and got no visit. Go: it hasn't met one, and this visit is drawn. Nothing else changes.
-- What Done and Spent say of all seats shows at the close (`Ends`).
abbrev pub Draws : DeskSeatView → Draw → DeskSeatView → Type 0
Draws seat Done after = after ≡ record seat { draw_ends = seat.draw_ends + 1; met = true }
Draws seat Spent after = (seat.met ≡ false) × (after ≡ record seat { draw_ends = seat.draw_ends + 1 })
Draws seat (Go number) after = (seat.met ≡ false) × IsFromTo 1 seat.desk.expansions number × (after ≡ record seat { visits = number ∷ seat.visits })

-- What a claim answers, and the seat after it. NoRoom: it got none. Room: that of this number is
-- claimed. Nothing else changes. What NoRoom says of all seats shows at the close (`Ends`).
abbrev pub Claims : DeskSeatView → RoomAnswer → DeskSeatView → Type 0
Claims seat NoRoom after = after ≡ record seat { claim_ends = seat.claim_ends + 1 }
Claims seat (Room number) after = IsFromTo 1 seat.desk.room number × (after ≡ record seat { claims = number ∷ seat.claims })

-- The seat after it posted a note: it has met a posted note, and keeps this one only where it had
-- neither met one nor kept one. Nothing else changes.
abbrev pub Posts : DeskSeatView → Derivation → DeskSeatView → Type 0
Posts seat its_note after =
    (after ≡ record seat { met = true })
    ⊎ ((seat.met ≡ false) × (seat.note ≡ None) × (after ≡ record seat { met = true; note = Some its_note }))

-- A seat to which another was joined: all that it has came over.
abbrev pub joined : DeskSeatView → DeskSeatView → DeskSeatView
joined seat other = record {
  desk = seat.desk;
  parts = seat.parts + other.parts;
  visits = other.visits ++ seat.visits;
  draw_ends = seat.draw_ends + other.draw_ends;
  claims = other.claims ++ seat.claims;
  claim_ends = seat.claim_ends + other.claim_ends;
  met = seat.met || other.met;
  note = option_or seat.note other.note;
}

-- How often a number stands among some.
abbrev pub times : ℕ → List ℕ → ℕ
times number numbers = count_by (λ each. each == number) numbers

-- One where the number lies from 1 to the last, and else none.
abbrev pub once_to : ℕ → ℕ → ℕ
once_to last number = if nat_le 1 number && nat_le number last then 1 else 0

-- Some numbers are those from 1 to the last, each once.
abbrev pub AreEachTo : ℕ → List ℕ → Type 0
AreEachTo last numbers = (number : ℕ) → times number numbers ≡ once_to last number

-- What a desk comes to, by the seat to which all others were joined: how many visits were drawn,
-- for how many notes room was claimed, and the note that was posted first.
pub record Ends (seat : DeskSeatView) (its_drawn its_claimed : ℕ) (its_note : Option Derivation) : Type 0 where
  pub drawn : its_drawn ≡ length seat.visits
  pub claimed : its_claimed ≡ length seat.claims
  pub note : its_note ≡ seat.note
  pub answer : IfSome its_note (IsAnswerTo seat.desk.position)
  pub met : IsTrue seat.met → IsSome its_note
  pub apart : (number : ℕ) → times number seat.visits ≤ once_to seat.desk.expansions number
  pub visits : IsNone its_note → AreEachTo (min (length seat.visits + seat.draw_ends) seat.desk.expansions) seat.visits
  pub claims : AreEachTo (min (length seat.claims + seat.claim_ends) seat.desk.room) seat.claims
  pub all_drawn : IsNone its_note → 0 < seat.draw_ends → its_drawn ≡ seat.desk.expansions
  pub all_claimed : 0 < seat.claim_ends → its_claimed ≡ seat.desk.room
