-- A visit leaves what it enters, innermost first: what was entered before it and not left is still
-- so behind it.
use Rattle.std.proofs.Common.{◌≡◌, ℕ, true, false, List, [], ◌∷◌, ◌++◌, inl, inr, refl, sym, ap, ap₂, ◌∙◌, subst}
use Rattle.std.specs.Prelude.{Option, Some, None}
use Rattle.board_core.specs.declared.keys.Key.{Key}
use Rattle.notes.specs.Derivation.{Derivation}
use Rattle.notes.specs.declared.words.Kept.{Kept}
use Rattle.notes.specs.declared.words.Update.{Update}
use Rattle.notes.specs.declared.words.Update.TheVariants.{Numbers as Count, Note as Noted, Nothing}
use Rattle.notes.specs.declared.words.Draw.TheVariants.{Go}
use Rattle.notes.specs.declared.words.RoomAnswer.TheVariants.{Room, NoRoom as Full}
use Rattle.visit_log.specs.declared.parts.Left.TheVariants.{Solved, Open}
use Rattle.visit_log.specs.declared.words.WorkEnd.{WorkEnd}
use Rattle.visit_log.specs.declared.words.Request.TheVariants.{Look, Post}
use Rattle.visit_log.specs.declared.words.Reply.TheVariants.{Post as PostedIt}
use Rattle.visit_log.specs.Frame.{Task, Place, FrameView, root, opened}
use Rattle.visit_log.specs.Round.{own, Choice, child_place}
use Rattle.visit_log.specs.Visit.{Exchange, Visit, Unpolled, Halted, Undrawn, Refused, Unentered, Unlisted, Visited, Doings, nothing_yet, and_look, and_visit, Tail, Cut, Blind, Uncarried, Unclaimed, Unmade, Made, Passed, Under, Ending, Winds, Ends, ending, after_child, known_after, polled, drew, entered, looked_at, lent_at, claimed, kept_by, leave, drawn_on, entered_on, visit_on, doings_on, tail_on, EndsLog}
use Rattle.visit_log.specs.Counts.{IsBracket, AreBrackets}
use Rattle.visit_log.specs.Laws.{LogsAreBrackets}
use Rattle.visit_log.proofs.Waiting.{kept_after}

-- 1. BRACKETS.

-- What is entered and not left, the latest first.
abbrev pub Entries : Type 0
Entries = List (Kept × Key)

-- One more event.
brackets_more : (before between after : Entries) (log : List Exchange) (event : Exchange) → AreBrackets before log between → IsBracket between event after
    → AreBrackets before (log ++ event ∷ []) after
brackets_more before between after [] event are is = (after, subst (λ (z : Entries). IsBracket z event after) are is, refl)
brackets_more before between after (first ∷ log) event (next, is_first, are) is = (next, is_first, brackets_more next between after log event are is)

-- Of which place it is a visit doesn't change with a child's visit.
place_after_child : (f : FrameView) (choice : Choice) (ended : Ending) → (after_child f choice ended).place ≡ f.place
place_after_child f choice (Winds end) = refl
place_after_child f choice (Ends left) = refl

-- Of which place it is a visit doesn't change.
pub place_after : (task : Task) (f : FrameView) (doings : Doings) → (known_after task f doings).place ≡ f.place
place_after task f nothing_yet = refl
place_after task f (and_look doings sight) = place_after task f doings
place_after task f (and_visit doings choice visit) =
    let g : FrameView = known_after task f doings in
    place_after_child g choice (ending task (child_place task g choice) visit) ∙ place_after task f doings

-- The visit leaves what it has entered.
leave_one : (held : Entries) (log : List Exchange) (f : FrameView) (kept : Kept) (key : Key) (update : Update) → f.kept ≡ Some kept → f.place.key ≡ key
    → AreBrackets [] log ((kept, key) ∷ held) → AreBrackets [] (log ++ leave f update ∷ []) held
leave_one held log f kept key update at of are =
    brackets_more [] ((kept, key) ∷ held) held log (leave f update) are (ap₂ (λ (one : Option Kept) (k : Key). (kept_by one, k) ∷ held) (sym at) (sym of))

-- The visit enters its position.
enter_brackets : (held : Entries) (log : List Exchange) (p : Place) (number : ℕ) (kept : Kept) → AreBrackets [] log held
    → AreBrackets [] (entered_on log number p kept) ((kept, p.key) ∷ held)
enter_brackets held log p number kept are =
    brackets_more [] held ((kept, p.key) ∷ held) (drawn_on log number) (entered p kept)
    (brackets_more [] held held (log ++ polled false ∷ []) (drew (Go number)) (brackets_more [] held held log (polled false) are refl) refl) refl

-- What is entered and not left before a visit is so behind it.
mutual
  visit_brackets : (task : Task) (held : Entries) (log : List Exchange) (p : Place) (visit : Visit) → AreBrackets [] log held
      → AreBrackets [] (visit_on task log p visit) held
  visit_brackets task held log p Unpolled are = are
  visit_brackets task held log p Halted are = brackets_more [] held held log (polled true) are refl
  visit_brackets task held log p Undrawn are = brackets_more [] held held log (polled false) are refl
  visit_brackets task held log p (Refused draw) are =
      brackets_more [] held held (log ++ polled false ∷ []) (drew draw) (brackets_more [] held held log (polled false) are refl) refl
  visit_brackets task held log p (Unentered number) are =
      brackets_more [] held held (log ++ polled false ∷ []) (drew (Go number)) (brackets_more [] held held log (polled false) are refl) refl
  visit_brackets task held log p (Unlisted number kept) are =
      leave_one held (entered_on log number p kept) (opened p kept []) kept p.key Nothing refl refl (enter_brackets held log p number kept are)
  visit_brackets task held log p (Visited number kept children doings tail) are =
      let f : FrameView = opened p kept children in
      tail_brackets task held (doings_on task (entered_on log number p kept) f doings) (known_after task f doings) kept p.key tail (kept_after task f doings)
      (ap (λ (q : Place). q.key) (place_after task f doings))
      (doings_brackets task ((kept, p.key) ∷ held) (entered_on log number p kept) f doings (enter_brackets held log p number kept are))

  doings_brackets : (task : Task) (held : Entries) (log : List Exchange) (f : FrameView) (doings : Doings) → AreBrackets [] log held
      → AreBrackets [] (doings_on task log f doings) held
  doings_brackets task held log f nothing_yet are = are
  doings_brackets task held log f (and_look doings sight) are =
      brackets_more [] held held (doings_on task log f doings) (looked_at sight) (doings_brackets task held log f doings are) refl
  doings_brackets task held log f (and_visit doings choice visit) are =
      visit_brackets task held (doings_on task log f doings) (child_place task (known_after task f doings) choice) visit (doings_brackets task held log f doings are)

  tail_brackets : (task : Task) (held : Entries) (log : List Exchange) (f : FrameView) (kept : Kept) (key : Key) (tail : Tail) → f.kept ≡ Some kept → f.place.key ≡ key
      → AreBrackets [] log ((kept, key) ∷ held) → AreBrackets [] (tail_on task log f tail) held
  tail_brackets task held log f kept key Cut at of are = leave_one held log f kept key Nothing at of are
  tail_brackets task held log f kept key (Blind place child) at of are =
      leave_one held (log ++ (Look child.key, None) ∷ []) f kept key Nothing at of
      (brackets_more [] ((kept, key) ∷ held) ((kept, key) ∷ held) log (Look child.key, None) are refl)
  tail_brackets task held log f kept key (Uncarried place child note) at of are =
      leave_one held (log ++ lent_at child note ∷ []) f kept key Nothing at of
      (brackets_more [] ((kept, key) ∷ held) ((kept, key) ∷ held) log (lent_at child note) are refl)
  tail_brackets task held log f kept key Unclaimed at of are =
      leave_one held (log ++ claimed Full ∷ []) f kept key Nothing at of (brackets_more [] ((kept, key) ∷ held) ((kept, key) ∷ held) log (claimed Full) are refl)
  tail_brackets task held log f kept key (Unmade room end) at of are =
      leave_one held (log ++ claimed (Room room) ∷ []) f kept key Nothing at of
      (brackets_more [] ((kept, key) ∷ held) ((kept, key) ∷ held) log (claimed (Room room)) are refl)
  tail_brackets task held log f kept key (Made room note) at of are =
      leave_one held (log ++ claimed (Room room) ∷ []) f kept key (Noted note) at of
      (brackets_more [] ((kept, key) ∷ held) ((kept, key) ∷ held) log (claimed (Room room)) are refl)
  tail_brackets task held log f kept key Passed at of are = leave_one held log f kept key (Count (own task f)) at of are
  tail_brackets task held log f kept key (Under choice visit) at of are =
      leave_one held (visit_on task log (child_place task f choice) visit) f kept key Nothing at of
      (visit_brackets task ((kept, key) ∷ held) log (child_place task f choice) visit are)

-- 2. WHOLE LOGS.

-- What holds of the log of a visit, and still with a Post behind it, holds of a visit log that is
-- made of it.
pub by_ends : (P : List Exchange → Type 0) (written log : List Exchange) (end : WorkEnd) (ended : Ending) → P written
    → ((note : Derivation) → P (written ++ (Post note, Some PostedIt) ∷ [])) → EndsLog ended written log end → P log
by_ends P written log end (Winds reason) h posts ends = subst P (sym ends.0) h
by_ends P written log end (Ends (Solved note)) h posts (inl ends) = subst P (sym ends.0) (posts note)
by_ends P written log end (Ends (Solved note)) h posts (inr ends) = subst P (sym ends.0) h
by_ends P written log end (Ends (Open numbers)) h posts ends = absurd ends

-- In a visit log each Leave leaves what was entered last and not left yet, and at its end
-- everything is left.
pub brackets : LogsAreBrackets
brackets task log end whole =
    let written : List Exchange = visit_on task [] (root task) whole.visit in
    let are : AreBrackets [] written [] = visit_brackets task [] [] (root task) whole.visit refl in
    by_ends (λ (z : List Exchange). AreBrackets [] z []) written log end (ending task (root task) whole.visit) are
    (λ note. brackets_more [] [] [] written (Post note, Some PostedIt) are refl) whole.ends
