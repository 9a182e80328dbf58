-- A visit that asks for room was drawn first.
use Rattle.std.proofs.Common.{◌≡◌, ◌≤◌, ◌+◌, ℕ, Bool, true, false, List, [], ◌∷◌, ◌++◌, arith, refl, ap, cond}
use Rattle.std.specs.Prelude.{Some, None, count_by}
use Rattle.std.proofs.lemmas.List.Sums.{sum_by-append}
use Rattle.notes.specs.declared.words.RoomAnswer.{RoomAnswer}
use Rattle.notes.specs.declared.words.Update.TheVariants.{Numbers as Count, Note as Noted, Nothing}
use Rattle.notes.specs.declared.words.Draw.TheVariants.{Go}
use Rattle.notes.specs.declared.words.RoomAnswer.TheVariants.{Room, NoRoom as Full}
use Rattle.visit_log.specs.declared.words.Request.TheVariants.{Look, Post}
use Rattle.visit_log.specs.declared.words.Reply.TheVariants.{Post as PostedIt}
use Rattle.visit_log.specs.Frame.{Task, Place, FrameView, root, opened}
use Rattle.visit_log.specs.Round.{own, child_place}
use Rattle.visit_log.specs.Visit.{Exchange, Visit, Unpolled, Halted, Undrawn, Refused, Unentered, Unlisted, Visited, Doings, nothing_yet, and_look, and_visit, Tail, Cut, Blind, Uncarried, Unclaimed, Unmade, Made, Passed, Under, ending, known_after, polled, drew, entered, looked_at, lent_at, claimed, leave, drawn_on, entered_on, visit_on, doings_on, tail_on}
use Rattle.visit_log.specs.Counts.{gives_visit, asks_room}
use Rattle.visit_log.specs.Laws.{OneClaimAVisit}
use Rattle.visit_log.proofs.Bracketed.{by_ends}

-- Room is asked for no more often than visits are given, and could be so many times more.
abbrev IsPaid : List Exchange → ℕ → Type 0
IsPaid log more = count_by asks_room log + more ≤ count_by gives_visit log

-- One more event is counted.
count_more : (test : Exchange → Bool) (log : List Exchange) (event : Exchange) → count_by test (log ++ event ∷ []) ≡ count_by test log + cond (test event) 1 0
count_more test log event =
    let sums = sum_by-append (λ (z : Exchange). cond (test z) 1 0) log (event ∷ []) in
    omega (arith, sums)

-- One more event that doesn't ask for room.
paid_more : (log : List Exchange) (event : Exchange) (more : ℕ) → asks_room event ≡ false → IsPaid log more → IsPaid (log ++ event ∷ []) more
paid_more log event more asks paid =
    let a = count_more asks_room log event in
    let g = count_more gives_visit log event in
    let none : cond {A = ℕ} (asks_room event) 1 0 ≡ 0 = ap (λ (b : Bool). cond {A = ℕ} b 1 0) asks in
    omega (arith, a, g, none, paid)

-- A visit is drawn.
paid_visit : (log : List Exchange) (number more : ℕ) → IsPaid log more → IsPaid (log ++ drew (Go number) ∷ []) (more + 1)
paid_visit log number more paid =
    let a : count_by asks_room (log ++ drew (Go number) ∷ []) ≡ count_by asks_room log + 0 = count_more asks_room log (drew (Go number)) in
    let g : count_by gives_visit (log ++ drew (Go number) ∷ []) ≡ count_by gives_visit log + 1 = count_more gives_visit log (drew (Go number)) in
    omega (arith, a, g, paid)

-- Room is asked for.
paid_claim : (log : List Exchange) (claim : RoomAnswer) (more : ℕ) → IsPaid log (more + 1) → IsPaid (log ++ claimed claim ∷ []) more
paid_claim log claim more paid =
    let a : count_by asks_room (log ++ claimed claim ∷ []) ≡ count_by asks_room log + 1 = count_more asks_room log (claimed claim) in
    let g : count_by gives_visit (log ++ claimed claim ∷ []) ≡ count_by gives_visit log + 0 = count_more gives_visit log (claimed claim) in
    omega (arith, a, g, paid)

-- It isn't asked for.
paid_less : (log : List Exchange) (more : ℕ) → IsPaid log (more + 1) → IsPaid log more
paid_less log more paid = omega (arith, paid)

-- A visit was drawn.
drawn_paid : (log : List Exchange) (number more : ℕ) → IsPaid log more → IsPaid (drawn_on log number) (more + 1)
drawn_paid log number more paid = paid_visit (log ++ polled false ∷ []) number more (paid_more log (polled false) more refl paid)

-- What is paid before a visit is paid behind it.
mutual
  visit_paid : (task : Task) (log : List Exchange) (p : Place) (visit : Visit) (more : ℕ) → IsPaid log more → IsPaid (visit_on task log p visit) more
  visit_paid task log p Unpolled more paid = paid
  visit_paid task log p Halted more paid = paid_more log (polled true) more refl paid
  visit_paid task log p Undrawn more paid = paid_more log (polled false) more refl paid
  visit_paid task log p (Refused draw) more paid = paid_more (log ++ polled false ∷ []) (drew draw) more refl (paid_more log (polled false) more refl paid)
  visit_paid task log p (Unentered number) more paid = paid_less (drawn_on log number) more (drawn_paid log number more paid)
  visit_paid task log p (Unlisted number kept) more paid =
      paid_more (entered_on log number p kept) (leave (opened p kept []) Nothing) more refl
      (paid_more (drawn_on log number) (entered p kept) more refl (paid_less (drawn_on log number) more (drawn_paid log number more paid)))
  visit_paid task log p (Visited number kept children doings tail) more paid =
      let f : FrameView = opened p kept children in
      tail_paid task (doings_on task (entered_on log number p kept) f doings) (known_after task f doings) tail more
      (doings_paid task (entered_on log number p kept) f doings (more + 1) (paid_more (drawn_on log number) (entered p kept) (more + 1) refl (drawn_paid log number more paid)))

  doings_paid : (task : Task) (log : List Exchange) (f : FrameView) (doings : Doings) (more : ℕ) → IsPaid log more → IsPaid (doings_on task log f doings) more
  doings_paid task log f nothing_yet more paid = paid
  doings_paid task log f (and_look doings sight) more paid =
      paid_more (doings_on task log f doings) (looked_at sight) more refl (doings_paid task log f doings more paid)
  doings_paid task log f (and_visit doings choice visit) more paid =
      visit_paid task (doings_on task log f doings) (child_place task (known_after task f doings) choice) visit more (doings_paid task log f doings more paid)

  tail_paid : (task : Task) (log : List Exchange) (f : FrameView) (tail : Tail) (more : ℕ) → IsPaid log (more + 1) → IsPaid (tail_on task log f tail) more
  tail_paid task log f Cut more paid = paid_more log (leave f Nothing) more refl (paid_less log more paid)
  tail_paid task log f (Blind place child) more paid =
      paid_more (log ++ (Look child.key, None) ∷ []) (leave f Nothing) more refl (paid_more log (Look child.key, None) more refl (paid_less log more paid))
  tail_paid task log f (Uncarried place child note) more paid =
      paid_more (log ++ lent_at child note ∷ []) (leave f Nothing) more refl (paid_more log (lent_at child note) more refl (paid_less log more paid))
  tail_paid task log f Unclaimed more paid = paid_more (log ++ claimed Full ∷ []) (leave f Nothing) more refl (paid_claim log Full more paid)
  tail_paid task log f (Unmade room end) more paid = paid_more (log ++ claimed (Room room) ∷ []) (leave f Nothing) more refl (paid_claim log (Room room) more paid)
  tail_paid task log f (Made room note) more paid = paid_more (log ++ claimed (Room room) ∷ []) (leave f (Noted note)) more refl (paid_claim log (Room room) more paid)
  tail_paid task log f Passed more paid = paid_more log (leave f (Count (own task f))) more refl (paid_less log more paid)
  tail_paid task log f (Under choice visit) more paid =
      paid_more (visit_on task log (child_place task f choice) visit) (leave f Nothing) more refl
      (visit_paid task log (child_place task f choice) visit more (paid_less log more paid))

-- In a visit log room is asked for no more often than visits are given.
pub one_claim : OneClaimAVisit
one_claim task log end whole =
    let written : List Exchange = visit_on task [] (root task) whole.visit in
    let paid : IsPaid written 0 = visit_paid task [] (root task) whole.visit 0 (omega arith) in
    let is = by_ends (λ (z : List Exchange). IsPaid z 0) written log end (ending task (root task) whole.visit) paid
    (λ note. paid_more written (Post note, Some PostedIt) 0 refl paid) whole.ends in
    omega (arith, is)
