-- Why a worker ends as it does stands in its log.
use Rattle.std.proofs.Common.{◌≡◌, inl, inr, ℕ, true, false, List, [], ◌∷◌, ◌++◌, Contains, arith, refl, sym, subst}
use Rattle.std.specs.Prelude.{◌⊎◌, Some, None}
use Rattle.std.proofs.lemmas.List.Elements.{Contains-append_left, Contains-append_right}
use Rattle.board_core.specs.declared.keys.Key.{Key}
use Rattle.notes.specs.Derivation.{Derivation}
use Rattle.notes.specs.declared.words.Kept.{Kept}
use Rattle.notes.specs.declared.words.Update.TheVariants.{Numbers as Count, Note as Noted, Nothing}
use Rattle.notes.specs.declared.words.Draw.TheVariants.{Go, Done, Spent as AllDrawn}
use Rattle.notes.specs.declared.words.RoomAnswer.TheVariants.{Room, NoRoom as Full}
use Rattle.visit_log.specs.declared.parts.Left.TheVariants.{Solved, Open}
use Rattle.visit_log.specs.declared.words.WorkEnd.{WorkEnd}
use Rattle.visit_log.specs.declared.words.WorkEnd.TheVariants.{Posted, Spent, NoRoom, TooHigh, NoMemory, Stopped}
use Rattle.visit_log.specs.declared.words.Request.TheVariants.{Look, Post}
use Rattle.visit_log.specs.declared.words.Reply.TheVariants.{Post as PostedIt}
use Rattle.visit_log.specs.Frame.{Task, Place, FrameView, root, opened}
use Rattle.visit_log.specs.Children.{rule_at, notes_under}
use Rattle.visit_log.specs.Round.{IsRefusal, Solves, child_place, node_in, own}
use Rattle.visit_log.specs.Visit.{Exchange, Visit, Unpolled, Halted, Undrawn, Refused, Unentered, Unlisted, Visited, Doings, nothing_yet, and_look, and_visit, Tail, Cut, Blind, Uncarried, Unclaimed, Unmade, Made, Passed, Under, Ending, Winds, Ends, ending, tail_ending, known_after, polled, drew, entered, looked_at, lent_at, claimed, leave, drawn_on, entered_on, visit_on, doings_on, tail_on, EndsLog, IsVisit, IsTail, path_at}
use Rattle.visit_log.specs.Unmade.{IsUnmadeIn, IsUnmadeBy, IsTooHigh}
use Rattle.visit_log.specs.Laws.{HasCause, EndsHaveCauses}
use Rattle.visit_log.proofs.Bracketed.{place_after}

-- 1. WHAT STANDS IN A LOG.

-- The last event stands in the log.
last : (log : List Exchange) (event : Exchange) → Contains (log ++ event ∷ []) event
last log event = Contains-append_right log (event ∷ []) event (0, omega arith, refl)

-- One that stood there stands there still.
old : (log : List Exchange) (event e : Exchange) → Contains log e → Contains (log ++ event ∷ []) e
old log event e there = Contains-append_left log (event ∷ []) e there

-- And before its position was entered.
enters_hold : (log : List Exchange) (number : ℕ) (p : Place) (kept : Kept) (e : Exchange) → Contains log e → Contains (entered_on log number p kept) e
enters_hold log number p kept e there =
    old (drawn_on log number) (entered p kept) e (old (log ++ polled false ∷ []) (drew (Go number)) e (old log (polled false) e there))

-- What stood in the log before a visit, or what is done in it, stands there still.
mutual
  visit_holds : (task : Task) (log : List Exchange) (p : Place) (visit : Visit) (e : Exchange) → Contains log e → Contains (visit_on task log p visit) e
  visit_holds task log p Unpolled e there = there
  visit_holds task log p Halted e there = old log (polled true) e there
  visit_holds task log p Undrawn e there = old log (polled false) e there
  visit_holds task log p (Refused draw) e there = old (log ++ polled false ∷ []) (drew draw) e (old log (polled false) e there)
  visit_holds task log p (Unentered number) e there = old (log ++ polled false ∷ []) (drew (Go number)) e (old log (polled false) e there)
  visit_holds task log p (Unlisted number kept) e there =
      old (entered_on log number p kept) (leave (opened p kept []) Nothing) e (enters_hold log number p kept e there)
  visit_holds task log p (Visited number kept children doings tail) e there =
      let f : FrameView = opened p kept children in
      tail_holds task (doings_on task (entered_on log number p kept) f doings) (known_after task f doings) tail e
      (doings_hold task (entered_on log number p kept) f doings e (enters_hold log number p kept e there))

  doings_hold : (task : Task) (log : List Exchange) (f : FrameView) (doings : Doings) (e : Exchange) → Contains log e → Contains (doings_on task log f doings) e
  doings_hold task log f nothing_yet e there = there
  doings_hold task log f (and_look doings sight) e there = old (doings_on task log f doings) (looked_at sight) e (doings_hold task log f doings e there)
  doings_hold task log f (and_visit doings choice visit) e there =
      visit_holds task (doings_on task log f doings) (child_place task (known_after task f doings) choice) visit e (doings_hold task log f doings e there)

  tail_holds : (task : Task) (log : List Exchange) (f : FrameView) (tail : Tail) (e : Exchange) → Contains log e → Contains (tail_on task log f tail) e
  tail_holds task log f Cut e there = old log (leave f Nothing) e there
  tail_holds task log f (Blind place child) e there =
      old (log ++ (Look child.key, None) ∷ []) (leave f Nothing) e (old log (Look child.key, None) e there)
  tail_holds task log f (Uncarried place child note) e there =
      old (log ++ lent_at child note ∷ []) (leave f Nothing) e (old log (lent_at child note) e there)
  tail_holds task log f Unclaimed e there = old (log ++ claimed Full ∷ []) (leave f Nothing) e (old log (claimed Full) e there)
  tail_holds task log f (Unmade room end) e there = old (log ++ claimed (Room room) ∷ []) (leave f Nothing) e (old log (claimed (Room room)) e there)
  tail_holds task log f (Made room note) e there = old (log ++ claimed (Room room) ∷ []) (leave f (Noted note)) e (old log (claimed (Room room)) e there)
  tail_holds task log f Passed e there = old log (leave f (Count (own task f))) e there
  tail_holds task log f (Under choice visit) e there =
      old (visit_on task log (child_place task f choice) visit) (leave f Nothing) e (visit_holds task log (child_place task f choice) visit e there)

-- 2. CAUSES.

-- Why a visit, or what ends it, winds up: the note that would have been too high is one that isn't
-- made in it.
abbrev CauseIn : Task → (FrameView → ℕ → Type 0) → WorkEnd → List Exchange → Type 0
CauseIn task unmade Posted log = ((note : Derivation) × Contains log (Post note, Some PostedIt)) ⊎ Contains log (drew Done)
CauseIn task unmade Spent log = Contains log (drew AllDrawn)
CauseIn task unmade NoRoom log = Contains log (claimed Full)
CauseIn task unmade TooHigh log = IsTooHigh task unmade log
CauseIn task unmade NoMemory log = Unit {0}
CauseIn task unmade Stopped log = Contains log (polled true)

-- A note that would have been too high is one in a longer log.
high_more : (task : Task) (unmade : FrameView → ℕ → Type 0) (log : List Exchange) (event : Exchange) → IsTooHigh task unmade log
    → IsTooHigh task unmade (log ++ event ∷ [])
high_more task unmade log event h = record {
  solved = h.solved;
  room = h.room;
  is_unmade = h.is_unmade;
  solves = h.solves;
  rule = h.rule;
  by = h.by;
  under = h.under;
  made_of = h.made_of;
  too_high = h.too_high;
  kept = h.kept;
  enters = old log event (entered h.solved.place h.kept) h.enters;
  claims = old log event (claimed (Room h.room)) h.claims;
}

-- A cause stays one in a longer log.
cause_more : (task : Task) (unmade : FrameView → ℕ → Type 0) (end : WorkEnd) (log : List Exchange) (event : Exchange) → CauseIn task unmade end log
    → CauseIn task unmade end (log ++ event ∷ [])
cause_more task unmade Posted log event (inl posts) = inl (posts.0, old log event (Post posts.0, Some PostedIt) posts.1)
cause_more task unmade Posted log event (inr done) = inr (old log event (drew Done) done)
cause_more task unmade Spent log event cause = old log event (drew AllDrawn) cause
cause_more task unmade NoRoom log event cause = old log event (claimed Full) cause
cause_more task unmade TooHigh log event cause = high_more task unmade log event cause
cause_more task unmade NoMemory log event cause = tt
cause_more task unmade Stopped log event cause = old log event (polled true) cause

-- A visit that winds up has a cause.
abbrev WindsWhy : Task → (FrameView → ℕ → Type 0) → Ending → List Exchange → Type 0
WindsWhy task unmade (Winds end) log = CauseIn task unmade end log
WindsWhy task unmade (Ends left) log = Unit {0}

-- It still has behind one more event.
why_more : (task : Task) (unmade : FrameView → ℕ → Type 0) (ended : Ending) (log : List Exchange) (event : Exchange) → WindsWhy task unmade ended log
    → WindsWhy task unmade ended (log ++ event ∷ [])
why_more task unmade (Winds end) log event why = cause_more task unmade end log event why
why_more task unmade (Ends left) log event why = tt

-- A note isn't made for a cause: room for it was claimed, and it would have been too high.
refusal_cause : (task : Task) (f : FrameView) (log : List Exchange) (room : ℕ) (kept : Kept) (end : WorkEnd) → Solves task f → IsRefusal task f end
    → Contains log (entered f.place kept) → CauseIn task (λ g given. IsUnmadeBy task f (Unmade room end) g given) end (log ++ claimed (Room room) ∷ [])
refusal_cause task f log room kept TooHigh solves refusal there = record {
  solved = f;
  room = room;
  is_unmade = (refl, refl);
  solves = solves;
  rule = rule_at (node_in task f) f.children;
  by = refl;
  under = notes_under (node_in task f) f.children;
  made_of = refl;
  too_high = refusal;
  kept = kept;
  enters = old log (claimed (Room room)) (entered f.place kept) there;
  claims = last log (claimed (Room room));
}
refusal_cause task f log room kept NoMemory solves refusal there = tt
refusal_cause task f log room kept Posted solves refusal there = absurd refusal
refusal_cause task f log room kept Spent solves refusal there = absurd refusal
refusal_cause task f log room kept NoRoom solves refusal there = absurd refusal
refusal_cause task f log room kept Stopped solves refusal there = absurd refusal

-- The cause stands in the log behind the visit.
mutual
  visit_why : (task : Task) (path : List Key) (log : List Exchange) (p : Place) (visit : Visit) → IsVisit task path p visit
      → WindsWhy task (λ f room. IsUnmadeIn task p visit f room) (ending task p visit) (visit_on task log p visit)
  visit_why task path log p Unpolled is = tt
  visit_why task path log p Halted is = last log (polled true)
  visit_why task path log p Undrawn is = tt
  visit_why task path log p (Refused (Go number)) is = absurd is
  visit_why task path log p (Refused Done) is = inr (last (log ++ polled false ∷ []) (drew Done))
  visit_why task path log p (Refused AllDrawn) is = last (log ++ polled false ∷ []) (drew AllDrawn)
  visit_why task path log p (Unentered number) is = tt
  visit_why task path log p (Unlisted number kept) is = tt
  visit_why task path log p (Visited number kept children doings tail) is =
      let f : FrameView = opened p kept children in
      let same : (known_after task f doings).place ≡ p = place_after task f doings in
      tail_why task (path_at task p path) (doings_on task (entered_on log number p kept) f doings) (known_after task f doings) kept tail is.2
      (subst (λ (q : Place). Contains (doings_on task (entered_on log number p kept) f doings) (entered q kept)) (sym same)
      (doings_hold task (entered_on log number p kept) f doings (entered p kept) (last (drawn_on log number) (entered p kept))))

  tail_why : (task : Task) (path : List Key) (log : List Exchange) (f : FrameView) (kept : Kept) (tail : Tail) → IsTail task path f tail
      → Contains log (entered f.place kept) → WindsWhy task (λ g room. IsUnmadeBy task f tail g room) (tail_ending task f tail) (tail_on task log f tail)
  tail_why task path log f kept Cut is there = tt
  tail_why task path log f kept (Blind place child) is there = tt
  tail_why task path log f kept (Uncarried place child note) is there = tt
  tail_why task path log f kept Unclaimed is there = old (log ++ claimed Full ∷ []) (leave f Nothing) (claimed Full) (last log (claimed Full))
  tail_why task path log f kept (Unmade room end) is there =
      cause_more task (λ g given. IsUnmadeBy task f (Unmade room end) g given) end (log ++ claimed (Room room) ∷ []) (leave f Nothing)
      (refusal_cause task f log room kept end is.0 is.1 there)
  tail_why task path log f kept (Made room note) is there = tt
  tail_why task path log f kept Passed is there = tt
  tail_why task path log f kept (Under choice visit) is there =
      why_more task (λ g room. IsUnmadeIn task (child_place task f choice) visit g room) (ending task (child_place task f choice) visit)
      (visit_on task log (child_place task f choice) visit) (leave f Nothing)
      (visit_why task path log (child_place task f choice) visit is.1)

-- 3. WHOLE LOGS.

-- The cause of a visit of the problem's position is that of its log.
root_cause : (task : Task) (visit : Visit) (end : WorkEnd) (log : List Exchange) → IsVisit task [] (root task) visit
    → visit_on task [] (root task) visit ≡ log → CauseIn task (λ f room. IsUnmadeIn task (root task) visit f room) end log → HasCause task end log
root_cause task visit Posted log is writes why = why
root_cause task visit Spent log is writes why = why
root_cause task visit NoRoom log is writes why = why
root_cause task visit TooHigh log is writes why = record { visit = visit; is_visit = is; writes = writes; note = why }
root_cause task visit NoMemory log is writes why = why
root_cause task visit Stopped log is writes why = why

-- So does that of the end of a log that is made of it.
log_cause : (task : Task) (visit : Visit) (ended : Ending) (written log : List Exchange) (end : WorkEnd) → IsVisit task [] (root task) visit
    → visit_on task [] (root task) visit ≡ written → WindsWhy task (λ f room. IsUnmadeIn task (root task) visit f room) ended written
    → EndsLog ended written log end → HasCause task end log
log_cause task visit (Winds reason) written log end is writes why (same, inl e) =
    subst (λ (z : List Exchange). HasCause task end z) (sym same)
    (subst (λ (z : WorkEnd). HasCause task z written) (sym e) (root_cause task visit reason written is writes why))
log_cause task visit (Winds reason) written log end is writes why (same, inr e) = subst (λ (z : WorkEnd). HasCause task z log) (sym e) tt
log_cause task visit (Ends (Solved note)) written log end is writes why (inl (same, e)) =
    subst (λ (z : WorkEnd). HasCause task z log) (sym e)
    (inl (note, subst (λ (z : List Exchange). Contains z (Post note, Some PostedIt)) (sym same) (last written (Post note, Some PostedIt))))
log_cause task visit (Ends (Solved note)) written log end is writes why (inr (same, e)) = subst (λ (z : WorkEnd). HasCause task z log) (sym e) tt
log_cause task visit (Ends (Open numbers)) written log end is writes why ends = absurd ends

-- Each end of a visit log has its cause.
pub ends_caused : EndsHaveCauses
ends_caused task log end whole =
    log_cause task whole.visit (ending task (root task) whole.visit) (visit_on task [] (root task) whole.visit) log end whole.is_visit refl
    (visit_why task [] [] (root task) whole.visit whole.is_visit) whole.ends
