-- Visits that go on: what is done in each of them, which of them wait for another's end, and how
-- they wind up.
use Rattle.std.proofs.Common.{◌≡◌, List, [], ◌∷◌, ◌++◌, refl, sym, ap, ap₂, ◌∙◌, subst, ℕ, true, append_assoc, append-nil}
use Rattle.std.specs.Prelude.{Option, Some, is_some, map}
use Rattle.board_core.specs.declared.keys.Key.{Key}
use Rattle.notes.specs.declared.words.Kept.{Kept}
use Rattle.notes.specs.declared.words.Update.TheVariants.{Nothing}
use Rattle.visit_log.specs.declared.parts.Child.{Child}
use Rattle.visit_log.specs.declared.words.WorkEnd.{WorkEnd}
use Rattle.visit_log.specs.Frame.{Task, attacker_in, Place, FrameView, root, begun, opened, choose}
use Rattle.visit_log.specs.Children.{AreChildren}
use Rattle.visit_log.specs.Round.{Choice, GoesDown, child_place}
use Rattle.visit_log.specs.Visit.{Exchange, Visit, Visited, Doings, nothing_yet, and_look, and_visit, Tail, Under, Ending, Winds, Ends, ending, after_child, known_after, tail_ending, leave, entered_on, visit_on, doings_on, tail_on, EndsWinding, path_at, IsVisit, AreDone, IsTail}
use Rattle.visit_log.specs.Machine.{path_of, bare, entered_ones}

-- 1. WHAT IS DONE SO FAR.

-- A visit in its middle, with its log: it began behind a log for which B holds, and these things
-- were done in it.
pub record Amid (B : List Exchange → Type 0) (task : Task) (p : Place) (path : List Key) (f : FrameView) (log : List Exchange) : Type 0 where
  pub before : List Exchange
  pub below : B before
  pub number : ℕ
  pub kept : Kept
  pub children : List Child
  pub doings : Doings
  pub listed : AreChildren (attacker_in task) p.position (path_at task p path) children
  pub done : AreDone task (path_at task p path) (opened p kept children) doings
  pub is : f ≡ known_after task (opened p kept children) doings
  pub log_is : log ≡ doings_on task (entered_on before number p kept) (opened p kept children) doings

-- The visits that wait for that of a place, the innermost first, with the log before it begins.
abbrev pub Below : Task → List FrameView → Place → List Exchange → Type 0
Below task [] p log = (p ≡ root task) × (log ≡ [])
Below task (f ∷ fs) p log =
    (g : FrameView) × (choice : Choice) × Amid (Below task fs f.place) task f.place (path_of task fs) g log × GoesDown task g choice
    × (p ≡ child_place task g choice) × (f ≡ choose g choice.place)

-- The innermost visit in its middle, over those that wait for it.
abbrev pub Here : Task → FrameView → List FrameView → List Exchange → Type 0
Here task f fs log = Amid (Below task fs f.place) task f.place (path_of task fs) f log

-- Some visit of the place ended so, and this is the log behind it.
pub record Over (task : Task) (path : List Key) (p : Place) (before : List Exchange) (ended : Ending) (log : List Exchange) : Type 0 where
  pub visit : Visit
  pub is : IsVisit task path p visit
  pub end : ending task p visit ≡ ended
  pub log_is : visit_on task before p visit ≡ log

-- A visit in its middle that goes on by this tail is over.
pub over_by : (B : List Exchange → Type 0) (task : Task) (p : Place) (path : List Key) (f : FrameView) (log : List Exchange)
    → (a : Amid B task p path f log) (tail : Tail) → IsTail task (path_at task p path) f tail
    → Over task path p a.before (tail_ending task f tail) (tail_on task log f tail)
over_by B task p path f log a tail is = record {
  visit = Visited a.number a.kept a.children a.doings tail;
  is = (a.listed, a.done, subst (λ (g : FrameView). IsTail task (path_at task p path) g tail) a.is is);
  end = ap (λ (g : FrameView). tail_ending task g tail) (sym a.is);
  log_is = ap₂ (λ (events : List Exchange) (g : FrameView). tail_on task events g tail) (sym a.log_is) (sym a.is);
}

-- How it ended, and its log, may be said in other words.
pub over_as : (task : Task) (path : List Key) (p : Place) (before : List Exchange) (ended as_said : Ending) (log written : List Exchange)
    → Over task path p before ended log → ended ≡ as_said → log ≡ written → Over task path p before as_said written
over_as task path p before ended as_said log written over e l = record {
  visit = over.visit;
  is = over.is;
  end = over.end ∙ e;
  log_is = over.log_is ∙ l;
}

-- Over nothing it is the visit of the problem's position.
pub over_root : (task : Task) (p : Place) (before : List Exchange) (ended : Ending) (log : List Exchange) → Below task [] p before
    → Over task [] p before ended log → Over task [] (root task) [] ended log
over_root task p before ended log below over = record {
  visit = over.visit;
  is = subst (λ (q : Place). IsVisit task [] q over.visit) below.0 over.is;
  end = ap (λ (q : Place). ending task q over.visit) (sym below.0) ∙ over.end;
  log_is = ap₂ (λ (events : List Exchange) (q : Place). visit_on task events q over.visit) (sym below.1) (sym below.0) ∙ over.log_is;
}

-- 2. WINDING UP.

-- What visits that wind up still write.
abbrev pub leaves : List FrameView → List Exchange
leaves [] = []
leaves (f ∷ fs) = leave f Nothing ∷ leaves fs

-- Where a visit over these winds up, the visit of the problem's position does, once they are left.
pub close : (task : Task) (fs : List FrameView) (p : Place) (before log : List Exchange) (end : WorkEnd) → Below task fs p before
    → Over task (path_of task fs) p before (Winds end) log → Over task [] (root task) [] (Winds end) (log ++ leaves fs)
close task [] p before log end below over =
    over_as task [] (root task) [] (Winds end) (Winds end) log (log ++ []) (over_root task p before (Winds end) log below over) refl (sym (append-nil log))
close task (f ∷ fs) p before log end (g, choice, a, goes, at, is) over =
    let path : List Key = path_of task (f ∷ fs) in
    let q : Place = child_place task g choice in
    let ends : ending task q over.visit ≡ Winds end = subst (λ (z : Place). ending task z over.visit ≡ Winds end) at over.end in
    let visit : IsVisit task path q over.visit = subst (λ (z : Place). IsVisit task path z over.visit) at over.is in
    let v = over_by (Below task fs f.place) task f.place (path_of task fs) g before a (Under choice over.visit)
    (goes, visit, subst EndsWinding (sym ends) tt) in
    let above : List Exchange = visit_on task before q over.visit ++ leave g Nothing ∷ [] in
    let with_leave : List Exchange = log ++ leave f Nothing ∷ [] in
    let written : visit_on task before q over.visit ≡ log = ap (λ (z : Place). visit_on task before z over.visit) (sym at) ∙ over.log_is in
    let left : above ≡ with_leave =
    ap₂ (λ (events : List Exchange) (h : FrameView). events ++ leave h Nothing ∷ []) written (sym is) in
    let u = close task fs f.place a.before with_leave end a.below
    (over_as task (path_of task fs) f.place a.before (ending task q over.visit) (Winds end) above with_leave v ends left) in
    over_as task [] (root task) [] (Winds end) (Winds end) (with_leave ++ leaves fs) (log ++ leaves (f ∷ fs)) u refl
    (append_assoc log (leave f Nothing ∷ []) (leaves fs))

-- What entering was answered stays known behind a child's visit.
kept_after_child : (f : FrameView) (choice : Choice) (ended : Ending) → (after_child f choice ended).kept ≡ f.kept
kept_after_child f choice (Winds end) = refl
kept_after_child f choice (Ends left) = refl

-- What entering was answered stays known.
pub kept_after : (task : Task) (f : FrameView) (doings : Doings) → (known_after task f doings).kept ≡ f.kept
kept_after task f nothing_yet = refl
kept_after task f (and_look doings sight) = kept_after task f doings
kept_after task f (and_visit doings choice visit) =
    let g : FrameView = known_after task f doings in
    kept_after_child g choice (ending task (child_place task g choice) visit) ∙ kept_after task f doings

-- A visit in its middle has entered its position.
pub amid_kept : (B : List Exchange → Type 0) (task : Task) (p : Place) (path : List Key) (f : FrameView) (log : List Exchange)
    → (a : Amid B task p path f log) → f.kept ≡ Some a.kept
amid_kept B task p path f log a = ap (λ (g : FrameView). g.kept) a.is ∙ kept_after task (opened p a.kept a.children) a.doings

-- Of a visit that winds up what it still writes is known.
leaves_bare : (fs : List FrameView) → leaves (map bare fs) ≡ leaves fs
leaves_bare [] = refl
leaves_bare (f ∷ fs) = ap (λ (events : List Exchange). leave f Nothing ∷ events) (leaves_bare fs)

-- A visit that has entered its position leaves it.
leaves_kept : (f : FrameView) (fs : List FrameView) (kept : Kept) → f.kept ≡ Some kept → leaves (entered_ones (f ∷ fs)) ≡ leave f Nothing ∷ leaves fs
leaves_kept f fs kept e =
    let there : is_some f.kept ≡ true = ap (λ (z : Option Kept). is_some z) e in
    rw there (ap (λ (events : List Exchange). leave f Nothing ∷ events) (leaves_bare fs))

-- A visit in its middle, and those that wait for it, are all left, when they wind up.
pub leaves_here : (task : Task) (f : FrameView) (fs : List FrameView) (log : List Exchange) → Here task f fs log
    → leaves (entered_ones (f ∷ fs)) ≡ leave f Nothing ∷ leaves fs
leaves_here task f fs log a = leaves_kept f fs a.kept (amid_kept (Below task fs f.place) task f.place (path_of task fs) f log a)

-- So are those that wait, where the innermost is still to begin.
pub leaves_below : (task : Task) (fs : List FrameView) (p : Place) (log : List Exchange) → Below task fs p log → leaves (entered_ones fs) ≡ leaves fs
leaves_below task [] p log below = refl
leaves_below task (f ∷ fs) p log (g, choice, a, goes, at, is) =
    leaves_kept f fs a.kept (ap (λ (h : FrameView). h.kept) is ∙ amid_kept (Below task fs f.place) task f.place (path_of task fs) g log a)

-- And where it was drawn, and hasn't entered its position.
pub leaves_begun : (p : Place) (fs : List FrameView) → leaves (entered_ones (begun p ∷ fs)) ≡ leaves fs
leaves_begun p fs = leaves_bare fs

-- And where its successors aren't listed.
pub leaves_unlisted : (p : Place) (kept : Kept) (fs : List FrameView) → leaves (entered_ones (opened p kept [] ∷ fs)) ≡ leave (opened p kept []) Nothing ∷ leaves fs
leaves_unlisted p kept fs = leaves_kept (opened p kept []) fs kept refl
