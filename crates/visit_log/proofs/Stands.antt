-- Where a worker stands after a log: for each stage, which visits go on, and what was done in each.
-- So its log is the beginning of a visit log.
use Rattle.std.proofs.Common.{◌≡◌, ◌≤◌, ◌+◌, ◌⊎◌, inl, inr, List, [], ◌∷◌, ◌++◌, arith, refl, sym, ap, ap₂, ◌∙◌, subst, ℕ, true, false, append_assoc, append-nil}
use Rattle.std.specs.Prelude.{Bool, if◌then◌else◌, Option, Some, None, slice_get}
use Rattle.board_core.specs.declared.moves.Move.{Move}
use Rattle.pn_numbers.specs.declared.node.Node.{Node}
use Rattle.pn_numbers.specs.declared.node.Node.TheVariants.{Attacker, Defender}
use Rattle.board_core.specs.declared.keys.Key.{Key}
use Rattle.notes.specs.declared.rule.Rule.{Rule}
use Rattle.notes.specs.declared.rule.Rule.TheVariants.{EscapeBy, EscapeRepeat}
use Rattle.notes.specs.Derivation.{Derivation, derived, height_by, highest, listed}
use Rattle.notes.specs.declared.words.Draw.{Draw}
use Rattle.notes.specs.declared.words.Draw.TheVariants.{Go, Done, Spent as AllDrawn}
use Rattle.notes.specs.declared.words.RoomAnswer.TheVariants.{Room, NoRoom as Full}
use Rattle.notes.specs.declared.words.Kept.{Kept}
use Rattle.notes.specs.declared.words.Seen.{Seen}
use Rattle.notes.specs.declared.words.Seen.TheVariants.{Lent}
use Rattle.notes.specs.declared.words.Update.TheVariants.{Numbers as Count, Note as Noted, Nothing}
use Rattle.pn_numbers.specs.declared.numbers.Numbers.{Numbers}
use Rattle.visit_log.specs.declared.parts.Child.{Child}
use Rattle.visit_log.specs.declared.parts.Entry.{Entry}
use Rattle.visit_log.specs.declared.parts.Left.{Left}
use Rattle.visit_log.specs.declared.parts.Left.TheVariants.{Solved, Open}
use Rattle.visit_log.specs.declared.parts.Stage.{Stage}
use Rattle.visit_log.specs.declared.parts.Stage.TheVariants.{Polling, Drawing, Entering, Looking, Claiming, Leaving, Posting, Winding}
use Rattle.visit_log.specs.declared.words.WorkEnd.{WorkEnd}
use Rattle.visit_log.specs.declared.words.WorkEnd.TheVariants.{Posted, Spent, NoRoom, NoMemory, Stopped}
use Rattle.visit_log.specs.declared.words.Request.{Request}
use Rattle.visit_log.specs.declared.words.Request.TheVariants.{Post}
use Rattle.visit_log.specs.declared.words.Reply.{Reply}
use Rattle.visit_log.specs.declared.words.Reply.TheVariants.{Poll as Polled, Draw as Drew, Claim as Claimed, Look as Looked, Enter as Entered, Leave as LeftIt, Post as PostedIt}
use Rattle.visit_log.specs.Frame.{Task, attacker_in, Place, FrameView, root, begun, opened, choose}
use Rattle.visit_log.specs.Children.{deciding, notes_under, rule_with}
use Rattle.visit_log.specs.Round.{node_in, own, Solves, GivesUp, LooksNext, GoesDown, child_place, Sight, looked, IsMade, MayShow, Tells, IsSight, came_back}
use Rattle.visit_log.specs.Visit.{Exchange, Visit, Unpolled, Halted, Undrawn, Refused, Unentered, Unlisted, nothing_yet, and_look, and_visit, Tail, Cut, Blind, Uncarried, Unclaimed, Unmade, Made, Passed, Ending, Winds, Ends, ending, after_child, known_after, polled, drew, entered, claimed, leave, drawn_on, entered_on, visit_on, tail_on, doings_on, tail_ending, EndsOpen, IsVisit, IsTail, EndsLog, IsVisitLog}
use Rattle.visit_log.specs.Machine.{State, at_stage, one_visit, one_claim, MayShowAt, Begins, path_of, place_by, start, entered_ones, wind, starve, starve_at, starve_winding, Settles, GoesOn, IsLending, Opens, Makes, Returns, LeadsAt, FitsAt, keep, asks, asks_at, ask_look, update_by, end_at}
use Rattle.visit_log.specs.Run.{Happening, Told, Dark, Starved, IsLooking, Happens, Runs, event, events, IsBegunLog}
use Rattle.visit_log.specs.Laws.{LogsBegin, LogsAreWhole}
use Rattle.visit_log.proofs.Waiting.{Below, Here, Over, over_by, over_as, over_root, leaves, close, leaves_here, leaves_below, leaves_begun, leaves_unlisted}

-- 1. WHERE IT STANDS.

-- A worker that winds up: once all is left, it is the log of a visit of the problem's position that
-- winds up.
abbrev pub WindsUp : Task → WorkEnd → List FrameView → List Exchange → Type 0
WindsUp task end fs log = (reason : WorkEnd) × ((end ≡ reason) ⊎ (end ≡ NoMemory)) × Over task [] (root task) [] (Winds reason) (log ++ leaves fs)

-- By its stage: which visits go on, and how the log came about.
abbrev pub StandsAt : Task → Stage → List FrameView → List Exchange → Type 0
StandsAt task (Polling entry) fs log = Below task fs (place_by task fs entry) log
StandsAt task (Drawing entry) fs log = (before : List Exchange) × Below task fs (place_by task fs entry) before × (log ≡ before ++ polled false ∷ [])
StandsAt task Entering [] log = ⊥
StandsAt task Entering (f ∷ fs) log =
    (before : List Exchange) × (number : ℕ) × Below task fs f.place before × (f ≡ begun f.place) × (log ≡ drawn_on before number)
StandsAt task (Looking place) [] log = ⊥
StandsAt task (Looking place) (f ∷ fs) log = Here task f fs log × ((child : Child) × LooksNext task f place child)
StandsAt task Claiming [] log = ⊥
StandsAt task Claiming (f ∷ fs) log = Here task f fs log × Solves task f
StandsAt task (Leaving left) [] log = ⊥
StandsAt task (Leaving (Open numbers)) (f ∷ fs) log = Here task f fs log × GivesUp task f × (numbers ≡ own task f)
StandsAt task (Leaving (Solved note)) (f ∷ fs) log =
    (before : List Exchange) × (room : ℕ) × Here task f fs before × Solves task f × IsMade task f note × (log ≡ before ++ claimed (Room room) ∷ [])
StandsAt task (Posting None) fs log = ⊥
StandsAt task (Posting (Some note)) [] log = Over task [] (root task) [] (Ends (Solved note)) log
StandsAt task (Posting (Some note)) (f ∷ fs) log = ⊥
StandsAt task (Winding end) [] log = IsVisitLog task log end
StandsAt task (Winding end) (f ∷ fs) log = WindsUp task end (f ∷ fs) log

-- The worker stands in the state after the log.
abbrev pub Stands : Task → State → List Exchange → Type 0
Stands task s log = StandsAt task s.stage s.frames log

-- 2. WINDING UP.

-- A worker that winds up and has left everything has ended.
winding : (task : Task) (end : WorkEnd) (fs : List FrameView) (log : List Exchange) → WindsUp task end fs log → StandsAt task (Winding end) fs log
winding task end [] log (reason, ends, over) = record {
  visit = over.visit;
  is_visit = over.is;
  ends = subst (λ (z : Ending). EndsLog z (visit_on task [] (root task) over.visit) log end) (sym over.end) (sym (append-nil log) ∙ sym over.log_is, ends);
}
winding task end (f ∷ fs) log w = w

-- A visit over these winds up, and these are still to be left.
wound : (task : Task) (fs : List FrameView) (p : Place) (before log : List Exchange) (end : WorkEnd) → Below task fs p before
    → Over task (path_of task fs) p before (Winds end) log → (gs : List FrameView) (written : List Exchange) → log ++ leaves fs ≡ written ++ leaves gs
    → StandsAt task (Winding end) gs written
wound task fs p before log end below over gs written same =
    winding task end gs written
    (end, inl refl, over_as task [] (root task) [] (Winds end) (Winds end) (log ++ leaves fs) (written ++ leaves gs) (close task fs p before log end below over) refl same)

-- A visit that has entered nothing winds up.
wound_early : (task : Task) (fs : List FrameView) (p : Place) (before : List Exchange) (end : WorkEnd) (visit : Visit) → Below task fs p before
    → IsVisit task (path_of task fs) p visit → ending task p visit ≡ Winds end → StandsAt task (Winding end) (entered_ones fs) (visit_on task before p visit)
wound_early task fs p before end visit below is ends =
    wound task fs p before (visit_on task before p visit) end below (record { visit = visit; is = is; end = ends; log_is = refl }) (entered_ones fs)
    (visit_on task before p visit) (ap (λ (more : List Exchange). visit_on task before p visit ++ more) (sym (leaves_below task fs p before below)))

-- The visit in its middle winds up by this tail, which leaves its position in the end.
cut_with : (task : Task) (f : FrameView) (fs : List FrameView) (log : List Exchange) (end : WorkEnd) (tail : Tail) (written : List Exchange) → Here task f fs log
    → IsTail task (path_of task (f ∷ fs)) f tail → tail_ending task f tail ≡ Winds end → tail_on task log f tail ≡ written ++ leave f Nothing ∷ []
    → StandsAt task (Winding end) (entered_ones (f ∷ fs)) written
cut_with task f fs log end tail written a is ends writes =
    let over = over_by (Below task fs f.place) task f.place (path_of task fs) f log a tail is in
    let with_leave : List Exchange = written ++ leave f Nothing ∷ [] in
    wound task fs f.place a.before with_leave end a.below
    (over_as task (path_of task fs) f.place a.before (tail_ending task f tail) (Winds end) (tail_on task log f tail) with_leave over ends writes)
    (entered_ones (f ∷ fs)) written
    (append_assoc written (leave f Nothing ∷ []) (leaves fs) ∙ ap (λ (more : List Exchange). written ++ more) (sym (leaves_here task f fs log a)))

-- It is cut off.
cut_here : (task : Task) (f : FrameView) (fs : List FrameView) (log : List Exchange) → Here task f fs log
    → StandsAt task (Winding NoMemory) (entered_ones (f ∷ fs)) log
cut_here task f fs log a = cut_with task f fs log NoMemory Cut log a tt refl refl

-- 3. WHAT IT DOES NEXT.

-- What the innermost visit does next, as it stands now.
settled : (task : Task) (stage : Stage) (f next : FrameView) (fs : List FrameView) (log : List Exchange) → Here task f fs log → Settles task f stage next
    → StandsAt task stage (next ∷ fs) log
settled task (Looking place) f next fs log here (looks, same) = subst (λ (g : FrameView). StandsAt task (Looking place) (g ∷ fs) log) (sym same) (here, looks)
settled task Claiming f next fs log here (solves, same) = subst (λ (g : FrameView). StandsAt task Claiming (g ∷ fs) log) (sym same) (here, solves)
settled task (Leaving (Open numbers)) f next fs log here (gives, is, same) =
    subst (λ (g : FrameView). StandsAt task (Leaving (Open numbers)) (g ∷ fs) log) (sym same) (here, gives, is)
settled task (Polling entry) f next fs log here (choice, goes, is, same) =
    subst (λ (g : FrameView). Below task (g ∷ fs) (place_by task (g ∷ fs) entry) log) (sym same)
    (subst (λ (e : Entry). Below task (choose f choice.place ∷ fs) (place_by task (choose f choice.place ∷ fs) e) log) (sym is)
    (f, choice, here, goes, refl, refl))
settled task stage f next fs log here s = absurd s

-- The innermost visit goes on.
goes_on : (task : Task) (s : State) (f : FrameView) (fs : List FrameView) (t : State) (log : List Exchange) → Here task f fs log → GoesOn task s f fs t
    → Stands task t log
goes_on task s f fs t log here on =
    subst (λ (gs : List FrameView). StandsAt task t.stage gs log) (sym (ap (λ (z : State). z.frames) on.is)) (settled task t.stage f on.next fs log here on.settles)

-- The visit of a child that the innermost one waited for has left its position.
comes_back : (task : Task) (g : FrameView) (gs : List FrameView) (p : Place) (before : List Exchange) (left : Left) (child : Child) (log : List Exchange)
    → Below task (g ∷ gs) p before → Over task (path_of task (g ∷ gs)) p before (Ends left) log → slice_get g.children g.chosen ≡ Some child
    → Here task (came_back g g.chosen child left) gs log
comes_back task g gs p before left child log (h, choice, a, goes, at, is) over there =
    let path : List Key = path_of task (g ∷ gs) in
    let v : Visit = over.visit in
    let q : Place = child_place task h choice in
    let now : FrameView = known_after task (opened g.place a.kept a.children) a.doings in
    let so_far : List Exchange = doings_on task (entered_on a.before a.number g.place a.kept) (opened g.place a.kept a.children) a.doings in
    let visit : IsVisit task path q v = subst (λ (z : Place). IsVisit task path z v) at over.is in
    let ends : ending task q v ≡ Ends left = subst (λ (z : Place). ending task z v ≡ Ends left) at over.end in
    let next = subst (λ (z : FrameView). GoesDown task z choice × IsVisit task path (child_place task z choice) v × EndsOpen (ending task (child_place task z choice) v))
    a.is (goes, visit, subst EndsOpen (sym ends) tt) in
    let chosen : slice_get h.children choice.place ≡ Some child = subst (λ (z : FrameView). slice_get z.children z.chosen ≡ Some child) is there in
    let both : Some child ≡ Some choice.child = sym chosen ∙ goes.there in
    let same : child ≡ choice.child = cc in
    record {
      before = a.before;
      below = a.below;
      number = a.number;
      kept = a.kept;
      children = a.children;
      doings = and_visit a.doings choice v;
      listed = a.listed;
      done = (a.done, next.0, next.1, next.2);
      is = ap₂ (λ (z : FrameView) (one : Child). came_back z z.chosen one left) is same
          ∙ (ap (λ (ended : Ending). after_child h choice ended) (sym ends) ∙ ap (λ (z : FrameView). after_child z choice (ending task (child_place task z choice) v)) a.is);
      log_is = sym over.log_is
          ∙ (ap₂ (λ (events : List Exchange) (z : Place). visit_on task events z v) a.log_is at
          ∙ ap (λ (z : FrameView). visit_on task so_far (child_place task z choice) v) a.is);
    }

-- One more look.
looks_on : (task : Task) (f : FrameView) (fs : List FrameView) (place : ℕ) (seen : Seen) (log : List Exchange) (sight : Sight) → Here task f fs log
    → ((child : Child) × LooksNext task f place child) → MayShowAt task (f ∷ fs) place seen → sight.place ≡ place → sight.seen ≡ seen
    → slice_get f.children place ≡ Some sight.child → Tells (attacker_in task) f.place.position sight.child.by seen sight.start
    → Here task (looked task f sight) fs (log ++ (ask_look (slice_get f.children place), Some (Looked seen)) ∷ [])
looks_on task f fs place seen log sight a (child, looks) may at told there tells =
    let path : List Key = path_of task (f ∷ fs) in
    let both : Some child ≡ Some sight.child = sym looks.there ∙ there in
    let same : child ≡ sight.child = cc in
    let next : LooksNext task f sight.place sight.child =
    subst (λ (z : ℕ). LooksNext task f z sight.child) (sym at) (subst (λ (one : Child). LooksNext task f place one) same looks) in
    let is : IsSight task path f sight = record {
      next = next;
      may = subst (λ (z : Seen). MayShow (attacker_in task) sight.child.key path z) (sym told) (may sight.child there);
      tells = subst (λ (z : Seen). Tells (attacker_in task) f.place.position sight.child.by z sight.start) (sym told) tells;
    } in
    record {
      before = a.before;
      below = a.below;
      number = a.number;
      kept = a.kept;
      children = a.children;
      doings = and_look a.doings sight;
      listed = a.listed;
      done = (a.done, subst (λ (z : FrameView). IsSight task path z sight) a.is is);
      is = ap (λ (z : FrameView). looked task z sight) a.is;
      log_is = ap₂ (λ (events : List Exchange) (e : Exchange). events ++ e ∷ []) a.log_is
          (ap₂ (λ (one : Option Child) (z : Seen). (ask_look one, Some (Looked z))) there (sym told));
    }

-- A note is lent that there is no memory to carry.
uncarried : (task : Task) (f : FrameView) (fs : List FrameView) (place : ℕ) (seen : Seen) (log : List Exchange) → Here task f fs log
    → ((child : Child) × LooksNext task f place child) → MayShowAt task (f ∷ fs) place seen → IsLending seen
    → StandsAt task (Winding NoMemory) (entered_ones (f ∷ fs)) (log ++ (ask_look (slice_get f.children place), Some (Looked seen)) ∷ [])
uncarried task f fs place (Lent note) log here (child, looks) may lent =
    let written : List Exchange = log ++ (ask_look (slice_get f.children place), Some (Looked (Lent note))) ∷ [] in
    cut_with task f fs log NoMemory (Uncarried place child note) written here (looks, may child looks.there) refl
    (ap (λ (one : Option Child). (log ++ (ask_look one, Some (Looked (Lent note))) ∷ []) ++ leave f Nothing ∷ []) (sym looks.there))
uncarried task f fs place seen log here looks may lent = absurd lent

-- 4. WHERE AN ANSWER LEADS.

-- A state by its fields.
abbrev the_state : Stage → List FrameView → ℕ → ℕ → State
the_state stage fs visits claims = record { stage = stage; frames = fs; visits = visits; claims = claims }

-- A state is another.
as_state : (task : Task) (s t : State) (log : List Exchange) → t ≡ s → Stands task s log → Stands task t log
as_state task s t log e h = subst (λ (z : State). Stands task z log) (sym e) h

-- A log is another.
as_log : (task : Task) (s : State) (log written : List Exchange) → log ≡ written → Stands task s log → Stands task s written
as_log task s log written e h = subst (λ (z : List Exchange). Stands task s z) e h

-- A visit is drawn: the visit begins, or there is no memory for it.
begins : (task : Task) (s t : State) (entry : Entry) (number : ℕ) (log : List Exchange) → StandsAt task (Drawing entry) s.frames log → Begins task s entry t
    → Stands task t (log ++ drew (Go number) ∷ [])
begins task s t entry number log (before, below, same) (inl (played, is)) =
    as_state task (at_stage (one_visit s) Entering (begun (place_by task s.frames entry) ∷ s.frames)) t (log ++ drew (Go number) ∷ []) is
    (before, number, below, refl, ap (λ (z : List Exchange). z ++ drew (Go number) ∷ []) same)
begins task s t entry number log (before, below, same) (inr is) =
    as_state task (wind (one_visit s) NoMemory) t (log ++ drew (Go number) ∷ []) is
    (as_log task (wind (one_visit s) NoMemory) (drawn_on before number) (log ++ drew (Go number) ∷ []) (ap (λ (z : List Exchange). z ++ drew (Go number) ∷ []) (sym same))
    (wound_early task s.frames (place_by task s.frames entry) before NoMemory (Unentered number) below tt refl))

-- No visit is drawn.
refused : (task : Task) (s t : State) (entry : Entry) (draw : Draw) (end : WorkEnd) (log : List Exchange) → StandsAt task (Drawing entry) s.frames log
    → IsVisit task (path_of task s.frames) (place_by task s.frames entry) (Refused draw)
    → ending task (place_by task s.frames entry) (Refused draw) ≡ Winds end → t ≡ wind s end → Stands task t (log ++ drew draw ∷ [])
refused task s t entry draw end log (before, below, same) visit ends is =
    as_state task (wind s end) t (log ++ drew draw ∷ []) is
    (as_log task (wind s end) ((before ++ polled false ∷ []) ++ drew draw ∷ []) (log ++ drew draw ∷ []) (ap (λ (z : List Exchange). z ++ drew draw ∷ []) (sym same))
    (wound_early task s.frames (place_by task s.frames entry) before end (Refused draw) below visit ends))

-- The innermost position is entered: its successors are listed, or there is no memory for them.
opens : (task : Task) (s t : State) (f : FrameView) (fs : List FrameView) (kept : Kept) (log : List Exchange) → StandsAt task Entering (f ∷ fs) log
    → Opens task s (f ∷ fs) kept t → Stands task t (log ++ entered f.place kept ∷ [])
opens task s t f fs kept log (before, number, below, is, same) (inl (children, listed, on)) =
    goes_on task s (opened f.place kept children) fs t (log ++ entered f.place kept ∷ []) (record {
      before = before;
      below = below;
      number = number;
      kept = kept;
      children = children;
      doings = nothing_yet;
      listed = listed;
      done = tt;
      is = refl;
      log_is = ap (λ (z : List Exchange). z ++ entered f.place kept ∷ []) same;
    }) on
opens task s t f fs kept log (before, number, below, is, same) (inr winds) =
    let one : List Exchange = leave (opened f.place kept []) Nothing ∷ [] in
    let behind : List Exchange = entered_on before number f.place kept in
    as_state task (wind (at_stage s Entering (keep f kept ∷ fs)) NoMemory) t (log ++ entered f.place kept ∷ []) winds
    (wound task fs f.place before (behind ++ one) NoMemory below (record { visit = Unlisted number kept; is = tt; end = refl; log_is = refl })
    (entered_ones (keep f kept ∷ fs)) (log ++ entered f.place kept ∷ [])
    (append_assoc behind one (leaves fs)
    ∙ ap₂ (λ (z more : List Exchange). (z ++ entered f.place kept ∷ []) ++ more) (sym same) (sym (leaves_unlisted f.place kept fs))))

-- Room was claimed: the note is made, or it isn't.
makes : (task : Task) (s t : State) (f : FrameView) (fs : List FrameView) (room : ℕ) (log : List Exchange) → s.frames ≡ f ∷ fs → StandsAt task Claiming (f ∷ fs) log
    → Makes task s (f ∷ fs) t → Stands task t (log ++ claimed (Room room) ∷ [])
makes task s t f fs room log there (here, solves) (inl (note, made, is)) =
    as_state task (at_stage (one_claim s) (Leaving (Solved note)) s.frames) t (log ++ claimed (Room room) ∷ []) is
    (rw there (log, room, here, solves, made, refl))
makes task s t f fs room log there (here, solves) (inr (end, refusal, is)) =
    as_state task (wind (one_claim s) end) t (log ++ claimed (Room room) ∷ []) is
    (rw there (cut_with task f fs log end (Unmade room end) (log ++ claimed (Room room) ∷ []) here (solves, refusal) refl refl))

-- The innermost position was left, solved, and nothing waits for it.
left_last : (task : Task) (s t : State) (f : FrameView) (note : Derivation) (before log : List Exchange) → Below task [] f.place before
    → Over task [] f.place before (Ends (Solved note)) log → Returns task s [] (Solved note) t → Stands task t log
left_last task s t f note before log below over is =
    as_state task (at_stage s (Posting (Some note)) []) t log is (over_root task f.place before (Ends (Solved note)) log below over)

-- The innermost position was left, and this visit has waited for it.
left_next : (task : Task) (s t : State) (g : FrameView) (gs : List FrameView) (p : Place) (left : Left) (before log : List Exchange) → Below task (g ∷ gs) p before
    → Over task (path_of task (g ∷ gs)) p before (Ends left) log → Returns task s (g ∷ gs) left t → Stands task t log
left_next task s t g gs p left before log below over (child, there, on) =
    goes_on task s (came_back g g.chosen child left) gs t log (comes_back task g gs p before left child log below over there) on

-- The innermost position was left, solved.
left_solved : (task : Task) (s t : State) (f : FrameView) (fs : List FrameView) (note : Derivation) (before log : List Exchange) → Below task fs f.place before
    → Over task (path_of task fs) f.place before (Ends (Solved note)) log → Returns task s fs (Solved note) t → Stands task t log
left_solved task s t f [] note before log below over returns = left_last task s t f note before log below over returns
left_solved task s t f (g ∷ gs) note before log below over returns = left_next task s t g gs f.place (Solved note) before log below over returns

-- The innermost position was left with its numbers: so another visit has waited for it.
left_open : (task : Task) (s t : State) (f : FrameView) (fs : List FrameView) (numbers : Numbers) (before log : List Exchange) → Below task fs f.place before
    → Over task (path_of task fs) f.place before (Ends (Open numbers)) log → Returns task s fs (Open numbers) t → Stands task t log
left_open task s t f [] numbers before log below over returns = absurd returns
left_open task s t f (g ∷ gs) numbers before log below over returns = left_next task s t g gs f.place (Open numbers) before log below over returns

-- The innermost position is left.
leaves_it : (task : Task) (s t : State) (f : FrameView) (fs : List FrameView) (left : Left) (log : List Exchange) → StandsAt task (Leaving left) (f ∷ fs) log
    → Returns task s fs left t → Stands task t (log ++ leave f (update_by left) ∷ [])
leaves_it task s t f fs (Solved note) log (before, room, here, solves, made, same) returns =
    let written : List Exchange = (before ++ claimed (Room room) ∷ []) ++ leave f (Noted note) ∷ [] in
    let now : List Exchange = log ++ leave f (Noted note) ∷ [] in
    let e : written ≡ now = ap (λ (z : List Exchange). z ++ leave f (Noted note) ∷ []) (sym same) in
    left_solved task s t f fs note here.before now here.below
    (over_as task (path_of task fs) f.place here.before (Ends (Solved note)) (Ends (Solved note)) written now
    (over_by (Below task fs f.place) task f.place (path_of task fs) f before here (Made room note) (solves, made)) refl e) returns
leaves_it task s t f fs (Open numbers) log (here, gives, same) returns =
    let written : List Exchange = log ++ leave f (Count (own task f)) ∷ [] in
    let now : List Exchange = log ++ leave f (Count numbers) ∷ [] in
    let e : written ≡ now = ap (λ (z : Numbers). log ++ leave f (Count z) ∷ []) (sym same) in
    left_open task s t f fs numbers here.before now here.below
    (over_as task (path_of task fs) f.place here.before (Ends (Open (own task f))) (Ends (Open numbers)) written now
    (over_by (Below task fs f.place) task f.place (path_of task fs) f log here Passed gives) (ap (λ (z : Numbers). Ends (Open z)) (sym same)) e) returns

-- The note is posted.
posted : (task : Task) (note : Derivation) (log : List Exchange) → StandsAt task (Posting (Some note)) [] log
    → StandsAt task (Winding Posted) [] (log ++ (Post note, Some PostedIt) ∷ [])
posted task note log over = record {
  visit = over.visit;
  is_visit = over.is;
  ends = subst (λ (z : Ending). EndsLog z (visit_on task [] (root task) over.visit) (log ++ (Post note, Some PostedIt) ∷ []) Posted) (sym over.end)
      (inl (ap (λ (z : List Exchange). z ++ (Post note, Some PostedIt) ∷ []) (sym over.log_is), refl));
}

-- The innermost position is left in winding up.
unwinds : (task : Task) (end : WorkEnd) (f : FrameView) (fs : List FrameView) (log : List Exchange) → WindsUp task end (f ∷ fs) log
    → StandsAt task (Winding end) fs (log ++ leave f Nothing ∷ [])
unwinds task end f fs log (reason, ends, over) =
    winding task end fs (log ++ leave f Nothing ∷ []) (
      reason,
      ends,
      over_as task [] (root task) [] (Winds reason) (Winds reason) (log ++ leaves (f ∷ fs)) ((log ++ leave f Nothing ∷ []) ++ leaves fs) over refl
          (sym (append_assoc log (leave f Nothing ∷ []) (leaves fs))),
    )

-- An answer comes.
told_of : (task : Task) (stage : Stage) (fs : List FrameView) (visits claims : ℕ) (answer : Reply) (t : State) (log : List Exchange) → StandsAt task stage fs log
    → FitsAt task (the_state stage fs visits claims) stage answer → LeadsAt task (the_state stage fs visits claims) stage answer t
    → Stands task t (log ++ (asks_at stage fs, Some answer) ∷ [])
told_of task (Polling entry) fs visits claims (Polled true) t log h fits leads =
    as_state task (wind (the_state (Polling entry) fs visits claims) Stopped) t (log ++ polled true ∷ []) leads
    (wound_early task fs (place_by task fs entry) log Stopped Halted h tt refl)
told_of task (Polling entry) fs visits claims (Polled false) t log h fits leads =
    as_state task (at_stage (the_state (Polling entry) fs visits claims) (Drawing entry) fs) t (log ++ polled false ∷ []) leads (log, h, refl)
told_of task (Drawing entry) fs visits claims (Drew (Go number)) t log h fits leads = begins task (the_state (Drawing entry) fs visits claims) t entry number log h leads
told_of task (Drawing entry) fs visits claims (Drew Done) t log h fits leads =
    refused task (the_state (Drawing entry) fs visits claims) t entry Done Posted log h tt refl leads
told_of task (Drawing entry) fs visits claims (Drew AllDrawn) t log h fits leads =
    refused task (the_state (Drawing entry) fs visits claims) t entry AllDrawn Spent log h tt refl leads
told_of task Entering [] visits claims (Entered kept) t log h fits leads = absurd h
told_of task Entering (f ∷ fs) visits claims (Entered kept) t log h fits leads = opens task (the_state Entering (f ∷ fs) visits claims) t f fs kept log h leads
told_of task (Looking place) [] visits claims (Looked seen) t log h fits leads = absurd h
told_of task (Looking place) (f ∷ fs) visits claims (Looked seen) t log (here, looks) fits (inr (lent, lost)) =
    as_state task (wind (the_state (Looking place) (f ∷ fs) visits claims) NoMemory) t (log ++ (ask_look (slice_get f.children place), Some (Looked seen)) ∷ []) lost
    (uncarried task f fs place seen log here looks fits lent)
told_of task (Looking place) (f ∷ fs) visits claims (Looked seen) t log (here, looks) fits (inl (sight, at, told, there, tells, on)) =
    goes_on task (the_state (Looking place) (f ∷ fs) visits claims) (looked task f sight) fs t (log ++ (ask_look (slice_get f.children place), Some (Looked seen)) ∷ [])
    (looks_on task f fs place seen log sight here looks fits at told there tells) on
told_of task Claiming [] visits claims (Claimed claim) t log h fits leads = absurd h
told_of task Claiming (f ∷ fs) visits claims (Claimed Full) t log (here, solves) fits leads =
    as_state task (wind (the_state Claiming (f ∷ fs) visits claims) NoRoom) t (log ++ claimed Full ∷ []) leads
    (cut_with task f fs log NoRoom Unclaimed (log ++ claimed Full ∷ []) here solves refl refl)
told_of task Claiming (f ∷ fs) visits claims (Claimed (Room room)) t log h fits leads =
    makes task (the_state Claiming (f ∷ fs) visits claims) t f fs room log refl h leads
told_of task (Leaving left) [] visits claims LeftIt t log h fits leads = absurd h
told_of task (Leaving left) (f ∷ fs) visits claims LeftIt t log h fits leads = leaves_it task (the_state (Leaving left) (f ∷ fs) visits claims) t f fs left log h leads
told_of task (Posting None) fs visits claims PostedIt t log h fits leads = absurd h
told_of task (Posting (Some note)) (f ∷ fs) visits claims PostedIt t log h fits leads = absurd h
told_of task (Posting (Some note)) [] visits claims PostedIt t log h fits leads =
    as_state task (wind (the_state (Posting (Some note)) [] visits claims) Posted) t (log ++ (Post note, Some PostedIt) ∷ []) leads (posted task note log h)
told_of task (Winding end) [] visits claims LeftIt t log h fits leads = absurd fits
told_of task (Winding end) (f ∷ fs) visits claims LeftIt t log h fits leads =
    as_state task (at_stage (the_state (Winding end) (f ∷ fs) visits claims) (Winding end) fs) t (log ++ leave f Nothing ∷ []) leads (unwinds task end f fs log h)
told_of task stage fs visits claims answer t log h fits leads = absurd fits

-- No rule of a node carries a note, so the one that is made is one higher than those that it rests
-- on.
by_child : (on_path : Bool) (by : Move) (notes : List Derivation) → height_by (if on_path then EscapeRepeat by else EscapeBy by) notes ≡ highest notes + 1
by_child true by notes = refl
by_child false by notes = refl

one_higher : (node : Node) (children : List Child) (decides : Option Child) (notes : List Derivation)
    → height_by (rule_with node children decides) notes ≡ highest notes + 1
one_higher Attacker [] None notes = refl
one_higher Attacker (child ∷ children) None notes = refl
one_higher Defender [] None notes = refl
one_higher Defender (child ∷ children) None notes = refl
one_higher Attacker children (Some child) notes = refl
one_higher Defender children (Some child) notes = by_child child.on_path child.by notes

-- A note that is made isn't too high.
pub made_low : (task : Task) (f : FrameView) (note : Derivation) → IsMade task f note → highest (notes_under (node_in task f) f.children) + 1 ≤ 4096
made_low task f (derived step notes) made =
    let valid = made.valid.1 in
    let same = ap highest made.under in
    let node = node_in task f in
    let higher = ap (λ (rule : Rule). height_by rule (listed notes)) made.rule ∙ one_higher node f.children (deciding node f.children) (listed notes) in
    omega (arith, valid.height, higher, valid.low, same)

-- It is starved.
starving : (task : Task) (stage : Stage) (fs : List FrameView) (visits claims : ℕ) (log : List Exchange) → StandsAt task stage fs log
    → Stands task (starve_at (the_state stage fs visits claims) stage) log
starving task (Polling entry) fs visits claims log h = wound_early task fs (place_by task fs entry) log NoMemory Unpolled h tt refl
starving task (Drawing entry) fs visits claims log (before, below, same) =
    subst (λ (z : List Exchange). StandsAt task (Winding NoMemory) (entered_ones fs) z) (sym same)
    (wound_early task fs (place_by task fs entry) before NoMemory Undrawn below tt refl)
starving task Entering [] visits claims log h = absurd h
starving task Entering (f ∷ fs) visits claims log (before, number, below, is, same) =
    subst (λ (z : FrameView). StandsAt task (Winding NoMemory) (entered_ones (z ∷ fs)) log) (sym is)
    (wound task fs f.place before (drawn_on before number) NoMemory below (record { visit = Unentered number; is = tt; end = refl; log_is = refl })
    (entered_ones (begun f.place ∷ fs)) log (ap₂ (λ (z more : List Exchange). z ++ more) (sym same) (sym (leaves_begun f.place fs))))
starving task (Looking place) [] visits claims log h = absurd h
starving task (Looking place) (f ∷ fs) visits claims log (here, looks) = cut_here task f fs log here
starving task Claiming [] visits claims log h = absurd h
starving task Claiming (f ∷ fs) visits claims log (here, solves) = cut_here task f fs log here
starving task (Leaving left) [] visits claims log h = absurd h
starving task (Leaving (Open numbers)) (f ∷ fs) visits claims log (here, gives, same) = cut_here task f fs log here
starving task (Leaving (Solved note)) (f ∷ fs) visits claims log (before, room, here, solves, made, same) =
    cut_with task f fs before NoMemory (Unmade room NoMemory) log here (solves, made_low task f note made) refl
    (ap (λ (z : List Exchange). z ++ leave f Nothing ∷ []) (sym same))
starving task (Posting None) fs visits claims log h = absurd h
starving task (Posting (Some note)) (f ∷ fs) visits claims log h = absurd h
starving task (Posting (Some note)) [] visits claims log over = record {
  visit = over.visit;
  is_visit = over.is;
  ends = subst (λ (z : Ending). EndsLog z (visit_on task [] (root task) over.visit) log NoMemory) (sym over.end) (inr (sym over.log_is, refl));
}
starving task (Winding end) [] visits claims log h = h
starving task (Winding end) (f ∷ fs) visits claims log (reason, ends, over) = (reason, inr refl, over)

-- A look is refused memory.
dark : (task : Task) (stage : Stage) (fs : List FrameView) (visits claims : ℕ) (log : List Exchange) → StandsAt task stage fs log → IsLooking stage
    → Stands task (starve_at (the_state stage fs visits claims) stage) (log ++ (asks_at stage fs, None) ∷ [])
dark task (Looking place) [] visits claims log h looking = absurd h
dark task (Looking place) (f ∷ fs) visits claims log (here, (child, looks)) looking =
    let written : List Exchange = log ++ (ask_look (slice_get f.children place), None) ∷ [] in
    cut_with task f fs log NoMemory (Blind place child) written here looks refl
    (ap (λ (one : Option Child). (log ++ (ask_look one, None) ∷ []) ++ leave f Nothing ∷ []) (sym looks.there))
dark task stage fs visits claims log h looking = absurd looking

-- 5. WHATEVER HAPPENS.

-- Something happens to the worker.
stands_on : (task : Task) (s : State) (happening : Happening) (t : State) (log : List Exchange) → Stands task s log → Happens task s happening t
    → Stands task t (log ++ event happening)
stands_on task s (Told request answer) t log h (is, fits, leads) =
    subst (λ (z : Request). Stands task t (log ++ (z, Some answer) ∷ [])) (sym is) (told_of task s.stage s.frames s.visits s.claims answer t log h fits leads)
stands_on task s (Dark request) t log h (is, looking, starved) =
    subst (λ (z : Request). Stands task t (log ++ (z, None) ∷ [])) (sym is)
    (as_state task (starve s) t (log ++ (asks s, None) ∷ []) starved (dark task s.stage s.frames s.visits s.claims log h looking))
stands_on task s Starved t log h starved =
    as_log task t log (log ++ []) (sym (append-nil log)) (as_state task (starve s) t log starved (starving task s.stage s.frames s.visits s.claims log h))

-- A worker that stands where it does by its log still does after all that happens.
pub stands_after : (task : Task) (happenings : List Happening) (s t : State) (log : List Exchange) → Stands task s log → Runs task s happenings t
    → Stands task t (log ++ events happenings)
stands_after task [] s t log h runs = as_log task t log (log ++ []) (sym (append-nil log)) (as_state task s t log (sym runs) h)
stands_after task (happening ∷ happenings) s t log h (u, happens, runs) =
    as_log task t ((log ++ event happening) ++ events happenings) (log ++ (event happening ++ events happenings)) (append_assoc log (event happening) (events happenings))
    (stands_after task happenings u t (log ++ event happening) (stands_on task s happening u log h happens) runs)

-- A worker that winds up is at the beginning of a visit log: what is left is to leave all
-- positions.
begun_winding : (task : Task) (end : WorkEnd) (fs : List FrameView) (log : List Exchange) → StandsAt task (Winding end) fs log → IsBegunLog task log
begun_winding task end [] log h = record { rest = []; end = end; whole = subst (λ (z : List Exchange). IsVisitLog task z end) (sym (append-nil log)) h }
begun_winding task end (f ∷ fs) log (reason, ends, over) = record {
  rest = leaves (f ∷ fs);
  end = end;
  whole = record {
    visit = over.visit;
    is_visit = over.is;
    ends = subst (λ (z : Ending). EndsLog z (visit_on task [] (root task) over.visit) (log ++ leaves (f ∷ fs)) end) (sym over.end) (sym over.log_is, ends);
  };
}

-- A worker that is starved winds up.
pub winds_starved : (s : State) (stage : Stage) → (end : WorkEnd) × ((starve_at s stage).stage ≡ Winding end)
winds_starved s (Polling entry) = (NoMemory, refl)
winds_starved s (Drawing entry) = (NoMemory, refl)
winds_starved s Entering = (NoMemory, refl)
winds_starved s (Looking place) = (NoMemory, refl)
winds_starved s Claiming = (NoMemory, refl)
winds_starved s (Leaving left) = (NoMemory, refl)
winds_starved s (Posting posted) = (NoMemory, refl)
winds_starved s (Winding end) = by_frames s.frames
  where
    by_frames : (fs : List FrameView) → (reason : WorkEnd) × ((starve_winding s end fs).stage ≡ Winding reason)
    by_frames [] = (end, refl)
    by_frames (f ∷ fs) = (NoMemory, refl)

-- Wherever a worker stands, its log is the beginning of a visit log: the one that it would write if
-- it were starved now.
begun_stands : (task : Task) (s : State) (log : List Exchange) → Stands task s log → IsBegunLog task log
begun_stands task s log h =
    let winds = winds_starved s s.stage in
    begun_winding task winds.0 (starve s).frames log
    (subst (λ (z : Stage). StandsAt task z (starve s).frames log) winds.1 (starving task s.stage s.frames s.visits s.claims log h))

-- Whatever happens to a worker, its log is the beginning of a visit log.
pub begun_log : LogsBegin
begun_log task happenings s runs = begun_stands task s (events happenings) (stands_after task happenings (start task) s [] (refl, refl) runs)

-- A worker that has ended stands at the end of a visit log.
whole_at : (task : Task) (stage : Stage) (fs : List FrameView) (end : WorkEnd) (log : List Exchange) → StandsAt task stage fs log → end_at stage fs ≡ Some end
    → IsVisitLog task log end
whole_at task (Winding reason) [] end log h ended =
    let same : reason ≡ end = cc in
    subst (λ (z : WorkEnd). IsVisitLog task log z) same h
whole_at task stage fs end log h ended = let no : None ≡ Some end = ended in absurd (cc)

-- And where it has ended, its log is a visit log.
pub whole_log : LogsAreWhole
whole_log task happenings s end runs ended = whole_at task s.stage s.frames end (events happenings) (stands_after task happenings (start task) s [] (refl, refl) runs) ended
