-- When a worker winds up: behind the word that it is to stop, or that a note is posted, and from
-- then on.
use Rattle.std.proofs.Common.{◌≡◌, ◌⊎◌, inl, inr, List, [], ◌∷◌, ◌++◌, ap, ◌∙◌, sym, subst, Bool, true, false}
use Rattle.std.specs.Prelude.{Option, Some, None, IsSome}
use Rattle.std.proofs.lemmas.List.Elements.{Contains-push, Contains-push_cases, Contains-append_left}
use Rattle.std.proofs.lemmas.Bool.{false≢true}
use Rattle.notes.specs.Derivation.{Derivation}
use Rattle.notes.specs.declared.words.Draw.TheVariants.{Go, Done, Spent as AllDrawn}
use Rattle.visit_log.specs.declared.words.Reply.TheVariants.{Poll as Polled, Draw as Drew, Claim as Claimed, Look as Looked, Enter as Entered, Leave as LeftIt, Post as PostedIt}
use Rattle.visit_log.specs.declared.parts.Stage.{Stage}
use Rattle.visit_log.specs.declared.parts.Stage.TheVariants.{Polling, Drawing, Entering, Looking, Claiming, Leaving, Posting, Winding}
use Rattle.visit_log.specs.declared.words.WorkEnd.{WorkEnd}
use Rattle.visit_log.specs.declared.words.WorkEnd.TheVariants.{Posted, Stopped}
use Rattle.visit_log.specs.Frame.{Task, FrameView}
use Rattle.visit_log.specs.Machine.{State, LeadsAt, asks_at, end_at, path_of}
use Rattle.visit_log.specs.Run.{WorkerView, IsLooking}
use Rattle.visit_log.specs.Visit.{Exchange}
use Rattle.worker_core.specs.Machine.{is_poll}
use Rattle.worker_core.specs.Port.{Goes}
use Rattle.worker_core.proofs.Offered.{winds_on as still_winds}
use Rattle.lone_port.specs.Lone.{LonePortView, Turns, opened}
use Rattle.search_pool.specs.Inside.{says_stop, says_posted, WasSaid, IsWindingUp}
use Rattle.search_pool.proofs.Desk.{posted_by, posted_stays}

-- 1. WHERE ONE ANSWER LEADS.

told_stop : (task : Task) (s : State) (stage : Stage) (t : State) → LeadsAt task s stage (Polled true) t → t.stage ≡ Winding Stopped
told_stop task s (Polling entry) t h = ap (λ (z : State). z.stage) h
told_stop task s (Drawing entry) t h = absurd h
told_stop task s Entering t h = absurd h
told_stop task s (Looking place) t h = absurd h
told_stop task s Claiming t h = absurd h
told_stop task s (Leaving left) t h = absurd h
told_stop task s (Posting posted) t h = absurd h
told_stop task s (Winding end) t h = absurd h

told_done : (task : Task) (s : State) (stage : Stage) (t : State) → LeadsAt task s stage (Drew Done) t → t.stage ≡ Winding Posted
told_done task s (Polling entry) t h = absurd h
told_done task s (Drawing entry) t h = ap (λ (z : State). z.stage) h
told_done task s Entering t h = absurd h
told_done task s (Looking place) t h = absurd h
told_done task s Claiming t h = absurd h
told_done task s (Leaving left) t h = absurd h
told_done task s (Posting posted) t h = absurd h
told_done task s (Winding end) t h = absurd h

told_posted : (task : Task) (s : State) (stage : Stage) (t : State) → LeadsAt task s stage PostedIt t → t.stage ≡ Winding Posted
told_posted task s (Polling entry) t h = absurd h
told_posted task s (Drawing entry) t h = absurd h
told_posted task s Entering t h = absurd h
told_posted task s (Looking place) t h = absurd h
told_posted task s Claiming t h = absurd h
told_posted task s (Leaving left) t h = absurd h
told_posted task s (Posting posted) t h = ap (λ (z : State). z.stage) h
told_posted task s (Winding end) t h = absurd h

-- That the worker is to stop leads to its winding up.
pub winds_stopped : (task : Task) (s t : State) (x : Exchange) → Goes task s x t → says_stop x ≡ true → t.stage ≡ Winding Stopped
winds_stopped task s t (q, None) g e = absurd (false≢true e)
winds_stopped task s t (q, Some (Polled true)) g e = told_stop task s s.stage t g.2
winds_stopped task s t (q, Some (Polled false)) g e = absurd (false≢true e)
winds_stopped task s t (q, Some (Drew draw)) g e = absurd (false≢true e)
winds_stopped task s t (q, Some (Claimed claim)) g e = absurd (false≢true e)
winds_stopped task s t (q, Some (Looked seen)) g e = absurd (false≢true e)
winds_stopped task s t (q, Some (Entered kept)) g e = absurd (false≢true e)
winds_stopped task s t (q, Some LeftIt) g e = absurd (false≢true e)
winds_stopped task s t (q, Some PostedIt) g e = absurd (false≢true e)

-- So does that a note is posted.
winds_posted : (task : Task) (s t : State) (x : Exchange) → Goes task s x t → says_posted x ≡ true → t.stage ≡ Winding Posted
winds_posted task s t (q, None) g e = absurd (false≢true e)
winds_posted task s t (q, Some (Polled stop)) g e = absurd (false≢true e)
winds_posted task s t (q, Some (Drew (Go number))) g e = absurd (false≢true e)
winds_posted task s t (q, Some (Drew Done)) g e = told_done task s s.stage t g.2
winds_posted task s t (q, Some (Drew AllDrawn)) g e = absurd (false≢true e)
winds_posted task s t (q, Some (Claimed claim)) g e = absurd (false≢true e)
winds_posted task s t (q, Some (Looked seen)) g e = absurd (false≢true e)
winds_posted task s t (q, Some (Entered kept)) g e = absurd (false≢true e)
winds_posted task s t (q, Some LeftIt) g e = absurd (false≢true e)
winds_posted task s t (q, Some PostedIt) g e = told_posted task s s.stage t g.2

pub stays_winding : (task : Task) (s t : State) (x : Exchange) (end : WorkEnd) → Goes task s x t → s.stage ≡ Winding end → t.stage ≡ Winding end
stays_winding task s t (q, None) end g w = absurd (subst IsLooking w g.1)
stays_winding task s t (q, Some a) end g w = still_winds task s end a t (subst (λ (stage : Stage). LeadsAt task s stage a t) w g.2)

-- It polls no more.
pub not_polling : (stage : Stage) (frames : List FrameView) (end : WorkEnd) → stage ≡ Winding end → is_poll (asks_at stage frames) ≡ true → ⊥
not_polling stage [] end w polls = absurd (false≢true (subst (λ (z : Stage). is_poll (asks_at z []) ≡ true) w polls))
not_polling stage (f ∷ fs) end w polls = absurd (false≢true (subst (λ (z : Stage). is_poll (asks_at z (f ∷ fs)) ≡ true) w polls))

-- It ends for what it winds up for.
pub ends_so : (stage : Stage) (frames : List FrameView) (end told : WorkEnd) → stage ≡ Winding end → end_at stage frames ≡ Some told → told ≡ end
ends_so stage [] end told w e = (let k : Some end ≡ Some told = subst (λ (z : Stage). end_at z [] ≡ Some told) w e in cc)
ends_so stage (f ∷ fs) end told w e = (let k : None ≡ Some told = subst (λ (z : Stage). end_at z (f ∷ fs) ≡ Some told) w e in absurd (cc))

-- 2. BEHIND A REQUEST.

pub said_on : (says : Exchange → Bool) (log : List Exchange) (x : Exchange) → WasSaid says log → WasSaid says (log ++ x ∷ [])
said_on says log x w = (w.0, Contains-append_left log (x ∷ []) w.0 w.1, w.2)

pub said_now : (says : Exchange → Bool) (log : List Exchange) (x : Exchange) → says x ≡ true → WasSaid says (log ++ x ∷ [])
said_now says log x e = (x, Contains-push log x, e)

winds_on : (says : Exchange → Bool) (end : WorkEnd) (task : Task) (s t : State) (log : List Exchange) (x : Exchange) → Goes task s x t
    → (says x ≡ true → t.stage ≡ Winding end) → (WasSaid says log → s.stage ≡ Winding end) → WasSaid says (log ++ x ∷ []) → t.stage ≡ Winding end
winds_on says end task s t log x g now before w =
    elim (Contains-push_cases log x w.0 w.1) as (λ _. t.stage ≡ Winding end) [
      | inl there ↦ stays_winding task s t x end g (before (w.0, there, w.2))
      | inr e ↦ now (ap says e ∙ w.2)
    ]

-- What a worker winds up for, behind a request.
pub winding_on : (first : LonePortView) (log : List Exchange) (x : Exchange) (port next : LonePortView) (stops : Bool) (worker later : WorkerView) → IsWindingUp first log port worker
    → Goes worker.task worker.state x later.state → Turns (opened port stops) (path_of worker.task worker.state.frames) x.0 x.1 next
    → IsWindingUp first (log ++ x ∷ []) next later
winding_on first log x port next stops worker later before goes turns = record {
  stopped = winds_on says_stop Stopped worker.task worker.state later.state log x goes (winds_stopped worker.task worker.state later.state x goes) before.stopped;
  posted = winds_on says_posted Posted worker.task worker.state later.state log x goes (winds_posted worker.task worker.state later.state x goes) before.posted;
  is_said = λ some. elim (posted_by x port next stops (path_of worker.task worker.state.frames) turns some) as (λ _. WasSaid says_posted (log ++ x ∷ []) ⊎ IsSome first.desk.posted) [
    | inl there ↦ elim (before.is_said there) as (λ _. WasSaid says_posted (log ++ x ∷ []) ⊎ IsSome first.desk.posted) [
      | inl said ↦ inl (said_on says_posted log x said)
      | inr known ↦ inr known
    ]
    | inr e ↦ inl (said_now says_posted log x e)
  ];
  still = λ some. (
      let so = before.still some in
      posted_stays x port next stops (path_of worker.task worker.state.frames) turns (subst IsSome (sym so) some) ∙ so);
}

-- Where nothing is posted, no note is.
pub none_posted : {A : Type 0} (posted : Option Derivation) → posted ≡ None → IsSome posted → A
none_posted None is some = absurd (cc)
none_posted (Some note) is some = absurd (cc)
