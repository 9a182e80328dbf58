-- What is known of a worker by the logs that lead to it.
use Rattle.std.proofs.Common.{◌≡◌, ℕ, List, [], ◌∷◌, ◌++◌, refl, sym, ap, ◌∙◌, subst, append_assoc, append-nil, Bool, true, false}
use Rattle.std.specs.Prelude.{Option, Some, None, slice_get}
use Rattle.notes.specs.Derivation.{Derivation}
use Rattle.visit_log.specs.declared.parts.Stage.{Stage}
use Rattle.visit_log.specs.declared.parts.Stage.TheVariants.{Polling, Drawing, Entering, Looking, Claiming, Leaving, Posting, Winding}
use Rattle.visit_log.specs.declared.words.Reply.{Reply}
use Rattle.visit_log.specs.declared.words.Reply.TheVariants.{Poll as Polled, Draw as Drew, Claim as Claimed, Look as Looked, Enter as Entered, Leave as LeftIt, Post as PostedIt}
use Rattle.visit_log.specs.declared.words.WorkEnd.{WorkEnd}
use Rattle.visit_log.specs.Frame.{Task, FrameView}
use Rattle.visit_log.specs.Visit.{Exchange, IsVisitLog}
use Rattle.visit_log.specs.declared.parts.Child.{Child}
use Rattle.visit_log.specs.Machine.{State, start, asks, asks_at, ask_look, asked, asked_at, starve, end_of, Fits, LeadsTo}
use Rattle.visit_log.specs.Run.{Happening, Told, Dark, Starved, Happens, Runs, event, events, Leads, WorkerView, now_at, IsReached, IsBegunLog, IsLooking}
use Rattle.visit_log.specs.Sound.{IsTask, IsSound, IsSoundAt}
use Rattle.worker_core.specs.Machine.{IsCopy, is_poll, polls_at}
use Rattle.visit_log.specs.Laws.{LogsBegin, LogsAreWhole, WorkersAreSound, WorkersAreCounted, IsCounted}

runs_snoc : (task : Task) (happenings : List Happening) (s t u : State) (h : Happening) → Runs task s happenings t → Happens task t h u
    → Runs task s (happenings ++ h ∷ []) u
runs_snoc task [] s t u h runs happens = (u, subst (λ (z : State). Happens task z h u) (sym runs) happens, refl)
runs_snoc task (x ∷ xs) s t u h runs happens = (runs.0, runs.1, runs_snoc task xs runs.0 t u h runs.2 happens)

pub events_snoc : (happenings : List Happening) (h : Happening) → events (happenings ++ h ∷ []) ≡ events happenings ++ event h
events_snoc [] h = append-nil (event h)
events_snoc (x ∷ xs) h = ap (λ (z : List Exchange). event x ++ z) (events_snoc xs h) ∙ sym (append_assoc (event x) (events xs) (event h))

-- One thing more happens.
pub leads_on : (task : Task) (log : List Exchange) (s u : State) (h : Happening) → Leads task log s → Happens task s h u → Leads task (log ++ event h) u
leads_on task log s u h leads happens = record {
  happenings = leads.happenings ++ h ∷ [];
  runs = runs_snoc task leads.happenings (start task) s u h leads.runs happens;
  logged = events_snoc leads.happenings h ∙ ap (λ (z : List Exchange). z ++ event h) leads.logged;
}

-- That it was asked changes nothing that an answer sees.
leads_by : (task : Task) (st : Stage) (fs : List FrameView) (v c : ℕ) (a : Reply) (t : State)
    → LeadsTo task (asked (record { stage = st; frames = fs; visits = v; claims = c })) a t → LeadsTo task (record { stage = st; frames = fs; visits = v; claims = c }) a t
leads_by task (Polling e) fs v c a t h = h
leads_by task (Drawing e) fs v c a t h = h
leads_by task Entering fs v c a t h = h
leads_by task (Looking place) fs v c a t h = h
leads_by task Claiming fs v c a t h = h
leads_by task (Leaving left) fs v c a t h = h
leads_by task (Winding end) fs v c a t h = h
leads_by task (Posting posted) fs v c (Polled stop) t h = h
leads_by task (Posting posted) fs v c (Drew draw) t h = h
leads_by task (Posting posted) fs v c (Claimed claim) t h = h
leads_by task (Posting posted) fs v c (Looked seen) t h = h
leads_by task (Posting posted) fs v c (Entered kept) t h = h
leads_by task (Posting posted) fs v c LeftIt t h = h
leads_by task (Posting posted) fs v c PostedIt t h = h

leads_asked : (task : Task) (s : State) (a : Reply) (t : State) → LeadsTo task (asked s) a t → LeadsTo task s a t
leads_asked task s a t h = leads_by task s.stage s.frames s.visits s.claims a t h

fits_by : (task : Task) (st : Stage) (fs : List FrameView) (v c : ℕ) (a : Reply)
    → Fits task (asked (record { stage = st; frames = fs; visits = v; claims = c })) a → Fits task (record { stage = st; frames = fs; visits = v; claims = c }) a
fits_by task (Polling e) fs v c a h = h
fits_by task (Drawing e) fs v c a h = h
fits_by task Entering fs v c a h = h
fits_by task (Looking place) fs v c a h = h
fits_by task Claiming fs v c a h = h
fits_by task (Leaving left) fs v c a h = h
fits_by task (Winding end) fs v c a h = h
fits_by task (Posting posted) fs v c (Polled stop) h = h
fits_by task (Posting posted) fs v c (Drew draw) h = h
fits_by task (Posting posted) fs v c (Claimed claim) h = h
fits_by task (Posting posted) fs v c (Looked seen) h = h
fits_by task (Posting posted) fs v c (Entered kept) h = h
fits_by task (Posting posted) fs v c LeftIt h = h
fits_by task (Posting posted) fs v c PostedIt h = h

-- So an answer to what was asked happens to whoever asked it.
pub told_happens : (task : Task) (s m u : State) (a : Reply) → m ≡ asked s → Fits task m a → LeadsTo task m a u → Happens task s (Told (asks s) a) u
told_happens task s m u a is fits to =
    (refl, fits_by task s.stage s.frames s.visits s.claims a (subst (λ (z : State). Fits task z a) is fits), leads_asked task s a u (subst (λ (z : State). LeadsTo task z a u) is to))

-- And is told.
pub told_leads : (task : Task) (log : List Exchange) (s m u : State) (a : Reply) → Leads task log s → m ≡ asked s → Fits task m a → LeadsTo task m a u
    → Leads task (log ++ (asks s, Some a) ∷ []) u
told_leads task log s m u a leads is fits to =
    leads_on task log s u (Told (asks s) a) leads (told_happens task s m u a is fits to)

sound_by : (task : Task) (st : Stage) (fs : List FrameView) → IsSoundAt task st fs → IsSoundAt task (asked_at st) fs
sound_by task (Polling e) fs h = h
sound_by task (Drawing e) fs h = h
sound_by task Entering fs h = h
sound_by task (Looking place) fs h = h
sound_by task Claiming fs h = h
sound_by task (Leaving left) fs h = h
sound_by task (Winding end) fs h = h
sound_by task (Posting None) fs h = h
sound_by task (Posting (Some note)) fs h = h.0

-- A worker that a log leads to is sound.
pub leads_sound : (task : Task) (log : List Exchange) (s : State) → WorkersAreSound → IsTask task → Leads task log s → IsSound task s
leads_sound task log s law is leads = law task leads.happenings s is leads.runs

pub reached_sound : (task : Task) (log : List Exchange) (s m : State) (waiting : Bool) → WorkersAreSound → IsTask task → Leads task log s
    → m ≡ now_at waiting s → IsSound task m
reached_sound task log s m true law is leads now = subst (IsSound task) (sym now) (sound_by task s.stage s.frames (leads_sound task log s law is leads))
reached_sound task log s m false law is leads now = subst (IsSound task) (sym now) (leads_sound task log s law is leads)

starved_by : (st : Stage) (fs : List FrameView) (v c : ℕ) → starve (asked (record { stage = st; frames = fs; visits = v; claims = c })) ≡ starve (record { stage = st; frames = fs; visits = v; claims = c })
starved_by (Polling e) fs v c = refl
starved_by (Drawing e) fs v c = refl
starved_by Entering fs v c = refl
starved_by (Looking place) fs v c = refl
starved_by Claiming fs v c = refl
starved_by (Leaving left) fs v c = refl
starved_by (Winding end) fs v c = refl
starved_by (Posting posted) fs v c = refl

-- Starving comes to the same, whether a request waits or not.
pub starve_now : (waiting : Bool) (s : State) → starve (now_at waiting s) ≡ starve s
starve_now true s = starved_by s.stage s.frames s.visits s.claims
starve_now false s = refl

-- Starving it leads by the same log to where it winds up.
pub starved_leads : (task : Task) (log : List Exchange) (s m : State) (waiting : Bool) → Leads task log s → m ≡ now_at waiting s → Leads task log (starve m)
starved_leads task log s m waiting leads now =
    subst (λ (z : List Exchange). Leads task z (starve m)) (append-nil log)
    (subst (Leads task (log ++ [])) (sym (ap starve now ∙ starve_now waiting s)) (leads_on task log s (starve s) Starved leads refl))

end_by : (st : Stage) (fs : List FrameView) (v c : ℕ) → end_of (asked (record { stage = st; frames = fs; visits = v; claims = c })) ≡ end_of (record { stage = st; frames = fs; visits = v; claims = c })
end_by (Polling e) fs v c = refl
end_by (Drawing e) fs v c = refl
end_by Entering fs v c = refl
end_by (Looking place) fs v c = refl
end_by Claiming fs v c = refl
end_by (Leaving left) fs v c = refl
end_by (Winding end) fs v c = refl
end_by (Posting posted) fs v c = refl

end_now : (waiting : Bool) (s : State) → end_of (now_at waiting s) ≡ end_of s
end_now true s = end_by s.stage s.frames s.visits s.claims
end_now false s = refl

-- The log of a worker begins a visit log, and is one where it has ended.
pub begins : (w : WorkerView) (log : List Exchange) → LogsBegin → IsReached w log → IsBegunLog w.task log
begins w log law reached =
    subst (IsBegunLog w.task) reached.leads.logged (law w.task reached.leads.happenings reached.state reached.leads.runs)

pub is_whole : (w : WorkerView) (log : List Exchange) (end : WorkEnd) → LogsAreWhole → IsReached w log → end_of w.state ≡ Some end → IsVisitLog w.task log end
is_whole w log end law reached ended =
    subst (λ (z : List Exchange). IsVisitLog w.task z end) reached.leads.logged
    (law w.task reached.leads.happenings reached.state end reached.leads.runs (sym (end_now w.waiting reached.state) ∙ (ap end_of (sym reached.now) ∙ ended)))

pub whole_by : (task : Task) (log : List Exchange) (s : State) (end : WorkEnd) → LogsAreWhole → Leads task log s → end_of s ≡ Some end → IsVisitLog task log end
whole_by task log s end law leads ended = subst (λ (z : List Exchange). IsVisitLog task z end) leads.logged (law task leads.happenings s end leads.runs ended)

counted_now : (waiting : Bool) (s : State) → IsCounted s → IsCounted (now_at waiting s)
counted_now true s is = record { slots = is.slots; frames = is.frames; claims = is.claims; most = is.most }
counted_now false s is = is

pub is_counted : (w : WorkerView) (log : List Exchange) → WorkersAreCounted → IsReached w log → IsCounted w.state
is_counted w log law reached =
    subst IsCounted (sym reached.now) (counted_now w.waiting reached.state (law w.task reached.leads.happenings reached.state reached.leads.runs))

-- A worker that has just been made.
pub fresh : (task : Task) → IsReached (record { task = task; state = start task; waiting = false }) []
fresh task = record { state = start task; leads = record { happenings = []; runs = refl; logged = refl }; now = refl }

-- A look that is refused memory stands in the log.
pub dark_leads : (task : Task) (log : List Exchange) (s m : State) → Leads task log s → m ≡ asked s → IsLooking s.stage
    → Leads task (log ++ (asks s, None) ∷ []) (starve m)
dark_leads task log s m leads is looking =
    subst (Leads task (log ++ (asks s, None) ∷ [])) (sym (ap starve is ∙ starve_now true s)) (leads_on task log s (starve s) (Dark (asks s)) leads (refl, looking, refl))

-- What a worker that waits counts moves as the answer says.
pub happens_asked : (task : Task) (m u : State) (a : Reply) → Fits task m a → LeadsTo task m a u → Happens task m (Told (asks m) a) u
happens_asked task m u a fits leads = (refl, fits, leads)

-- A new request is made.
pub asked_reached : (w : WorkerView) (log : List Exchange) → w.waiting ≡ false → IsReached w log
    → IsReached (record { task = w.task; state = asked w.state; waiting = true }) log
asked_reached w log idle reached = record {
  state = reached.state;
  leads = reached.leads;
  now = ap asked (reached.now ∙ ap (λ (b : Bool). now_at b reached.state) idle);
}

-- The state of a worker that doesn't wait is where its log leaves it.
pub idle_leads : (w : WorkerView) (log : List Exchange) → w.waiting ≡ false → IsReached w log → Leads w.task log w.state
idle_leads w log idle reached =
    subst (Leads w.task log) (sym (reached.now ∙ ap (λ (b : Bool). now_at b reached.state) idle)) reached.leads

pub waits_for : (w : WorkerView) (log : List Exchange) (reached : IsReached w log) → w.waiting ≡ true → w.state ≡ asked reached.state
waits_for w log reached waits = reached.now ∙ ap (λ (b : Bool). now_at b reached.state) waits

-- A worker that winds up hands out no note.
copy_by : (st : Stage) (fs : List FrameView) (v c : ℕ) (copy : Option Derivation) → IsCopy (starve (record { stage = st; frames = fs; visits = v; claims = c })).stage copy
copy_by (Polling e) fs v c copy = tt
copy_by (Drawing e) fs v c copy = tt
copy_by Entering fs v c copy = tt
copy_by (Looking place) fs v c copy = tt
copy_by Claiming fs v c copy = tt
copy_by (Leaving left) fs v c copy = tt
copy_by (Posting posted) fs v c copy = tt
copy_by (Winding end) [] v c copy = tt
copy_by (Winding end) (f ∷ fs) v c copy = tt

pub starved_copy : (s : State) (copy : Option Derivation) → IsCopy (starve s).stage copy
starved_copy s copy = copy_by s.stage s.frames s.visits s.claims copy

look_polls : (o : Option Child) → is_poll (ask_look o) ≡ false
look_polls None = refl
look_polls (Some child) = refl

polls_by : (st : Stage) (fs : List FrameView) → polls_at st ≡ is_poll (asks_at st fs)
polls_by (Polling e) fs = refl
polls_by (Drawing e) fs = refl
polls_by Entering [] = refl
polls_by Entering (f ∷ fs) = refl
polls_by (Looking place) [] = refl
polls_by (Looking place) (f ∷ fs) = sym (look_polls (slice_get f.children place))
polls_by Claiming fs = refl
polls_by (Leaving left) [] = refl
polls_by (Leaving left) (f ∷ fs) = refl
polls_by (Posting None) fs = refl
polls_by (Posting (Some note)) fs = refl
polls_by (Winding end) [] = refl
polls_by (Winding end) (f ∷ fs) = refl

-- A worker at a stage that polls asks so.
pub polls_asks : (s : State) → polls_at s.stage ≡ is_poll (asks s)
polls_asks s = polls_by s.stage s.frames
