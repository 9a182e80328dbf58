-- How a search with one worker begins and ends.
use Rattle.std.proofs.Common.{◌≡◌, ◌⊎◌, inl, inr, ℕ, List, [], ◌∷◌, refl, sym, ap, ◌∙◌, subst, arith, Bool, true, false}
use Rattle.std.specs.Prelude.{Some, None, Result, Ok, Err, All, IsSome, IfOk}
use Rattle.std.proofs.lemmas.List.Elements.{All-nil}
use Rattle.board_core.specs.Board.{Board}
use Rattle.notes.specs.Derivation.{Derivation}
use Rattle.notes.specs.declared.words.Draw.TheVariants.{Spent as AllDrawn}
use Rattle.notes.specs.declared.words.RoomAnswer.TheVariants.{NoRoom as Full}
use Rattle.search_limits.specs.Sizes.{SettingsView}
use Rattle.search_limits.specs.declared.cause.Cause.{Cause}
use Rattle.search_limits.specs.declared.cause.Cause.TheVariants.{Expansions, Room, Height, Stopped as StoppedFirst, Entries}
use Rattle.visit_log.specs.declared.words.WorkEnd.{WorkEnd}
use Rattle.visit_log.specs.declared.words.WorkEnd.TheVariants.{Posted, Spent, NoRoom, TooHigh, Stopped}
use Rattle.visit_log.specs.declared.parts.Stage.TheVariants.{Winding}
use Rattle.visit_log.specs.Visit.{Exchange, IsVisitLog, drew, claimed, polled}
use Rattle.visit_log.specs.Frame.{Task, task_for}
use Rattle.visit_log.specs.Machine.{end_of}
use Rattle.visit_log.specs.Run.{WorkerView, Leads, IsReached, now_at}
use Rattle.visit_log.specs.Laws.{EndsHaveCauses}
use Rattle.lone_port.specs.Lone.{LonePortView, alone_at_first, worker_at_first}
use Rattle.search_gate.specs.Stop.{Signal, one_more}
use Rattle.lone_port.specs.declared.event.Event.{Event}
use Rattle.lone_port.specs.World.{World}
use Rattle.lone_port.specs.Alone.{IsOwn, IsOwnStep, RunsFrom, HasCause}
use Rattle.search_pool.specs.declared.end.SearchEnd.{SearchEnd}
use Rattle.search_pool.specs.declared.end.SearchEnd.TheVariants.{Solved, Unknown}
use Rattle.search_pool.specs.End.{IsAlone, IsAloneUntil, IsUntilFrom, IsDrawingFrom, HeedsStop}
use Rattle.search_pool.specs.Inside.{WasSaid, says_stop, says_posted, IsQuiet, IsUnderWay, IsWatched, HadAll, IsCauseOf, MayBegin, world_over}
use Rattle.search_pool.proofs.Winding.{ends_so, none_posted}

-- 1. THE BEGINNING.

nothing_said : (says : Exchange → Bool) → WasSaid says [] → ⊥
nothing_said says w = let low = w.1.1 in omega (arith, low)

at_first : (first : LonePortView) (problem : Board) (s : SettingsView) (signal : Signal) → MayBegin s first
    → IsUnderWay first problem s signal signal first (worker_at_first problem 1)
at_first first problem s signal may = record {
  schedule = [];
  log = [];
  own = All-nil IsOwn;
  plays = (refl, refl);
  leads = record { happenings = []; runs = refl; logged = refl };
  task = refl;
  idle = refl;
  desk = record {
    spent = λ w. absurd (nothing_said _ w);
    full = λ w. absurd (nothing_said _ w);
    posted = λ w. absurd (nothing_said _ w);
  };
  winding = record {
    stopped = λ w. absurd (nothing_said _ w);
    posted = λ w. absurd (nothing_said _ w);
    is_said = λ some. inr some;
    still = λ some. refl;
  };
  expansions = may.expansions;
  room = may.room;
  quiet = inl (All-nil IsOwnStep, nothing_said says_stop, refl);
  polls = refl;
  armed = refl;
  arms = refl;
  early = refl;
}

-- A search with one worker is under way before anything happens.
pub begun : (problem : Board) (s : SettingsView) (signal : Signal) (port : LonePortView) (worker : WorkerView) → MayBegin s port
    → worker ≡ worker_at_first problem 1 → IsWatched port problem s signal signal port worker
begun problem s signal port worker may ew =
    subst (IsWatched port problem s signal signal port) (sym ew) (port.going, port.stops, at_first port problem s signal may)

-- And had all that was given: nothing.
pub had_nothing : (problem : Board) (s : SettingsView) (port : LonePortView) (worker : WorkerView) → MayBegin s port
    → worker ≡ worker_at_first problem 1 → HadAll port worker
had_nothing problem s port worker may ew = subst (HadAll port) (sym ew) (may.drawn, may.claimed)

-- So may the search of a problem of which nothing is known.
pub may_alone : (problem : Board) (s : SettingsView) (port : LonePortView) → port ≡ alone_at_first problem s.expansions s.room s.rows s.lends → MayBegin s port
may_alone problem s port is =
    subst (MayBegin s) (sym is) (record { expansions = refl; room = refl; drawn = refl; claimed = refl })

-- 2. THE END.

reached : (problem : Board) (worker : WorkerView) (log : List Exchange) → worker.task ≡ task_for problem 1 → worker.waiting ≡ false → Leads (task_for problem 1) log worker.state
    → IsReached worker log
reached problem worker log task idle leads = record {
  state = worker.state;
  leads = subst (λ (t : Task). Leads t log worker.state) (sym task) leads;
  now = ap (λ (b : Bool). now_at b worker.state) (sym idle);
}

runs : (first : LonePortView) (problem : Board) (s : SettingsView) (before after : Signal) (port : LonePortView) (worker : WorkerView) (way : IsUnderWay first problem s before after port worker)
    → RunsFrom (world_over first problem) way.schedule way.log port worker
runs first problem s before after port worker way = record {
  own = way.own;
  raised = false;
  plays = way.plays;
  reached = reached problem worker way.log way.task way.idle way.leads;
}

quietly : (before after : Signal) (schedule : List Event) (log : List Exchange) → IsQuiet before after schedule log
    → All IsOwnStep schedule ⊎ (after.raised ≡ one_more before.raised)
quietly before after schedule log (inl q) = inl q.0
quietly before after schedule log (inr q) = inr q.1

-- As the world has the table and the desk.
abbrev shown : LonePortView → Bool → Bool → LonePortView
shown port its_going its_stops = record port { going = its_going; stops = its_stops }

-- With a note that is posted; and how many visits were drawn.
pub draws_solved : (first : LonePortView) (problem : Board) (s : SettingsView) (before after : Signal) (port : LonePortView) (worker : WorkerView) (end : WorkEnd) (note : Derivation)
    → IsWatched first problem s before after port worker → end_of worker.state ≡ Some end → Some note ≡ port.desk.posted
    → IsDrawingFrom (world_over first problem) s before after (Solved note) port.desk.drawn
draws_solved first problem s before after port worker end note way ended posted = (
  way.2.schedule,
  quietly before after way.2.schedule way.2.log way.2.quiet,
  record {
    log = way.2.log;
    port = shown port way.0 way.1;
    worker = worker;
    runs = runs first problem s before after (shown port way.0 way.1) worker way.2;
    ended = subst IsSome (sym ended) refl;
    outcome = sym posted;
  },
  way.2.polls,
  refl,
)

-- That is what a search until then answers.
pub undrawn : (first : World) (s : SettingsView) (before after : Signal) (end : SearchEnd) (drawn : ℕ) → IsDrawingFrom first s before after end drawn
    → IsUntilFrom first s before after end
undrawn first s before after end drawn told = (told.0, told.1, told.2, told.3)

posted_not_stopped : {A : Type 0} (worker : WorkerView) → worker.state.stage ≡ Winding Posted → worker.state.stage ≡ Winding Stopped → A
posted_not_stopped worker one two = (let e : Winding Posted ≡ Winding Stopped = sym one ∙ two in absurd (cc))

-- Then the stop signalled nothing, unless the note was posted before.
pub heeds_solved : (first : LonePortView) (problem : Board) (s : SettingsView) (before after : Signal) (port : LonePortView) (worker : WorkerView) (note : Derivation)
    → IsWatched first problem s before after port worker → Some note ≡ port.desk.posted → first.desk.posted ≡ None → HeedsStop before after (Solved note)
heeds_solved first problem s before after port worker note way posted none = by_quiet way.2.quiet
  where
    said : IsSome first.desk.posted → WasSaid says_posted way.2.log
    said some = none_posted first.desk.posted none some

    was_said : WasSaid says_posted way.2.log
    was_said = elim (way.2.winding.is_said (subst IsSome posted refl)) as (λ _. WasSaid says_posted way.2.log) [ inl w ↦ w | inr known ↦ said known ]

    by_quiet : IsQuiet before after way.2.schedule way.2.log → after.raised ≡ before.raised
    by_quiet (inl q) = q.2
    by_quiet (inr q) = posted_not_stopped worker (way.2.winding.posted was_said) (way.2.winding.stopped q.0)

-- A note that was posted before stays posted.
pub still_posted : {A : Type 0} (first : LonePortView) (problem : Board) (s : SettingsView) (before after : Signal) (port : LonePortView) (worker : WorkerView)
    → IsWatched first problem s before after port worker → IsSome first.desk.posted → port.desk.posted ≡ None → A
still_posted first problem s before after port worker way some none = none_posted first.desk.posted (sym (way.2.winding.still some) ∙ none) some

visit_log : (problem : Board) (worker : WorkerView) (log : List Exchange) (end : WorkEnd) → worker.task ≡ task_for problem 1 → worker.waiting ≡ false
    → Leads (task_for problem 1) log worker.state → end_of worker.state ≡ Some end
    → ((l : List Exchange) (e : WorkEnd) → IsReached worker l → end_of worker.state ≡ Some e → IsVisitLog worker.task l e) → IsVisitLog worker.task log end
visit_log problem worker log end task idle leads ended whole = whole log end (reached problem worker log task idle leads) ended

cause_by : (first : LonePortView) (problem : Board) (s : SettingsView) (before after : Signal) (port : LonePortView) (worker : WorkerView) (end : WorkEnd) (cause : Cause)
    → IsUnderWay first problem s before after port worker → HadAll port worker → end_of worker.state ≡ Some end → EndsHaveCauses
    → ((l : List Exchange) (e : WorkEnd) → IsReached worker l → end_of worker.state ≡ Some e → IsVisitLog worker.task l e) → IsCauseOf s end cause
    → HasCause s worker cause
cause_by first problem s before after port worker end (Expansions number) way had ended law whole is =
    let spent : end_of worker.state ≡ Some Spent = ended ∙ ap Some is.1 in
    let told = law worker.task way.log Spent (visit_log problem worker way.log Spent way.task way.idle way.leads spent whole) in
    let all = way.desk.spent (drew AllDrawn, told, refl) in
    (is.0, spent, sym had.0 ∙ (all ∙ (way.expansions ∙ sym is.0)))
cause_by first problem s before after port worker end (Room number) way had ended law whole is =
    let full : end_of worker.state ≡ Some NoRoom = ended ∙ ap Some is.1 in
    let told = law worker.task way.log NoRoom (visit_log problem worker way.log NoRoom way.task way.idle way.leads full whole) in
    let all = way.desk.full (claimed Full, told, refl) in
    (is.0, full, sym had.1 ∙ (all ∙ (way.room ∙ sym is.0)))
cause_by first problem s before after port worker end (Height number) way had ended law whole is = (is.0, ended ∙ ap Some is.1)
cause_by first problem s before after port worker end (StoppedFirst number) way had ended law whole is = (is.0, ended ∙ ap Some is.1)
cause_by first problem s before after port worker end (Entries number) way had ended law whole is = absurd is

-- Without one, for a cause.
pub draws_unknown : (first : LonePortView) (problem : Board) (s : SettingsView) (before after : Signal) (port : LonePortView) (worker : WorkerView) (end : WorkEnd) (cause : Cause) (crew : List WorkerView)
    → IsWatched first problem s before after port worker → HadAll port worker → end_of worker.state ≡ Some end → EndsHaveCauses
    → ((l : List Exchange) (e : WorkEnd) → IsReached worker l → end_of worker.state ≡ Some e → IsVisitLog worker.task l e) → IsCauseOf s end cause
    → port.desk.posted ≡ None → crew ≡ worker ∷ [] → IsDrawingFrom (world_over first problem) s before after (Unknown cause crew) port.desk.drawn
draws_unknown first problem s before after port worker end cause crew way had ended law whole is none one = (
  way.2.schedule,
  quietly before after way.2.schedule way.2.log way.2.quiet,
  record {
    log = way.2.log;
    port = shown port way.0 way.1;
    worker = worker;
    runs = runs first problem s before after (shown port way.0 way.1) worker way.2;
    ended = subst IsSome (sym ended) refl;
    outcome = (none, one, cause_by first problem s before after (shown port way.0 way.1) worker end cause way.2 had ended law whole is);
  },
  way.2.polls,
  refl,
)

not_stopped : (first : LonePortView) (problem : Board) (s : SettingsView) (before after : Signal) (port : LonePortView) (worker : WorkerView) (end : WorkEnd) → IsUnderWay first problem s before after port worker
    → end_of worker.state ≡ Some end → (end ≡ Stopped → ⊥) → after.raised ≡ before.raised
not_stopped first problem s before after port worker end way ended other = by_quiet way.quiet
  where
    by_quiet : IsQuiet before after way.schedule way.log → after.raised ≡ before.raised
    by_quiet (inl q) = q.2
    by_quiet (inr q) = absurd (other (ends_so worker.state.stage worker.state.frames Stopped end (way.winding.stopped q.0) ended))

-- That it was stopped is told exactly where a stop signalled.
pub heeds_unknown : (first : LonePortView) (problem : Board) (s : SettingsView) (before after : Signal) (port : LonePortView) (worker : WorkerView) (end : WorkEnd) (cause : Cause) (crew : List WorkerView)
    → IsWatched first problem s before after port worker → end_of worker.state ≡ Some end → EndsHaveCauses
    → ((l : List Exchange) (e : WorkEnd) → IsReached worker l → end_of worker.state ≡ Some e → IsVisitLog worker.task l e) → IsCauseOf s end cause
    → HeedsStop before after (Unknown cause crew)
heeds_unknown first problem s before after port worker end (Expansions number) crew way ended law whole is =
    not_stopped first problem s before after (shown port way.0 way.1) worker end way.2 ended (λ e. let k : Spent ≡ Stopped = sym is.1 ∙ e in absurd (cc))
heeds_unknown first problem s before after port worker end (Room number) crew way ended law whole is =
    not_stopped first problem s before after (shown port way.0 way.1) worker end way.2 ended (λ e. let k : NoRoom ≡ Stopped = sym is.1 ∙ e in absurd (cc))
heeds_unknown first problem s before after port worker end (Height number) crew way ended law whole is =
    not_stopped first problem s before after (shown port way.0 way.1) worker end way.2 ended (λ e. let k : TooHigh ≡ Stopped = sym is.1 ∙ e in absurd (cc))
heeds_unknown first problem s before after port worker end (Entries number) crew way ended law whole is = absurd is
heeds_unknown first problem s before after port worker end (StoppedFirst number) crew way ended law whole is =
    let stopped : end_of worker.state ≡ Some Stopped = ended ∙ ap Some is.1 in
    let told = law worker.task way.2.log Stopped (visit_log problem worker way.2.log Stopped way.2.task way.2.idle way.2.leads stopped whole) in
    by_quiet way.2.quiet (polled true, told, refl)
  where
    by_quiet : IsQuiet before after way.2.schedule way.2.log → WasSaid says_stop way.2.log → (after.raised ≡ one_more before.raised) × (after.last ≡ after.polls)
    by_quiet (inl q) w = absurd (q.1 w)
    by_quiet (inr q) w = (q.1, q.2)

-- 3. NO STOP.

-- What a search with a stop that signals nothing answers is what it answers alone.
pub alone_by : (problem : Board) (s : SettingsView) (before after : Signal) (end : SearchEnd) → (after.raised ≡ one_more before.raised → ⊥)
    → IsAloneUntil problem s before after end → IsAlone problem s end
alone_by problem s before after end never until = (until.0, by_schedule until.1, until.2)
  where
    by_schedule : All IsOwnStep until.0 ⊎ (after.raised ≡ one_more before.raised) → All IsOwnStep until.0
    by_schedule (inl own) = own
    by_schedule (inr rose) = absurd (never rose)

-- A count that stays nought isn't one more.
never : 0 ≡ one_more 0 → ⊥
never e = absurd (cc)

-- So with a stop that never signals.
pub alone_quietly : {E : Type 0} (result : Result SearchEnd E) (problem : Board) (s : SettingsView) (before after : Signal) → before.raised ≡ 0 → after.raised ≡ 0
    → IfOk result (IsAloneUntil problem s before after) → IfOk result (IsAlone problem s)
alone_quietly (Ok end) problem s before after one two until =
    alone_by problem s before after end (λ rose. never (sym two ∙ (rose ∙ ap one_more one))) until
alone_quietly (Err error) problem s before after one two until = tt
