-- A worker over its port.
use Rattle.std.proofs.Common.{◌≡◌, ◌⊎◌, ◌<◌, inl, inr, List, [], ◌∷◌, ◌++◌, refl, sym, ap, ◌∙◌, subst, arith, append_assoc, Bool, true, false}
use Rattle.std.specs.Prelude.{ℕ, Option, Some, length, if◌then◌else◌}
use Rattle.std.proofs.lemmas.List.{append-nil}
use Rattle.std.proofs.lemmas.List.Elements.{Contains-push_cases}
use Rattle.std.proofs.lemmas.Bool.{false≢true}
use Rattle.board_core.specs.declared.keys.Key.{Key}
use Rattle.notes.specs.declared.words.Draw.TheVariants.{Done, Spent as AllDrawn}
use Rattle.notes.specs.declared.words.RoomAnswer.TheVariants.{NoRoom as Full}
use Rattle.search_gate.specs.Polls.{IsPolled}
use Rattle.search_gate.specs.Stop.{Signal, one_more, polled}
use Rattle.visit_log.specs.declared.words.Request.{Request}
use Rattle.visit_log.specs.declared.words.Request.TheVariants.{Poll, Post}
use Rattle.visit_log.specs.declared.words.Reply.{Reply}
use Rattle.visit_log.specs.declared.words.Reply.TheVariants.{Post as PostedIt}
use Rattle.visit_log.specs.declared.parts.Stage.{Stage}
use Rattle.visit_log.specs.declared.parts.Stage.TheVariants.{Polling, Drawing, Entering, Looking, Claiming, Leaving, Posting, Winding}
use Rattle.visit_log.specs.declared.words.WorkEnd.{WorkEnd}
use Rattle.visit_log.specs.declared.words.WorkEnd.TheVariants.{Posted, Spent, NoRoom, TooHigh, NoMemory, Stopped}
use Rattle.visit_log.specs.Counts.{own_size}
use Rattle.visit_log.specs.Frame.{Task, FrameView}
use Rattle.visit_log.specs.Laws.{EndsHaveCauses}
use Rattle.visit_log.specs.Machine.{State, end_at, end_of, path_of}
use Rattle.visit_log.specs.Run.{WorkerView, Leads, now_at}
use Rattle.visit_log.specs.Visit.{Exchange, IsVisitLog, drew, claimed, polled as said_stop}
use Rattle.worker_core.specs.Machine.{is_poll}
use Rattle.worker_core.specs.Port.{Goes, Went, WentBy, KeepsOthers}
use Rattle.worker_core.proofs.Offered.{goes_asks}
use Rattle.board_core.specs.Board.{Board}
use Rattle.lone_port.specs.Lone.{worker_at_first}
use Rattle.word_desk.specs.WordDesk.{DeskSeatView}
use Rattle.table_port.specs.Port.{TablePortView, TableTurns, book_of}
use Rattle.search_pool.specs.End.{polls_after}
use Rattle.search_pool.specs.Inside.{WasSaid, says_spent, says_full, says_posted, says_stop}
use Rattle.search_pool.proofs.Offered.{not_polling, ends_so, said_on, said_now, winds_stopped, stays_winding, polls_push}
use Rattle.search_crew.specs.End.{HeedsOwn}
use Rattle.search_crew.specs.Inside.{LaneView, Shared, IsFresh, IsDone}
use Rattle.search_crew.proofs.Moves.{Moves, moves, stops}

-- 1. WHAT HOLDS ON THE WAY.

-- A stop signalled nothing, and nothing of it was said; or it signalled once, that was said, it was
-- polled no more, and the worker winds up for it.
abbrev pub IsQuiet : Signal → Signal → List Exchange → State → Type 0
IsQuiet before after log s =
    ((WasSaid says_stop log → ⊥) × (after.raised ≡ before.raised))
    ⊎ (WasSaid says_stop log × (after.raised ≡ one_more before.raised) × (after.last ≡ after.polls) × (s.stage ≡ Winding Stopped))

-- Behind a log: the seats are where they were; what was said of visits, room and a posted note, the
-- desk's seat tells; the stop was polled as often as the worker polls, and not armed.
pub record IsOnWay (first : TablePortView) (before after : Signal) (port : TablePortView) (log : List Exchange) (s : State) : Type 0 where
  pub counts : port.seat.seat.counts ≡ first.seat.seat.counts
  pub desk : port.desk.desk ≡ first.desk.desk
  pub spent : WasSaid says_spent log → 0 < port.desk.draw_ends
  pub full : WasSaid says_full log → 0 < port.desk.claim_ends
  pub posted : WasSaid says_posted log → port.desk.met ≡ true
  pub quiet : IsQuiet before after log s
  pub polls : after.polls ≡ polls_after log before.polls
  pub polled : IsPolled before after

nothing_said : (says : Exchange → Bool) → WasSaid says [] → ⊥
nothing_said says w = let low = w.1.1 in omega (arith, low)

-- Before anything was asked.
pub begun : (port : TablePortView) (signal : Signal) (s : State) → IsOnWay port signal signal port [] s
begun port signal s = record {
  counts = refl;
  desk = refl;
  spent = λ w. absurd (nothing_said says_spent w);
  full = λ w. absurd (nothing_said says_full w);
  posted = λ w. absurd (nothing_said says_posted w);
  quiet = inl (nothing_said says_stop, refl);
  polls = refl;
  polled = record { armed = refl; arms = refl; early = refl };
}

-- 2. ONE REQUEST.

-- What one request of a port does to its seats, and to its stop.
pub record IsServed (before : TablePortView) (signal : Signal) (x : Exchange) (after : TablePortView) (later : Signal) : Type 0 where
  pub moves : Moves before x after
  pub stop : ((stop : Bool) × (x.0 ≡ Poll) × (says_stop x ≡ stop) × (later ≡ polled signal stop)) ⊎ ((is_poll x.0 ≡ false) × (later ≡ signal))

-- What one request of a port does.
pub served : (before : TablePortView) (signal : Signal) (path : List Key) (q : Request) (a : Option Reply) (after : TablePortView) (later : Signal)
    → TableTurns before signal path q a after later → IsServed before signal (q, a) after later
served before signal path q a after later h = record {
  moves = moves before signal path q a after later h;
  stop = stops before signal path q a after later h;
}

by_log : (says : Exchange → Bool) (log : List Exchange) (x : Exchange) → WasSaid says (log ++ x ∷ []) → WasSaid says log ⊎ (says x ≡ true)
by_log says log x w =
    elim (Contains-push_cases log x w.0 w.1) as (λ _. WasSaid says log ⊎ (says x ≡ true)) [
      | inl there ↦ inl (w.0, there, w.2)
      | inr e ↦ inr (ap says e ∙ w.2)
    ]

quiet_on : (before mid after : Signal) (task : Task) (s t : State) (log : List Exchange) (x : Exchange) → Goes task s x t
    → ((stop : Bool) × (x.0 ≡ Poll) × (says_stop x ≡ stop) × (after ≡ polled mid stop)) ⊎ ((is_poll x.0 ≡ false) × (after ≡ mid))
    → (is_poll x.0 ≡ false → says_stop x ≡ false) → IsQuiet before mid log s → IsQuiet before after (log ++ x ∷ []) t
quiet_on before mid after task s t log x goes (inl (true, polls, says, later)) silent (inl q) =
    inr (
      said_now says_stop log x says,
      ap (λ (z : Signal). z.raised) later ∙ ap one_more q.1,
      ap (λ (z : Signal). z.last) later ∙ sym (ap (λ (z : Signal). z.polls) later),
      winds_stopped task s t x goes says,
    )
quiet_on before mid after task s t log x goes (inl (false, polls, says, later)) silent (inl q) =
    inl (
      (λ w. elim (by_log says_stop log x w) as (λ _. ⊥) [ inl there ↦ q.0 there | inr e ↦ false≢true (sym says ∙ e) ]),
      ap (λ (z : Signal). z.raised) later ∙ q.1,
    )
quiet_on before mid after task s t log x goes (inl (stop, polls, says, later)) silent (inr q) =
    absurd (not_polling s.stage s.frames Stopped q.3 (sym (ap is_poll (goes_asks task s t x goes)) ∙ ap is_poll polls))
quiet_on before mid after task s t log x goes (inr (not, later)) silent (inl q) =
    inl (
      (λ w. elim (by_log says_stop log x w) as (λ _. ⊥) [ inl there ↦ q.0 there | inr e ↦ false≢true (sym (silent not) ∙ e) ]),
      ap (λ (z : Signal). z.raised) later ∙ q.1,
    )
quiet_on before mid after task s t log x goes (inr (not, later)) silent (inr q) =
    inr (
      said_on says_stop log x q.0,
      ap (λ (z : Signal). z.raised) later ∙ q.1,
      ap (λ (z : Signal). z.last) later ∙ (q.2 ∙ sym (ap (λ (z : Signal). z.polls) later)),
      stays_winding task s t x Stopped goes q.3,
    )

-- A worker over its port goes on by one request.
on_way : (first : TablePortView) (before mid after : Signal) (port next : TablePortView) (task : Task) (s t : State) (log : List Exchange) (x : Exchange)
    → IsOnWay first before mid port log s → IsServed port mid x next after → Goes task s x t → IsOnWay first before after next (log ++ x ∷ []) t
on_way first before mid after port next task s t log x way served goes =
    let d = served.moves.desk in
    record {
      counts = served.moves.counts ∙ way.counts;
      desk = d.desk ∙ way.desk;
      spent = λ w. elim (by_log says_spent log x w) as (λ _. 0 < next.desk.draw_ends) [
        | inl there ↦ (let low = way.spent there in let more = d.draws in omega (arith, low, more))
        | inr e ↦ d.spent e
      ];
      full = λ w. elim (by_log says_full log x w) as (λ _. 0 < next.desk.claim_ends) [
        | inl there ↦ (let low = way.full there in let more = d.claims in omega (arith, low, more))
        | inr e ↦ d.full e
      ];
      posted = λ w. elim (by_log says_posted log x w) as (λ _. next.desk.met ≡ true) [ inl there ↦ d.met (way.posted there) | inr e ↦ d.posted e ];
      quiet = quiet_on before mid after task s t log x goes served.stop served.moves.silent way.quiet;
      polls = polls_on served.stop;
      polled = record {
        armed = same (λ (z : Signal). z.armed) (λ z b. refl) served.stop ∙ way.polled.armed;
        arms = same (λ (z : Signal). z.arms) (λ z b. refl) served.stop ∙ way.polled.arms;
        early = same (λ (z : Signal). z.early) (λ z b. refl) served.stop ∙ way.polled.early;
      };
    }
  where
    same : {A : Type 0} (field : Signal → A) → ((z : Signal) (b : Bool) → field (polled z b) ≡ field z) → ((stop : Bool) × (x.0 ≡ Poll) × (says_stop x ≡ stop) × (after ≡ polled mid stop)) ⊎ ((is_poll x.0 ≡ false) × (after ≡ mid)) → field after ≡ field mid
    same field kept (inl h) = ap field h.3 ∙ kept mid h.0
    same field kept (inr h) = ap field h.1

    polls_on : ((stop : Bool) × (x.0 ≡ Poll) × (says_stop x ≡ stop) × (after ≡ polled mid stop)) ⊎ ((is_poll x.0 ≡ false) × (after ≡ mid)) → after.polls ≡ polls_after (log ++ x ∷ []) before.polls
    polls_on (inl h) =
        ap (λ (z : Signal). z.polls) h.3 ∙ (ap one_more way.polls
        ∙ (ap (λ (b : Bool). if b then one_more (polls_after log before.polls) else polls_after log before.polls) (sym (ap is_poll h.1))
        ∙ sym (polls_push log x before.polls)))
    polls_on (inr h) =
        ap (λ (z : Signal). z.polls) h.1 ∙ (way.polls
        ∙ (ap (λ (b : Bool). if b then one_more (polls_after log before.polls) else polls_after log before.polls) (sym h.0)
        ∙ sym (polls_push log x before.polls)))

-- 3. ALL REQUESTS.

-- Whatever a port is beside a table's port: by its turns the worker goes on.
pub went_on : {P : Type 0} (turn : P → List Key → Request → Option Reply → P → Type 0) (port_of : P → TablePortView) (signal_of : P → Signal)
    → ((p : P) (path : List Key) (q : Request) (a : Option Reply) (r : P) → turn p path q a r → IsServed (port_of p) (signal_of p) (q, a) (port_of r) (signal_of r))
    → (first : TablePortView) (before : Signal) (task : Task) (p r : P) (s t : State) (log events : List Exchange)
    → IsOnWay first before (signal_of p) (port_of p) log s → Went turn task p s events r t
    → IsOnWay first before (signal_of r) (port_of r) (log ++ events) t
went_on {P} turn port_of signal_of serves first before task p r s t log [] way went =
    subst (λ (l : List Exchange). IsOnWay first before (signal_of r) (port_of r) l t) (sym (append-nil log))
    (subst (λ (u : State). IsOnWay first before (signal_of r) (port_of r) log u) went.1
    (subst (λ (z : P). IsOnWay first before (signal_of z) (port_of z) log s) went.0 way))
went_on turn port_of signal_of serves first before task p r s t log (x ∷ xs) way went =
    subst (λ (l : List Exchange). IsOnWay first before (signal_of r) (port_of r) l t) (append_assoc log (x ∷ []) xs)
    (went_on turn port_of signal_of serves first before task went.0 r went.1 t (log ++ x ∷ []) xs
    (on_way first before (signal_of p) (signal_of went.0) (port_of p) (port_of went.0) task s went.1 log x way (serves p (path_of task s.frames) x.0 x.1 went.0 went.2) went.3)
    went.4)

-- 4. THE END.

-- What the desk's seat tells of a worker that has ended, by the causes of ends.
pub record TellsEnd (port : TablePortView) (end : WorkEnd) : Type 0 where
  pub spent : end ≡ Spent → 0 < port.desk.draw_ends
  pub full : end ≡ NoRoom → 0 < port.desk.claim_ends
  pub posted : end ≡ Posted → port.desk.met ≡ true

pub tells_end : (first : TablePortView) (before after : Signal) (port : TablePortView) (task : Task) (log : List Exchange) (s : State) (end : WorkEnd) → EndsHaveCauses
    → IsVisitLog task log end → IsOnWay first before after port log s → TellsEnd port end
tells_end first before after port task log s end law whole way = record {
  spent = λ e. way.spent (drew AllDrawn, law task log Spent (subst (IsVisitLog task log) e whole), refl);
  full = λ e. way.full (claimed Full, law task log NoRoom (subst (IsVisitLog task log) e whole), refl);
  posted = λ e. elim (law task log Posted (subst (IsVisitLog task log) e whole)) as (λ _. port.desk.met ≡ true) [
    | inl p ↦ way.posted ((Post p.0, Some PostedIt), p.1, refl)
    | inr d ↦ way.posted (drew Done, d, refl)
  ];
}

-- Its stop is heeded.
pub heeds : (first : TablePortView) (before after : Signal) (port : TablePortView) (task : Task) (log : List Exchange) (s : State) (end : WorkEnd) → EndsHaveCauses
    → IsVisitLog task log end → end_of s ≡ Some end → IsOnWay first before after port log s → HeedsOwn before after end
heeds first before after port task log s end law whole ended way = by_end end whole ended way.quiet
  where
    by_end : (e : WorkEnd) → IsVisitLog task log e → end_of s ≡ Some e → IsQuiet before after log s → HeedsOwn before after e
    by_end Stopped w k (inl q) = absurd (q.0 (said_stop true, law task log Stopped w, refl))
    by_end Stopped w k (inr q) = (q.1, q.2)
    by_end Posted w k (inl q) = q.1
    by_end Spent w k (inl q) = q.1
    by_end NoRoom w k (inl q) = q.1
    by_end TooHigh w k (inl q) = q.1
    by_end NoMemory w k (inl q) = q.1
    by_end Posted w k (inr q) = (let e : Posted ≡ Stopped = ends_so s.stage s.frames Stopped Posted q.3 k in absurd (cc))
    by_end Spent w k (inr q) = (let e : Spent ≡ Stopped = ends_so s.stage s.frames Stopped Spent q.3 k in absurd (cc))
    by_end NoRoom w k (inr q) = (let e : NoRoom ≡ Stopped = ends_so s.stage s.frames Stopped NoRoom q.3 k in absurd (cc))
    by_end TooHigh w k (inr q) = (let e : TooHigh ≡ Stopped = ends_so s.stage s.frames Stopped TooHigh q.3 k in absurd (cc))
    by_end NoMemory w k (inr q) = (let e : NoMemory ≡ Stopped = ends_so s.stage s.frames Stopped NoMemory q.3 k in absurd (cc))

-- 5. ALL THAT A WORKER HAS DONE.

-- A worker with its port.
abbrev pub lane_of : WorkerView → TablePortView → Signal → LaneView
lane_of worker port its_signal = record { worker = worker; cut = port.cut; seat = port.seat; desk = port.desk; signal = its_signal }

none_left : (stage : Stage) (frames : List FrameView) (end : WorkEnd) → end_at stage frames ≡ Some end → own_size frames ≡ 0
none_left stage [] end e = refl
none_left (Polling entry) (f ∷ fs) end e = absurd (cc)
none_left (Drawing entry) (f ∷ fs) end e = absurd (cc)
none_left Entering (f ∷ fs) end e = absurd (cc)
none_left (Looking place) (f ∷ fs) end e = absurd (cc)
none_left Claiming (f ∷ fs) end e = absurd (cc)
none_left (Leaving left) (f ∷ fs) end e = absurd (cc)
none_left (Posting posted) (f ∷ fs) end e = absurd (cc)
none_left (Winding why) (f ∷ fs) end e = absurd (cc)

no_words : (words : List ℕ) → length words ≡ 0 → words ≡ []
no_words [] e = refl
no_words (word ∷ words) e = absurd (omega (arith, e))

leads_first : (problem : Board) (number : ℕ) (worker : WorkerView) → worker ≡ worker_at_first problem number → Leads worker.task [] worker.state
leads_first problem number worker is =
    subst (λ (w : WorkerView). Leads w.task [] w.state) (sym is) (record { happenings = []; runs = refl; logged = refl })

-- A worker that began with a port of its own, and has worked over it till its end.
pub done : {P : Type 0} (turn : P → List Key → Request → Option Reply → P → Type 0) (port_of : P → TablePortView) (signal_of : P → Signal)
    → ((p : P) (path : List Key) (q : Request) (a : Option Reply) (r : P) → turn p path q a r → IsServed (port_of p) (signal_of p) (q, a) (port_of r) (signal_of r))
    → (shared : Shared) (number : ℕ) (p r : P) (worker later : WorkerView) (events : List Exchange) (end : WorkEnd) → EndsHaveCauses
    → IsFresh shared number (lane_of worker (port_of p) (signal_of p)) → WentBy turn p r worker later events
    → ((log : List Exchange) → Leads worker.task log worker.state → IsVisitLog worker.task (log ++ events) end)
    → KeepsOthers worker later (book_of (port_of p)) (book_of (port_of r)) → later.waiting ≡ false → end_of later.state ≡ Some end
    → IsDone shared number (signal_of p) (signal_of r) (lane_of later (port_of r) (signal_of r))
done turn port_of signal_of serves shared number p r worker later events end law fresh went whole others idle ended =
    let first = leads_first shared.problem number worker fresh.worker in
    let log_whole = whole [] first in
    let way = went_on turn port_of signal_of serves (port_of p) (signal_of p) worker.task p r worker.state later.state [] events
    (begun (port_of p) (signal_of p) worker.state) went.port in
    let tells = tells_end (port_of p) (signal_of p) (signal_of r) (port_of r) worker.task events later.state end law log_whole way in
    let begins : own_size worker.state.frames ≡ 0 = ap (λ (w : WorkerView). own_size w.state.frames) fresh.worker in
    let leaves = none_left later.state.stage later.state.frames end ended in
    record {
      searched = record {
        task = went.task ∙ ap (λ (w : WorkerView). w.task) fresh.worker;
        log = events;
        reached = record {
          state = later.state;
          leads = subst (λ (t : Task). Leads t events later.state) (sym went.task) (went.log [] first);
          now = ap (λ (b : Bool). now_at b later.state) (sym idle);
        };
        end = end;
        ended = ended;
        whole = subst (λ (t : Task). IsVisitLog t events end) (sym went.task) log_whole;
        polled = way.polled;
        polls = way.polls;
        heeds = heeds (port_of p) (signal_of p) (signal_of r) (port_of r) worker.task events later.state end law log_whole ended way;
      };
      counts = way.counts ∙ fresh.counts;
      added = no_words (port_of r).seat.seat.view.added
          (let size = others.size in let none : length (port_of p).seat.seat.view.added ≡ 0 = ap length fresh.added in omega (arith, size, none, begins, leaves));
      desk = way.desk ∙ ap (λ (d : DeskSeatView). d.desk) fresh.desk;
      visits = (let u = others.visits in let none : length (port_of p).desk.visits ≡ 0 = ap (λ (d : DeskSeatView). length d.visits) fresh.desk in
          let no : worker.state.visits ≡ 0 = ap (λ (w : WorkerView). w.state.visits) fresh.worker in omega (arith, u, none, no));
      claims = (let u = others.rooms in let none : length (port_of p).desk.claims ≡ 0 = ap (λ (d : DeskSeatView). length d.claims) fresh.desk in
          let no : worker.state.claims ≡ 0 = ap (λ (w : WorkerView). w.state.claims) fresh.worker in omega (arith, u, none, no));
      spent = λ e. tells.spent (one_end end _ later.state ended e);
      full = λ e. tells.full (one_end end _ later.state ended e);
      posted = λ e. tells.posted (one_end end _ later.state ended e);
    }
  where
    one_end : (a b : WorkEnd) (s : State) → end_of s ≡ Some a → end_of s ≡ Some b → a ≡ b
    one_end a b s e f = (let k = sym e ∙ f in cc)
