-- A crew stays one when one of it goes on.
use Rattle.std.proofs.Common.{◌≡◌, inl, ℕ, ◌≤◌, ◌<◌, List, ◌++◌, length, set, get_or, arith, refl, sym, ap, ◌∙◌, subst, true, false}
use Rattle.std.specs.Prelude.{Some, slice_get}
use Rattle.std.proofs.lemmas.Option.{slice_get_read}
use Rattle.search_limits.specs.declared.expansions.TheConstants.{MOST_EXPANSIONS}
use Rattle.board_core.specs.Board.{Board}
use Rattle.visit_log.specs.Visit.{Exchange}
use Rattle.visit_log.specs.Frame.{Task}
use Rattle.visit_log.specs.Run.{WorkerView, Leads}
use Rattle.visit_log.specs.Sound.{IsTask}
use Rattle.visit_log.specs.Counts.{Words, own_slots, own_size}
use Rattle.visit_log.specs.Laws.{WorkersAreSound, WorkersAreCounted, IsLeftAlone}
use Rattle.worker_core.specs.Port.{Book, Suits, KeepsOthers, entering}
use Rattle.unit_desk.specs.Desk.{IsDesk}
use Rattle.lone_port.specs.Lone.{book_of}
use Rattle.lone_port.specs.World.{World}
use Rattle.world_play.specs.Fair.{IsFair, all_slots}
use Rattle.world_play.specs.Crew.{IsInCrew, IsCrew}
use Rattle.world_play.proofs.Suited.{one_within, all_with_one, enters_within}
use Rattle.world_play.proofs.Stepped.{each_set, sum_set}
use Rattle.world_play.proofs.Happened.{LeadsStarved, leads_starved, starved}

-- What is read at a place is there.
pub read_there : (ws : List WorkerView) (place : ℕ) (w : WorkerView) → place < length ws → w ≡ get_or ws place w → slice_get ws place ≡ Some w
read_there ws place w low is = slice_get_read ws (length ws) place w refl low is

-- A port that goes on suits each of its crew.
pub crew_suits : WorkersAreSound → WorkersAreCounted → (book : Book) (ws : List WorkerView) (place : ℕ) (worker : WorkerView) → IsCrew book ws → book.going ≡ true
    → slice_get ws place ≡ Some worker → Suits worker book
crew_suits sound counted book ws place worker crew going e =
    let m = crew.members place worker e in
    let s = sound worker.task m.leads.happenings worker.state m.task m.leads.runs in
    let c = counted worker.task m.leads.happenings worker.state m.leads.runs in
    let low : (i : ℕ) (w : WorkerView) → slice_get ws i ≡ Some w → own_size w.state.frames ≤ w.state.visits =
    λ i w g. (
    let n = crew.members i w g in
    let d = counted w.task n.leads.happenings w.state n.leads.runs in
    let slots = d.slots in
    let frames = d.frames in
    omega (arith, slots, frames)) in
    record {
      problem = m.of_problem;
      going = inl going;
      held = λ word. (
          let all = crew.held word in
          let one = one_within (λ (w : WorkerView). own_slots book.words w.state.frames word) ws place worker e in
          omega (arith, all, one));
      some = (
          let all = crew.size in
          let one = one_within (λ (w : WorkerView). own_size w.state.frames) ws place worker e in
          omega (arith, all, one));
      visits = (
          let all = crew.visits in
          let one = one_within (λ (w : WorkerView). w.state.visits) ws place worker e in
          omega (arith, all, one));
      size = (
          let all = crew.size in
          let visits = crew.visits in
          let own = enters_within worker.task worker.state.stage worker.state.frames worker.state.visits s c.slots c.frames in
          let one = all_with_one (λ (w : WorkerView). own_size w.state.frames) (λ (w : WorkerView). w.state.visits) ws (entering worker.state.stage) place worker low e own in
          omega (arith, all, visits, one));
      most = crew.most;
    }

-- One of it went on.
pub crew_on : (before after : Book) (ws : List WorkerView) (place : ℕ) (worker later : WorkerView) → IsCrew before ws → slice_get ws place ≡ Some worker
    → KeepsOthers worker later before after → after.problem ≡ before.problem → after.visits ≤ MOST_EXPANSIONS → IsInCrew after.problem later
    → IsCrew after (set ws place later)
crew_on before after ws place worker later crew there keep problem most member = record {
  held = λ word. (
      let q = sum_set (λ (w : WorkerView). own_slots before.words w.state.frames word) ws place worker later there in
      let m = keep.held word in
      let b = crew.held word in
      let n : all_slots after.words (set ws place later) word ≡ all_slots before.words (set ws place later) word =
      ap (λ (z : Words). all_slots z (set ws place later) word) keep.words in
      omega (arith, q, m, b, n));
  size = (
      let q = sum_set (λ (w : WorkerView). own_size w.state.frames) ws place worker later there in
      let m = keep.size in
      let b = crew.size in
      omega (arith, q, m, b));
  visits = (
      let q = sum_set (λ (w : WorkerView). w.state.visits) ws place worker later there in
      let m = keep.visits in
      let b = crew.visits in
      omega (arith, q, m, b));
  most = most;
  members =
      each_set (λ (n : ℕ) (v : WorkerView). IsInCrew after.problem v) ws place later worker there member
      (λ n v ne g. subst (λ (p : Board). IsInCrew p v) (sym problem) (crew.members n v g));
}

-- By a request.
pub crew_turned : (before after : Book) (ws : List WorkerView) (place : ℕ) (worker later : WorkerView) (events : List Exchange) → IsCrew before ws → slice_get ws place ≡ Some worker
    → KeepsOthers worker later before after → Suits later after → later.task ≡ worker.task → later.waiting ≡ false
    → ((log : List Exchange) → Leads worker.task log worker.state → Leads worker.task (log ++ events) later.state) → IsCrew after (set ws place later)
crew_turned before after ws place worker later events crew there keep suits task idle leads =
    let m = crew.members place worker there in
    let same : after.problem ≡ before.problem = sym suits.problem ∙ (ap (λ (t : Task). t.problem) task ∙ m.of_problem) in
    crew_on before after ws place worker later crew there keep same suits.most
    (record {
      of_problem = suits.problem;
      task = subst IsTask (sym task) m.task;
      idle = idle;
      log = m.log ++ events;
      leads = subst (λ (t : Task). Leads t (m.log ++ events) later.state) (sym task) (leads m.log m.leads);
    })

-- By starving.
pub crew_starved : (book : Book) (ws : List WorkerView) (place : ℕ) (worker later : WorkerView) → IsCrew book ws → slice_get ws place ≡ Some worker → later ≡ starved worker
    → LeadsStarved worker later → IsLeftAlone worker.state later.state → IsCrew book (set ws place later)
crew_starved book ws place worker later crew there is leads alone =
    let m = crew.members place worker there in
    let task : later.task ≡ worker.task = ap (λ (w : WorkerView). w.task) is in
    crew_on book book ws place worker later crew there
    (record {
      words = refl;
      held = λ word. (let a = alone.slots book.words word in omega (arith, a));
      size = (let a = alone.size in omega (arith, a));
      visits = (let a = alone.visits in omega (arith, a));
      rooms = (let a = alone.claims in omega (arith, a));
    })
    refl crew.most
    (record {
      of_problem = ap (λ (t : Task). t.problem) task ∙ m.of_problem;
      task = subst IsTask (sym task) m.task;
      idle = ap (λ (w : WorkerView). w.waiting) is;
      log = m.log;
      leads = subst (λ (t : Task). Leads t m.log later.state) (sym task) (leads_starved worker later m.idle leads m.log m.leads);
    })

-- The workers of a fair world are a crew of its table and desk.
pub fair_crew : (world : World) → IsFair world → IsDesk world.port.desk → IsCrew (book_of world.port) world.workers
fair_crew world fair desk = record {
  held = fair.held;
  size = fair.size;
  visits = fair.drawn;
  most = (
      let low = desk.drawn in
      let most = desk.expansions.1 in
      omega (arith, low, most));
  members = λ place worker there. (
      let m = fair.members place worker there in
      record {
        of_problem = ap (λ (t : Task). t.problem) m.task;
        task = m.problem;
        idle = m.idle;
        log = m.log;
        leads = m.leads;
      });
}
