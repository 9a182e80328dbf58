-- Notes that are known are taken in one way, say one thing, and lead a search one way.
use Rattle.std.proofs.Common.{◌≡◌, ◌⊎◌, inl, inr, ℕ, List, [], ◌∷◌, arith, replicate, refl, sym, ap, ap₂, ◌∙◌, subst}
use Rattle.std.specs.Prelude.{Option, Some, None, IsSome, IsSomeAnd, slice_get}
use Rattle.std.proofs.lemmas.Bool.{cases_lt}
use Rattle.std.proofs.lemmas.Option.{same_Some}
use Rattle.board_core.specs.Board.{Board}
use Rattle.board_core.specs.declared.keys.Key.{Key}
use Rattle.notes.specs.Derivation.{Derivation}
use Rattle.notes.specs.declared.words.Kept.{Kept}
use Rattle.notes.specs.declared.words.Kept.TheVariants.{Slot}
use Rattle.notes.specs.declared.words.Update.TheVariants.{Note as AddNote}
use Rattle.search_limits.specs.Sizes.{SettingsView}
use Rattle.table_shard.specs.Entry.{EntryView}
use Rattle.table_shard.specs.Known.{TakesNote, TakesNotes, one_each}
use Rattle.table_shard.specs.Shard.{EntersIn}
use Rattle.unit_desk.specs.Known.{IsFirstReaching, IsFirstSaid, IsSaidBy}
use Rattle.lone_port.specs.Lone.{LonePortView, IsLeftIn, alone_at_first, worker_at_first}
use Rattle.lone_port.specs.World.{World, world_at_first}
use Rattle.lone_port.specs.Alone.{for_one, told_to_one}
use Rattle.lone_port.specs.Filled.{IsFilled, IsWorldWith}
use Rattle.visit_log.specs.Run.{WorkerView}
use Rattle.search_pool.specs.declared.end.SearchEnd.{SearchEnd}
use Rattle.search_pool.specs.declared.end.SearchEnd.TheVariants.{Solved, Unknown}
use Rattle.search_pool.specs.End.{IsOutcome, IsAloneFrom}
use Rattle.search_pool.specs.Laws.{AreSameAlone, AloneState, HasRunFrom, FilledGoesOneWay, FilledHasOneAnswer}
use Rattle.search_pool.specs.Inside.{world_over}
use Rattle.search_pool.proofs.Entering.{AreApartIn, apart_at_first}
use Rattle.search_pool.proofs.Asking.{in_once, in_apart, left_in_once, left_in_apart}
use Rattle.search_pool.proofs.Leading.{AreLaws}
use Rattle.search_pool.proofs.Once.{IsTold, has_run_from, kept_by, not_starved, outcome_once, plays_once, same_at_first, some_end, state_of, stays_told, told_apart, told_at_first}

-- 1. THEY ARE TAKEN IN ONE WAY.

same_key : (key other : Key) → key.0 ≡ other.0 → key ≡ other
same_key key other e = λ i. record { 0 = e i }

take_once : (rows : List (List EntryView)) (note : Derivation) (one two : List (List EntryView)) → AreApartIn rows → TakesNote rows note one → TakesNote rows note two → one ≡ two
take_once rows note one two apart h k =
    let key : h.key ≡ k.key = same_key h.key k.key (h.about ∙ sym k.about) in
    let enters : EntersIn rows (replicate 8 0) h.key one_each (Slot k.slot) k.between =
    subst (λ (x : Key). EntersIn rows (replicate 8 0) x one_each (Slot k.slot) k.between) (sym key) k.enters in
    let same = in_once rows (replicate 8 0) h.key one_each (Slot h.slot) (Slot k.slot) h.between k.between apart h.enters enters in
    let leaves : IsLeftIn h.between (Slot h.slot) h.key (AddNote note) two =
    subst (λ (x : Kept). IsLeftIn h.between x h.key (AddNote note) two) (sym same.0)
    (subst (λ (b : List (List EntryView)). IsLeftIn b (Slot k.slot) h.key (AddNote note) two) (sym same.1)
    (subst (λ (x : Key). IsLeftIn k.between (Slot k.slot) x (AddNote note) two) (sym key) k.leaves)) in
    left_in_once h.between one two (Slot h.slot) h.key (AddNote note) h.leaves leaves

take_apart : (rows : List (List EntryView)) (note : Derivation) (after : List (List EntryView)) → AreApartIn rows → TakesNote rows note after → AreApartIn after
take_apart rows note after apart h =
    left_in_apart h.between after (Slot h.slot) h.key (AddNote note) h.leaves (in_apart rows (replicate 8 0) h.key one_each (Slot h.slot) h.between apart h.enters)

takes_once : (rows : List (List EntryView)) (notes : List Derivation) (one two : List (List EntryView)) → AreApartIn rows → TakesNotes rows notes one → TakesNotes rows notes two → one ≡ two
takes_once rows [] one two apart h k = h ∙ sym k
takes_once rows (note ∷ notes) one two apart h k =
    let same = take_once rows note h.0 k.0 apart h.1 k.1 in
    takes_once h.0 notes one two (take_apart rows note h.0 apart h.1) h.2 (subst (λ (b : List (List EntryView)). TakesNotes b notes two) (sym same) k.2)

takes_apart : (rows : List (List EntryView)) (notes : List Derivation) (after : List (List EntryView)) → AreApartIn rows → TakesNotes rows notes after → AreApartIn after
takes_apart rows [] after apart h = subst AreApartIn (sym h) apart
takes_apart rows (note ∷ notes) after apart h = takes_apart h.0 notes after (take_apart rows note h.0 apart h.1) h.2

-- 2. THEY SAY ONE THING.

said_once : (problem : Board) (note one two : Derivation) → IsSaidBy problem note one → IsSaidBy problem note two → one ≡ two
said_once problem note one two (inl h) (inl k) = h.1 ∙ sym k.1
said_once problem note one two (inl h) (inr k) = absurd (k.0 h.0)
said_once problem note one two (inr h) (inl k) = absurd (h.0 k.0)
said_once problem note one two (inr h) (inr k) = h.2 ∙ sym k.2

same_first : (problem : Board) (notes : List Derivation) (p q : ℕ) → IsFirstReaching problem notes p → IsFirstReaching problem notes q → p ≡ q
same_first problem notes p q h k = elim (cases_lt p q) [
  | inl less ↦ absurd (k.none_before p less h.reaches)
  | inr more ↦ elim (cases_lt q p) [ inl less ↦ absurd (h.none_before q less k.reaches) | inr same ↦ omega (arith, more, same) ]
]

both_at : {A : Type 0} (P Q : A → Type 0) (o : Option A) → IsSomeAnd o P → IsSomeAnd o Q → (a : A) × P a × Q a
both_at P Q None h k = absurd h
both_at P Q (Some a) h k = (a, h, k)

first_said_once : (problem : Board) (notes : List Derivation) (f g : Option Derivation) → IsFirstSaid problem notes f → IsFirstSaid problem notes g → f ≡ g
first_said_once problem notes None None h k = refl
first_said_once problem notes None (Some two) h (q, first, says) = absurd (h q first.reaches)
first_said_once problem notes (Some one) None (p, first, says) k = absurd (k p first.reaches)
first_said_once problem notes (Some one) (Some two) (p, first, says) (q, too, also) =
    let same = same_first problem notes p q first too in
    let both = both_at (λ (note : Derivation). IsSaidBy problem note one) (λ (note : Derivation). IsSaidBy problem note two) (slice_get notes p) says
    (subst (λ (n : ℕ). IsSomeAnd (slice_get notes n) (λ note. IsSaidBy problem note two)) (sym same) also) in
    ap (λ (note : Derivation). Some note) (said_once problem both.0 one two both.1 both.2)

-- 3. THEY LEAD ONE WAY.

filled_once : (notes : List Derivation) (before one two : LonePortView) → AreApartIn before.rows → IsFilled notes before one → IsFilled notes before two → one ≡ two
filled_once notes before one two apart h k =
    h.others
    ∙ (ap₂ (λ (rs : List (List EntryView)) (said : Option Derivation). record before { rows = rs; desk = record before.desk { posted = said } })
    (takes_once before.rows notes one.rows two.rows apart h.takes k.takes) (first_said_once before.desk.position notes one.desk.posted two.desk.posted h.posted k.posted)
    ∙ sym k.others)

-- The world, beside the one in which nothing is known.
abbrev IsBeside : List Derivation → World → World → Type 0
IsBeside notes first world = IsFilled notes first.port world.port × (world ≡ record first { port = world.port })

beside : (notes : List Derivation) (problem : Board) (s r : SettingsView) (world : World) → AreSameAlone s r → IsWorldWith notes problem (for_one r) world
    → IsBeside notes (world_at_first problem (for_one s)) world
beside notes problem s r world same is = subst (λ (first : World). IsBeside notes first world) (same_at_first problem s r same) (is.filled, is.others)

-- Two runs of one worker over one table and desk, neither of which ends for want of memory, are
-- one.
runs_once : AreLaws → (first : LonePortView) (problem : Board) (end other : AloneState) → AreApartIn first.rows → HasRunFrom (world_over first problem) end
    → HasRunFrom (world_over first problem) other → end ≡ other
runs_once laws first problem end other apart h k =
    let once = plays_once laws h.schedule k.schedule (told_to_one end.log) (told_to_one other.log) first end.port other.port (worker_at_first problem 1)
    end.worker other.worker h.runs.raised k.runs.raised apart h.own k.own h.runs.plays k.runs.plays
    (some_end end.worker.state h.end h.ended) (some_end other.worker.state k.end k.ended)
    (not_starved end.worker.state h.end h.ended h.not_starved) (not_starved other.worker.state k.end k.ended k.not_starved) in
    let log = told_apart end.log other.log once.0 in
    λ i. record { log = log i; port = once.1 i; worker = once.2 i }

pub filled_one_way : AreLaws → FilledGoesOneWay
filled_one_way laws notes problem s r first its_first end other same is its h k =
    let too = beside notes problem s r its_first same its in
    let port : first.port ≡ its_first.port =
    filled_once notes (world_at_first problem (for_one s)).port first.port its_first.port (apart_at_first s.rows) is.filled too.0 in
    let one : first ≡ world_over first.port problem = is.others in
    let two : its_first ≡ world_over first.port problem = too.1 ∙ ap (λ (p : LonePortView). world_over p problem) (sym port) in (
      one ∙ sym two,
      runs_once laws first.port problem end other (takes_apart (replicate s.rows []) notes first.port.rows (apart_at_first s.rows) is.filled.takes)
          (subst (λ (z : World). HasRunFrom z end) one h) (subst (λ (z : World). HasRunFrom z other) two k),
    )

-- 4. THEY LEAD TO ONE ANSWER.

-- Where a note is posted at first, that is the answer.
solved_by : (note : Derivation) (s : SettingsView) (port : LonePortView) (worker : WorkerView) (answer : SearchEnd) → IsOutcome s port worker answer → port.desk.posted ≡ Some note
    → answer ≡ Solved note
solved_by note s port worker (Solved other) h is = ap Solved (same_Some other note (sym h ∙ is))
solved_by note s port worker (Unknown cause crew) h is = (let clash : ◌≡◌ {A = Option Derivation} None (Some note) = sym h.0 ∙ is in absurd (cc))

posted_first : (first : LonePortView) (problem : Board) (s : SettingsView) (answer : SearchEnd) (note : Derivation) → first.desk.posted ≡ Some note
    → IsAloneFrom (world_over first problem) s answer → answer ≡ Solved note
posted_first first problem s answer note is (schedule, own, run) =
    let told = kept_by (IsTold first) (stays_told first) schedule (told_to_one run.log) first run.port (worker_at_first problem 1) run.worker
    run.runs.raised own run.runs.plays (told_at_first first problem) in
    solved_by note s run.port run.worker answer run.outcome (told.1.still (subst IsSome (sym is) refl) ∙ is)

-- What is so of the one world of these notes.
from_one : (w v : World) (s : SettingsView) (answer : SearchEnd) → w ≡ v → IsAloneFrom w s answer → IsAloneFrom v s answer
from_one w v s answer e h = subst (λ (z : World). IsAloneFrom z s answer) e h

pub filled_one_answer : AreLaws → FilledHasOneAnswer
filled_one_answer laws notes problem s r end other same (first, is, h) (its_first, its, k) = by_posted first.port.desk.posted refl
  where
    too : IsBeside notes (world_at_first problem (for_one s)) its_first
    too = beside notes problem s r its_first same its

    port : first.port ≡ its_first.port
    port = filled_once notes (world_at_first problem (for_one s)).port first.port its_first.port (apart_at_first s.rows) is.filled too.0

    ours : IsAloneFrom (world_over first.port problem) s end
    ours = from_one first (world_over first.port problem) s end is.others h

    theirs : IsAloneFrom (world_over first.port problem) r other
    theirs = from_one its_first (world_over first.port problem) r other (too.1 ∙ ap (λ (p : LonePortView). world_over p problem) (sym port)) k

    by_posted : (posted : Option Derivation) → first.port.desk.posted ≡ posted → end ≡ other
    by_posted (Some note) e = posted_first first.port problem s end note e ours ∙ sym (posted_first first.port problem r other note e theirs)
    by_posted None e =
        let one = has_run_from first.port problem s end e ours in
        let two = has_run_from first.port problem r other e theirs in
        let way = runs_once laws first.port problem (state_of (world_over first.port problem) s end ours) (state_of (world_over first.port problem) r other theirs)
        (takes_apart (replicate s.rows []) notes first.port.rows (apart_at_first s.rows) is.filled.takes) one two in
        outcome_once s r theirs.2.port theirs.2.worker end other same (subst (λ (z : AloneState). IsOutcome s z.port z.worker end) way ours.2.outcome) theirs.2.outcome
