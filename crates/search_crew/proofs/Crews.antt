-- Lists of workers with their ports, and what their seats tell together.
use Rattle.std.proofs.Common.{◌≤◌, ◌≡◌, ◌<◌, ◌+◌, ℕ, zero, suc, List, [], ◌∷◌, ◌++◌, length, refl, sym, ap, ◌∙◌, subst, arith, append_assoc, Bool, true, false}
use Rattle.std.specs.Prelude.{Option, Some, All, IfSome, IsTrue, map, take, drop, reverse, sum_by, slice_get, slice_index_or, ◌||◌}
use Rattle.std.proofs.lemmas.List.{length-append, map_push, reverse-append, reverse-reverse}
use Rattle.std.proofs.lemmas.List.Elements.{All-nil, All-cons}
use Rattle.std.proofs.lemmas.List.Sums.{sum_by-cons}
use Rattle.notes.specs.Derivation.{Derivation}
use Rattle.board_core.specs.Board.{Board}
use Rattle.search_gate.specs.Polls.{ArePolled}
use Rattle.search_gate.specs.Stop.{Signal}
use Rattle.visit_log.specs.declared.words.WorkEnd.{WorkEnd}
use Rattle.visit_log.specs.declared.words.WorkEnd.TheVariants.{Posted, Spent, NoRoom}
use Rattle.visit_log.specs.Run.{WorkerView}
use Rattle.search_limits.specs.Sizes.{SettingsView}
use Rattle.unit_desk.specs.Desk.{IsAnswerTo}
use Rattle.word_desk.specs.WordDesk.{IsSeat, WordDeskView, DeskSeatView, joined, Ends}
use Rattle.search_crew.specs.End.{HaveSearched, EndedSo, EndedOtherwise, OneEnded, NoneEnded, IsFirstEnded}
use Rattle.search_crew.specs.Inside.{LaneView, Shared, IsFresh, AreFresh, IsDone, HasWorked, AreDone, IsAtRest, joined_all, CrewTells, ClosesCrew}

-- 1. ONE MORE.

pub fresh_push : (shared : Shared) (number : ℕ) (lanes : List LaneView) (lane : LaneView) → AreFresh shared number lanes → IsFresh shared (number + length lanes) lane
    → AreFresh shared number (lanes ++ lane ∷ [])
fresh_push shared number [] lane all one = (subst (λ (n : ℕ). IsFresh shared n lane) (omega arith) one, cc)
fresh_push shared number (first ∷ lanes) lane (there, all) one =
    (there, fresh_push shared (suc number) lanes lane all (subst (λ (n : ℕ). IsFresh shared n lane) (omega arith) one))

pub joined_last : (seat : DeskSeatView) (lanes : List LaneView) (lane : LaneView) → joined_all seat (lanes ++ lane ∷ []) ≡ joined_all (joined seat lane.desk) lanes
joined_last seat [] lane = refl
joined_last seat (first ∷ lanes) lane = ap (λ (d : DeskSeatView). joined d first.desk) (joined_last seat lanes lane)

-- 2. WHAT ALL HAVE DONE.

pub have_searched : (shared : Shared) (number : ℕ) (before after : List Signal) (lanes : List LaneView) → AreDone shared number before after lanes
    → HaveSearched shared.problem number before after (map (λ lane. lane.worker) lanes)
have_searched shared number before after [] done = done
have_searched shared number (old ∷ before) (new ∷ after) (lane ∷ lanes) (one, done) = (one.searched, have_searched shared (suc number) before after lanes done)
have_searched shared number [] after (lane ∷ lanes) done = absurd done
have_searched shared number (old ∷ before) [] (lane ∷ lanes) done = absurd done

pub are_at_rest : (shared : Shared) (number : ℕ) (before after : List Signal) (lanes : List LaneView) → AreDone shared number before after lanes
    → All (IsAtRest shared.words shared.desk) lanes
are_at_rest shared number before after [] done = All-nil (IsAtRest shared.words shared.desk)
are_at_rest shared number (old ∷ before) (new ∷ after) (lane ∷ lanes) (one, done) =
    All-cons (IsAtRest shared.words shared.desk) lane lanes (record { counts = one.counts; added = one.added; desk = one.desk })
    (are_at_rest shared (suc number) before after lanes done)
are_at_rest shared number [] after (lane ∷ lanes) done = absurd done
are_at_rest shared number (old ∷ before) [] (lane ∷ lanes) done = absurd done

-- The stops of a crew were polled.
pub are_polled : (problem : Board) (number : ℕ) (before after : List Signal) (crew : List WorkerView) → HaveSearched problem number before after crew
    → ArePolled (length crew) before after
are_polled problem number before after [] done = done
are_polled problem number (old ∷ before) (new ∷ after) (worker ∷ crew) (one, done) = (one.polled, are_polled problem (suc number) before after crew done)
are_polled problem number [] after (worker ∷ crew) done = absurd done
are_polled problem number (old ∷ before) [] (worker ∷ crew) done = absurd done

-- No stop was.
pub none_polled : (workers : ℕ) (signals : List Signal) → ArePolled workers signals signals
none_polled zero signals = refl
none_polled (suc workers) [] = refl
none_polled (suc workers) (signal ∷ signals) = (record { armed = refl; arms = refl; early = refl }, none_polled workers signals)

-- 3. WHAT THE JOINED SEAT TELLS.

some_is : {a b : WorkerView} → Some a ≡ Some b → a ≡ b
some_is e = cc

-- What one that ended so tells, the joined seat does.
one_tells : (end : WorkEnd) (tells : DeskSeatView → Type 0) → ((seat other : DeskSeatView) → tells seat → tells (joined seat other))
    → ((seat other : DeskSeatView) → tells other → tells (joined seat other))
    → ((shared : Shared) (number : ℕ) (old new : Signal) (lane : LaneView) → IsDone shared number old new lane → EndedSo end lane.worker → tells lane.desk)
    → (shared : Shared) (number : ℕ) (before after : List Signal) (seat : DeskSeatView) (lanes : List LaneView) → AreDone shared number before after lanes
    → (place : ℕ) (worker : WorkerView) → slice_get (map (λ lane. lane.worker) lanes) place ≡ Some worker → EndedSo end worker → tells (joined_all seat lanes)
one_tells end tells left right one shared number before after seat [] done place worker there ended = absurd (cc)
one_tells end tells left right one shared number (old ∷ before) (new ∷ after) seat (lane ∷ lanes) (done, all) zero worker there ended =
    right (joined_all seat lanes) lane.desk (one shared number old new lane done (subst (EndedSo end) (sym (some_is there)) ended))
one_tells end tells left right one shared number (old ∷ before) (new ∷ after) seat (lane ∷ lanes) (done, all) (suc place) worker there ended =
    left (joined_all seat lanes) lane.desk (one_tells end tells left right one shared (suc number) before after seat lanes all place worker there ended)
one_tells end tells left right one shared number [] after seat (lane ∷ lanes) done place worker there ended = absurd done
one_tells end tells left right one shared number (old ∷ before) [] seat (lane ∷ lanes) done place worker there ended = absurd done

or_left : (a b : Bool) → a ≡ true → (a || b) ≡ true
or_left true b e = refl
or_left false b e = absurd (cc)

or_right : (a b : Bool) → b ≡ true → (a || b) ≡ true
or_right true b e = refl
or_right false b e = e

desk_all : (seat : DeskSeatView) (lanes : List LaneView) → (joined_all seat lanes).desk ≡ seat.desk
desk_all seat [] = refl
desk_all seat (lane ∷ lanes) = desk_all seat lanes

visits_all : (shared : Shared) (number : ℕ) (before after : List Signal) (seat : DeskSeatView) (lanes : List LaneView) → AreDone shared number before after lanes
    → length (joined_all seat lanes).visits ≡ length seat.visits + sum_by (λ worker. worker.state.visits) (map (λ lane. lane.worker) lanes)
visits_all shared number before after seat [] done = omega arith
visits_all shared number (old ∷ before) (new ∷ after) seat (lane ∷ lanes) (one, done) =
    let rest = visits_all shared (suc number) before after seat lanes done in
    let long = length-append lane.desk.visits (joined_all seat lanes).visits in
    let mine = one.visits in
    let add = sum_by-cons (λ worker. worker.state.visits) lane.worker (map (λ each. each.worker) lanes) in
    let whole : length (lane.desk.visits ++ (joined_all seat lanes).visits)
    ≡ length seat.visits + sum_by (λ worker. worker.state.visits) (lane.worker ∷ map (λ each. each.worker) lanes) = omega (arith, rest, long, mine, add) in
    whole
visits_all shared number [] after seat (lane ∷ lanes) done = absurd done
visits_all shared number (old ∷ before) [] seat (lane ∷ lanes) done = absurd done

claims_all : (shared : Shared) (number : ℕ) (before after : List Signal) (seat : DeskSeatView) (lanes : List LaneView) → AreDone shared number before after lanes
    → length (joined_all seat lanes).claims ≡ length seat.claims + sum_by (λ worker. worker.state.claims) (map (λ lane. lane.worker) lanes)
claims_all shared number before after seat [] done = omega arith
claims_all shared number (old ∷ before) (new ∷ after) seat (lane ∷ lanes) (one, done) =
    let rest = claims_all shared (suc number) before after seat lanes done in
    let long = length-append lane.desk.claims (joined_all seat lanes).claims in
    let mine = one.claims in
    let add = sum_by-cons (λ worker. worker.state.claims) lane.worker (map (λ each. each.worker) lanes) in
    let whole : length (lane.desk.claims ++ (joined_all seat lanes).claims)
    ≡ length seat.claims + sum_by (λ worker. worker.state.claims) (lane.worker ∷ map (λ each. each.worker) lanes) = omega (arith, rest, long, mine, add) in
    whole
claims_all shared number [] after seat (lane ∷ lanes) done = absurd done
claims_all shared number (old ∷ before) [] seat (lane ∷ lanes) done = absurd done

-- A crew whose seats came back to one that had drawn and claimed nothing.
pub crew_tells : (shared : Shared) (before after : List Signal) (lanes : List LaneView) (first seat : DeskSeatView) (crew : List WorkerView)
    → AreDone shared 1 before after lanes → first.desk ≡ shared.desk → first.visits ≡ [] → first.claims ≡ [] → seat ≡ joined_all first lanes
    → crew ≡ map (λ lane. lane.worker) lanes → CrewTells shared before after crew seat
crew_tells shared before after lanes first seat crew done desk visits claims is all =
    subst (λ (d : DeskSeatView). CrewTells shared before after crew d) (sym is)
    (subst (λ (c : List WorkerView). CrewTells shared before after c (joined_all first lanes)) (sym all)
    (record {
      searched = have_searched shared 1 before after lanes done;
      desk = desk_all first lanes ∙ desk;
      visits = (let e = visits_all shared 1 before after first lanes done in let none = ap length visits in omega (arith, e, none));
      claims = (let e = claims_all shared 1 before after first lanes done in let none = ap length claims in omega (arith, e, none));
      spent = λ o. one_tells Spent (λ d. 0 < d.draw_ends) (λ a b low. omega (arith, low)) (λ a b low. omega (arith, low)) (λ c n x y l d e. d.spent e)
          shared 1 before after first lanes done o.0 o.1 o.2 o.3;
      full = λ o. one_tells NoRoom (λ d. 0 < d.claim_ends) (λ a b low. omega (arith, low)) (λ a b low. omega (arith, low)) (λ c n x y l d e. d.full e)
          shared 1 before after first lanes done o.0 o.1 o.2 o.3;
      posted = λ o. one_tells Posted (λ d. d.met ≡ true) (λ a b e. or_left a.met b.met e) (λ a b e. or_right a.met b.met e) (λ c n x y l d e. d.posted e)
          shared 1 before after first lanes done o.0 o.1 o.2 o.3;
    }))

-- 4. WHY A CREW GAVE UP.

-- Where no worker ended so, each ended otherwise.
pub none_ended : (end : WorkEnd) (crew : List WorkerView) → (OneEnded end crew → ⊥) → NoneEnded end crew
none_ended end [] not = All-nil (EndedOtherwise end)
none_ended end (worker ∷ crew) not =
    All-cons (EndedOtherwise end) worker crew (λ e. not (zero, worker, refl, e))
    (none_ended end crew (λ o. not (suc o.0, o.1, o.2, o.3)))

-- 5. STOPS GO AND COME BACK.

-- What a stop tells that is taken from the end goes behind what those tell that were taken.
pub taken : {A : Type 0} (f : A → Signal) (told : List Signal) (rest : List A) (stop : A) (signal : Signal) → signal ≡ f stop
    → (told ++ signal ∷ []) ++ reverse (map f rest) ≡ told ++ reverse (map f (rest ++ stop ∷ []))
taken f told rest stop signal is =
    append_assoc told (signal ∷ []) (reverse (map f rest))
    ∙ ap (λ (l : List Signal). told ++ l)
    (ap (λ (s : Signal). s ∷ reverse (map f rest)) is
    ∙ (sym (reverse-append (map f rest) (f stop ∷ [])) ∙ sym (ap reverse (map_push f rest stop))))

-- Where each has worked, all are done.
pub all_done : (shared : Shared) (number : ℕ) (lanes others : List LaneView) (rest : List Signal) → AreFresh shared number lanes → length others ≡ length lanes
    → ((place : ℕ) (none : LaneView) → place < length lanes → HasWorked (slice_index_or lanes place none) (slice_index_or others place none))
    → AreDone shared number (map (λ lane. lane.signal) lanes ++ rest) (map (λ lane. lane.signal) others ++ rest) others
all_done shared number [] [] rest fresh same worked = refl
all_done shared number [] (other ∷ others) rest fresh same worked = absurd (omega (arith, same))
all_done shared number (lane ∷ lanes) [] rest fresh same worked = absurd (omega (arith, same))
all_done shared number (lane ∷ lanes) (other ∷ others) rest (one, fresh) same worked = (
  worked 0 lane (omega arith) shared number one,
  all_done shared (suc number) lanes others rest fresh (omega (arith, same)) (λ place none low. worked (suc place) none (omega (arith, low))),
)

-- The first of a crew that ended so.
pub first_is : (end : WorkEnd) (crew : List WorkerView) (place : ℕ) (worker : WorkerView) → slice_get crew place ≡ Some worker → EndedSo end worker
    → ((earlier : ℕ) (other : WorkerView) → earlier < place → slice_get crew earlier ≡ Some other → EndedOtherwise end other) → IsFirstEnded end crew (suc place)
first_is end crew place worker there ended first = record { place = place; numbered = refl; worker = worker; there = there; ended = ended; first = first }

-- What comes of a lane that is taken from the end goes behind what came of those that were.
pub handed : {L B : Type 0} (of : L → B) (rest : List L) (lane : L) (came : List B) (one : B) → one ≡ of lane
    → map of rest ++ reverse (came ++ one ∷ []) ≡ map of (rest ++ lane ∷ []) ++ reverse came
handed {L} {B} of rest lane came one is =
    ap (λ (l : List B). map of rest ++ l) (reverse-append came (one ∷ []) ∙ ap (λ (b : B). b ∷ reverse came) is)
    ∙ (sym (append_assoc (map of rest) (of lane ∷ []) (reverse came)) ∙ ap (λ (l : List B). l ++ reverse came) (sym (map_push of rest lane)))

pub all_last : {A : Type 0} (P : A → Type 0) (xs : List A) (x : A) → All P (xs ++ x ∷ []) → P x
all_last P [] x all = all 0 x (omega arith)
all_last P (y ∷ xs) x all = all_last P xs x (λ k d low. all (suc k) d (omega (arith, low)))

pub all_before : {A : Type 0} (P : A → Type 0) (xs : List A) (x : A) → All P (xs ++ x ∷ []) → All P xs
all_before P [] x all = All-nil P
all_before P (y ∷ xs) x all = All-cons P y xs (all 0 y (omega arith)) (all_before P xs x (λ k d low. all (suc k) d (omega (arith, low))))

-- What a list becomes through a slice of all of it.
pub all_of : {A : Type 0} (n : ℕ) (ys xs : List A) → length ys ≡ n → length xs ≡ n → take n (ys ++ drop (length ys) xs) ≡ ys
all_of zero [] xs one two = refl
all_of zero (y ∷ ys) xs one two = absurd (omega (arith, one))
all_of (suc n) [] xs one two = absurd (omega (arith, one))
all_of (suc n) (y ∷ ys) [] one two = absurd (omega (arith, two))
all_of (suc n) (y ∷ ys) (x ∷ xs) one two = ap (λ l. y ∷ l) (all_of n ys xs (omega (arith, one)) (omega (arith, two)))

pub map_reverse : {A B : Type 0} (f : A → B) (xs : List A) → map f (reverse xs) ≡ reverse (map f xs)
map_reverse f [] = refl
map_reverse f (x ∷ xs) =
    ap (map f) (reverse-append (x ∷ []) xs)
    ∙ (map_push f (reverse xs) x ∙ (ap (λ l. l ++ f x ∷ []) (map_reverse f xs) ∙ sym (reverse-append (f x ∷ []) (map f xs))))

-- What a list of stops tells that is turned round twice.
pub turned_twice : {A B : Type 0} (f : A → B) (xs ys : List A) → ys ≡ reverse xs → reverse (map f ys) ≡ map f xs
turned_twice f xs ys is = ap (λ l. reverse (map f l)) is ∙ (ap reverse (map_reverse f xs) ∙ reverse-reverse (map f xs))

within : {many sum most its : ℕ} → many ≡ sum → its ≡ most → many ≤ its → sum ≤ most
within {many} {sum} {most} {its} one two low = subst (λ (n : ℕ). n ≤ most) one (subst (λ (n : ℕ). many ≤ n) two low)

-- The close of a crew's desk.
pub closes : (s : SettingsView) (shared : Shared) (before after : List Signal) (crew : List WorkerView) (seat : DeskSeatView) (drawn claimed : ℕ) (note : Option Derivation)
    → IsSeat seat → CrewTells shared before after crew seat → Ends seat drawn claimed note → shared.desk.position ≡ shared.problem → shared.desk.expansions ≡ s.expansions
    → shared.desk.room ≡ s.room → ClosesCrew s shared.problem crew note
closes s shared before after crew seat drawn claimed note kept tells ends at expansions room = record {
  answer = subst (λ (b : Board). IfSome note (IsAnswerTo b)) (ap (λ (d : WordDeskView). d.position) tells.desk ∙ at) ends.answer;
  posted = λ o. ends.met (subst IsTrue (sym (tells.posted o)) refl);
  visits = within tells.visits (ap (λ (d : WordDeskView). d.expansions) tells.desk ∙ expansions) kept.visits;
  claims = within tells.claims (ap (λ (d : WordDeskView). d.room) tells.desk ∙ room) kept.claims;
  spent = λ none o. sym tells.visits ∙ (sym ends.drawn ∙ (ends.all_drawn none (tells.spent o) ∙ (ap (λ (d : WordDeskView). d.expansions) tells.desk ∙ expansions)));
  full = λ o. sym tells.claims ∙ (sym ends.claimed ∙ (ends.all_claimed (tells.full o) ∙ (ap (λ (d : WordDeskView). d.room) tells.desk ∙ room)));
}
