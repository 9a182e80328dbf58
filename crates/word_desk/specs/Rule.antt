-- Two words and the views of the seats: what each kind of step does to a view, and what is kept of
-- both words and all views.
use Rattle.std.specs.Prelude.{◌≡◌, ◌+◌, ◌-◌, ◌*◌, ◌%◌, ◌≤◌, ◌||◌, ℕ, zero, suc, List, [], ◌∷◌, ◌++◌, length, slice_index, nat_le, nat_lt, true, false, IsTrue, All, count_by, sum_by, if◌then◌else◌}
use Rattle.search_limits.specs.declared.expansions.TheConstants.{MOST_EXPANSIONS}
use Rattle.search_limits.specs.declared.settings.TheConstants.{MOST_ROOM}
use Rattle.word_desk.specs.declared.view.TheConstants.{MOST_SEATS, POSTED}
use Rattle.word_desk.specs.declared.view.View.{View}

-- The weights of the numbers from 1 to the last, added up.
abbrev pub sum_to : (ℕ → ℕ) → ℕ → ℕ
sum_to weight zero = 0
sum_to weight (suc last) = weight (last + 1) + sum_to weight last

-- How many of some numbers lie above a limit.
abbrev pub count_above : ℕ → List ℕ → ℕ
count_above limit numbers = count_by (λ number. nat_lt limit number) numbers

-- Of the numbers up to any limit there are no more than the limit, as where they are different
-- numbers from 1.
abbrev pub AreFew : List ℕ → Type 0
AreFew numbers = (limit : ℕ) → count_by (λ number. nat_le number limit) numbers ≤ limit

-- WHAT A STEP DOES TO A VIEW.

-- The view of the first seat: it has every part, and nothing else.
abbrev pub whole : View
whole = record { parts = MOST_SEATS; drawn = []; missed = []; claimed = []; met = false; won = false }

-- The view of a new seat: it has one part, and nothing else.
abbrev pub newcomer : View
newcomer = record { parts = 1; drawn = []; missed = []; claimed = []; met = false; won = false }

-- What is left of a seat that was joined to another: nothing.
abbrev pub spent : View
spent = record { parts = 0; drawn = []; missed = []; claimed = []; met = false; won = false }

-- After a draw that found this: the number after it was drawn, or missed where the word says that a
-- note is posted.
abbrev pub after_draw : View → ℕ → View
after_draw view found =
    if nat_le POSTED found
    then record view { missed = (found % POSTED + 1) ∷ view.missed; met = true }
    else record view { drawn = (found + 1) ∷ view.drawn }

-- After a claim that found this: the number after it was claimed.
abbrev pub after_claim : View → ℕ → View
after_claim view found = record view { claimed = (found + 1) ∷ view.claimed }

-- After a post that found this: the seat has met a posted note, and has won where none was posted
-- before.
abbrev pub after_post : View → ℕ → View
after_post view found = record view { met = true; won = view.won || nat_lt found POSTED }

-- After a seat is made of one of its parts.
abbrev pub with_part_less : View → View
with_part_less view = record view { parts = view.parts - 1 }

-- After another seat is joined: all that it has comes over.
abbrev pub after_join : View → View → View
after_join view other = record {
  parts = view.parts + other.parts;
  drawn = other.drawn ++ view.drawn;
  missed = other.missed ++ view.missed;
  claimed = other.claimed ++ view.claimed;
  met = view.met || other.met;
  won = view.won || other.won;
}

-- WHAT IS KEPT.

-- A view fits a number of seats that won: of its numbers, no more than its parts lie above the most
-- visits, or above the most room; it has met a posted note, or missed a number, only where one has
-- won; and where it has no part it has nothing.
pub record IsFit (winners : ℕ) (view : View) : Type 0 where
  pub draws : count_above MOST_EXPANSIONS view.drawn + count_above MOST_EXPANSIONS view.missed ≤ view.parts
  pub claims : count_above MOST_ROOM view.claimed ≤ view.parts
  pub met : IsTrue view.met → winners ≡ 1
  pub missed : winners ≡ 0 → view.missed ≡ []
  pub part : view.parts ≡ 0 → view ≡ spent

-- The rule. The first word holds the tickets, and above them whether a note is posted, which it is
-- exactly where one seat has won. In all views together the numbers drawn or missed are those from
-- 1 to the tickets, and the numbers claimed those from 1 to the second word, each once: whatever
-- each number weighs, both weigh the same. And the views have all parts together.
pub record IsKept (words : List ℕ) (views : List View) : Type 0 where
  pub tickets : ℕ
  pub winners : ℕ
  pub sized : length words ≡ 2
  pub visits : slice_index words 0 ≡ winners * POSTED + tickets
  pub draws : (weight : ℕ → ℕ) → sum_by (λ view. sum_by weight view.drawn + sum_by weight view.missed) views ≡ sum_to weight tickets
  pub claims : (weight : ℕ → ℕ) → sum_by (λ view. sum_by weight view.claimed) views ≡ sum_to weight (slice_index words 1)
  pub wins : sum_by (λ view. if view.won then 1 else 0) views ≡ winners
  pub once : winners ≤ 1
  pub parts : sum_by (λ view. view.parts) views ≡ MOST_SEATS
  pub fit : All (IsFit winners) views
