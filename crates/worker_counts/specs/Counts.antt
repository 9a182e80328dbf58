-- Counts of workers: what a seat knows, what each kind of step does to that, and what is kept of
-- all words and all seats.
use Rattle.std.specs.Prelude.{◌≡◌, ◌+◌, ◌-◌, ◌<◌, ◌≤◌, ◌==◌, ℕ, List, [], ◌∷◌, ◌++◌, length, slice_index, take, All, count_by, sum_by, if◌then◌else◌}
use Rattle.atomic_table.specs.Seated.{TableId}
use Rattle.worker_counts.specs.declared.view.TheConstants.{MOST_SEATS, MOST_ADDED, KEPT_LOADS}
use Rattle.worker_counts.specs.declared.view.View.{View}

-- A seat: of which counts it is, and what it knows.
pub record SeatView : Type 0 where
  pub counts : TableId
  pub view : View

-- How often a word stands in a list of words.
abbrev pub times : ℕ → List ℕ → ℕ
times word words = count_by (λ each. each == word) words

-- A list of words without the first that is this one.
abbrev pub without_one : ℕ → List ℕ → List ℕ
without_one word [] = []
without_one word (each ∷ others) = if each == word then others else (each ∷ without_one word others)

-- Words from a number on aren't in a list of words.
abbrev pub AreBelow : ℕ → List ℕ → Type 0
AreBelow size words = (word : ℕ) → size ≤ word → times word words ≡ 0

-- WHAT A STEP DOES TO A VIEW.

-- The view of the first seat: it has every part, has added nothing, and has loaded nothing.
abbrev pub whole : View
whole = record { parts = MOST_SEATS; added = []; loads = []; loaded = 0; found = 0 }

-- The view of a new seat: it has one part, has added nothing, and has loaded nothing.
abbrev pub newcomer : View
newcomer = record { parts = 1; added = []; loads = []; loaded = 0; found = 0 }

-- After a load: the word and its count stand before the earlier loads, of which the last ones are
-- kept.
abbrev pub after_load : View → ℕ → ℕ → View
after_load view word count = record view { loads = take KEPT_LOADS ((word, count) ∷ view.loads); loaded = view.loaded + 1 }

-- After an add to a word that was so much: it stands among the added ones once more.
abbrev pub after_add : View → ℕ → ℕ → View
after_add view word count = record view { added = word ∷ view.added; found = count }

-- After a subtract from a word that was so much: it stands among the added ones once less.
abbrev pub after_subtract : View → ℕ → ℕ → View
after_subtract view word count = record view { added = without_one word view.added; found = count }

-- After a seat is made of one of its parts.
abbrev pub with_part_less : View → View
with_part_less view = record view { parts = view.parts - 1 }

-- After another seat is joined: its parts and what it has added come over.
abbrev pub after_join : View → View → View
after_join view other = record view { parts = view.parts + other.parts; added = other.added ++ view.added }

-- What is left of a seat that was joined to another: it has no part, and has added nothing.
abbrev pub spent : View
spent = record { parts = 0; added = []; loads = []; loaded = 0; found = 0 }

-- WHAT IS KEPT.

-- A view has added no more than it may, and nothing where it has no part.
pub record IsFit (view : View) : Type 0 where
  pub few : length view.added ≤ MOST_ADDED
  pub part : view.parts ≡ 0 → view.added ≡ []

-- The rule: each word is how often it stands among what the views have added, all together, and the
-- views have all parts together. So no more seats have a part than there are parts, and no word
-- overflows.
pub record IsKept (size : ℕ) (words : List ℕ) (views : List View) : Type 0 where
  pub sized : length words ≡ size
  pub counts : (word : ℕ) → word < size → slice_index words word ≡ sum_by (λ view. times word view.added) views
  pub parts : sum_by (λ view. view.parts) views ≡ MOST_SEATS
  pub fit : All IsFit views

-- LAWS OF WHAT WAS ADDED.

-- One more of a word counts for that word alone.
abbrev pub OneMoreCounts : Type 0
OneMoreCounts = (word each : ℕ) (added : List ℕ)
    → times word (each ∷ added) ≡ times word added + (if each == word then 1 else 0)

-- One less of a word that was added counts for that word alone.
abbrev pub OneLessCounts : Type 0
OneLessCounts = (word each : ℕ) (added : List ℕ) → 0 < times each added
    → times word (without_one each added) + (if each == word then 1 else 0) ≡ times word added

-- One less of a word that was added leaves one word less.
abbrev pub LessIsShorter : Type 0
LessIsShorter = (word : ℕ) (added : List ℕ) → 0 < times word added → length (without_one word added) + 1 ≡ length added

-- What is joined counts together.
abbrev pub JoinedCount : Type 0
JoinedCount = (word : ℕ) (added others : List ℕ) → times word (others ++ added) ≡ times word added + times word others

-- Where no word counts, nothing was added.
abbrev pub NoneIsEmpty : Type 0
NoneIsEmpty = (added : List ℕ) → ((word : ℕ) → times word added ≡ 0) → added ≡ []
