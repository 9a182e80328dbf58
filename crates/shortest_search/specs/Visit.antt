-- What a visit answers: whether a mate from a position is known to take so many moves or fewer.
use Rattle.std.specs.Prelude.{◌≡◌, ◌<◌, ◌≤◌, ℕ, Bool, true, false, Option, Some, None, Result, Ok, Err}
use Rattle.board_core.specs.Board.{Board}
use Rattle.search_gate.specs.Stop.{Signal, one_more}
use Rattle.shortest_facts.specs.Facts.{Known, AreBorneOut, IsBetter}
use Rattle.shortest_facts.specs.Keys.{known_of}
use Rattle.shortest_search.specs.declared.run.Run.{Run}
use Rattle.shortest_search.specs.declared.run.VisitEnd.{VisitEnd}
use Rattle.shortest_search.specs.declared.run.VisitEnd.TheVariants.{Spent, Stopped, NoMemory}

-- The answer is right by what is known: yes, a mate in so many moves or fewer is known; no, it is
-- known that none is.
abbrev pub IsRight : Known → Board → ℕ → Bool → Type 0
IsRight k b within true = (k.at b).most ≤ within
IsRight k b within false = within < (k.at b).least

-- What came of a visit, by what is known behind it: the answer, which is right; that all expansions
-- were made; or another end.
abbrev pub IsOutcome : Run → Board → ℕ → Result Bool VisitEnd → Type 0
IsOutcome run b within (Ok answer) = IsRight (known_of run.facts) b within answer
IsOutcome run b within (Err Spent) = run.made ≡ run.most
IsOutcome run b within (Err Stopped) = Unit {0}
IsOutcome run b within (Err NoMemory) = Unit {0}

-- A mate from the position is known in so many moves or fewer.
abbrev pub HasMate : Known → Board → ℕ → Type 0
HasMate k b within = (k.at b).most ≤ within

-- A mate from the position is known to take so many moves at least, which are more than the number.
pub record TakesMore (k : Known) (b : Board) (number least : ℕ) : Type 0 where
  pub more : number < least
  pub known : least ≤ (k.at b).least

-- A mate from the position is known in so many moves at most, which are no more than the number.
pub record TakesNoMore (k : Known) (b : Board) (number most : ℕ) : Type 0 where
  pub few : most ≤ number
  pub known : (k.at b).most ≤ most

-- What came of a try of one move: nothing, where it decides; else a number; that all expansions
-- were made; or another end.
abbrev pub IsTried : Type 0 → (ℕ → Type 0) → Run → Result (Option ℕ) VisitEnd → Type 0
IsTried Decides Leaves run (Ok None) = Decides
IsTried Decides Leaves run (Ok (Some number)) = Leaves number
IsTried Decides Leaves run (Err Spent) = run.made ≡ run.most
IsTried Decides Leaves run (Err Stopped) = Unit {0}
IsTried Decides Leaves run (Err NoMemory) = Unit {0}

-- Nothing but memory was wanted.
abbrev pub IsMemory : {Answer : Type 0} → Result Answer VisitEnd → Type 0
IsMemory (Ok answer) = Unit {0}
IsMemory (Err Spent) = ⊥
IsMemory (Err Stopped) = ⊥
IsMemory (Err NoMemory) = Unit {0}

-- The length of the position's mate is known, from both sides, and is within the limit.
pub record IsLength (k : Known) (b : Board) (limit : ℕ) : Type 0 where
  pub exact : (k.at b).most ≤ (k.at b).least
  pub within : (k.at b).most ≤ limit

-- What came of looking for a length, by what is known behind it: it is known; or more than the
-- limit is; all expansions were made; or another end.
abbrev pub IsLengthOutcome : Run → Board → ℕ → Result Bool VisitEnd → Type 0
IsLengthOutcome run b limit (Ok true) = IsLength (known_of run.facts) b limit
IsLengthOutcome run b limit (Ok false) = limit < ((known_of run.facts).at b).least
IsLengthOutcome run b limit (Err Spent) = run.made ≡ run.most
IsLengthOutcome run b limit (Err Stopped) = Unit {0}
IsLengthOutcome run b limit (Err NoMemory) = Unit {0}

-- The search went on: what is known only got better and is borne out; no expansion was taken back,
-- and none made beyond the most.
pub record GoesOn (before after_it : Run) : Type 0 where
  pub borne_out : AreBorneOut (known_of after_it.facts)
  pub better : IsBetter (known_of before.facts) (known_of after_it.facts)
  pub same_most : after_it.most ≡ before.most
  pub made : before.made ≤ after_it.made
  pub within : after_it.made ≤ after_it.most

-- A stop is polled and nothing else; it signalled exactly where that is what ended the search, once
-- and last.
abbrev pub IsStopped : {Answer : Type 0} → Result Answer VisitEnd → Signal → Signal → Type 0
IsStopped (Err Stopped) before after_it = (after_it.raised ≡ one_more before.raised) × (after_it.last ≡ after_it.polls)
IsStopped (Err Spent) before after_it = after_it.raised ≡ before.raised
IsStopped (Err NoMemory) before after_it = after_it.raised ≡ before.raised
IsStopped (Ok answer) before after_it = after_it.raised ≡ before.raised
