-- What the loop over the entries' lines has read: it serves private functions alone.
use Rattle.std.specs.Prelude.{◌≡◌, ◌≢◌, ◌⊎◌, ◌+◌, ◌≤◌, ℕ, List, [], ◌++◌, length, Result, Ok, Err}
use Rattle.board_core.specs.Board.{Board}
use Rattle.cert_text.specs.Text.{entries_text, end_line}
use Rattle.cert_text.specs.Reading.{AreGood}
use Rattle.cert_text.specs.Scan.{HasRead}
use Rattle.bound_text.specs.declared.entry.BoundEntry.{BoundEntry}
use Rattle.bound_text.specs.declared.fault.BadBound.{BadBound}
use Rattle.bound_text.specs.declared.fault.BoundEnd.{BoundEnd}
use Rattle.bound_text.specs.declared.fault.BoundEnd.TheVariants.{Fault, NoMemory}
use Rattle.bound_text.specs.Bound.{bound_form}
use Rattle.bound_text.specs.Text.{first_line}
use Rattle.bound_text.specs.Reading.{HasFirstFault, number_of}

-- What comes behind all entries, so many: the line `end` alone, or the line that is wrong in its
-- place or behind it.
abbrev pub IsEndOutcome : ℕ → List ℕ → Result (Unit {0}) BadBound → Type 0
IsEndOutcome count text (Ok _) = text ≡ end_line
IsEndOutcome count text (Err fault) = ((fault.line ≡ count + 1) × ((more : List ℕ) → text ≢ end_line ++ more))
    ⊎ ((fault.line ≡ count + 2) × (more : List ℕ) × (more ≢ []) × (text ≡ end_line ++ more))

-- Good entries, no more than the digits tell, were read, the last with this SFEN text, and the rest
-- is still to be read.
pub record HasReadSome (problem : Board) (digits text : List ℕ) (entries : List BoundEntry) (rest last : List ℕ) : Type 0 where
  pub read : HasRead (bound_form problem) text entries rest last
  pub few : length entries ≤ number_of digits

-- The lines behind a first line with these digits: the entries in them up to the line `end`, which
-- is the last; or the fault that the whole text has.
abbrev pub IsEntriesOutcome : {Found : Type 0} → (Found → List BoundEntry) → Board → List ℕ → List ℕ → Result Found BoundEnd → Type 0
IsEntriesOutcome view problem digits text (Ok found) = AreGood (bound_form problem) (view found) × (length (view found) ≡ number_of digits)
    × (text ≡ entries_text (bound_form problem) (view found) ++ end_line)
IsEntriesOutcome view problem digits text (Err (Fault fault)) = HasFirstFault problem (first_line digits ++ text) fault.line
IsEntriesOutcome view problem digits text (Err NoMemory) = Unit {0}
