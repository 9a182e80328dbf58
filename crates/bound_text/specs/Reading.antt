-- What a text is read as, for a problem: the bound whose text it is, or the number of the first
-- line that is wrong. Relations between whole texts and outcomes.
use Rattle.std.specs.Prelude.{◌≡◌, ◌≢◌, ◌⊎◌, ◌+◌, ◌<◌, ◌≤◌, ◌^◌, ℕ, zero, suc, List, [], ◌∷◌, ◌++◌, length, slice_index, Result, Ok, Err}
use Rattle.std.specs.Str.Parse.{IsNumeral, digits_value}
use Rattle.hand_dominance.specs.declared.version.Version.TheVariants.{One}
use Rattle.board_core.specs.Board.{Board}
use Rattle.cert_text.specs.Certificate.{CertificateView, IsRising, MayBeListed}
use Rattle.cert_text.specs.Text.{entries_text, end_line}
use Rattle.cert_text.specs.Reading.{AreGood}
use Rattle.bound_text.specs.declared.entry.BoundEntry.{BoundEntry}
use Rattle.bound_text.specs.declared.fault.BoundEnd.{BoundEnd}
use Rattle.bound_text.specs.declared.fault.BoundEnd.TheVariants.{Fault, NoMemory}
use Rattle.bound_text.specs.Bound.{bound_form, bounded_in}
use Rattle.bound_text.specs.Text.{first_line, bound_text}

-- The text is a number, however great: one decimal digit or more, the first of several not being
-- zero.
pub record IsNumber (digits : List ℕ) : Type 0 where
  pub numeral : IsNumeral 10 digits
  pub no_zero_leads : slice_index digits 0 ≡ 48 → length digits ≡ 1

-- The number that the digits tell.
abbrev pub number_of : List ℕ → ℕ
number_of digits = digits_value 10 digits

-- The text begins with the first line of a bound, in which the number of entries has these digits,
-- and then comes the rest.
pub record IsHead (digits rest bytes : List ℕ) : Type 0 where
  pub is_number : IsNumber digits
  pub text : bytes ≡ first_line digits ++ rest

-- The text begins with the first line of a bound and behind it with entries, no more than that line
-- tells, and then comes the rest. The entries may be listed, for the problem, and their positions
-- rise.
pub record Begins (problem : Board) (digits : List ℕ) (entries : List BoundEntry) (rest bytes : List ℕ) : Type 0 where
  pub head : IsHead digits (entries_text (bound_form problem) entries ++ rest) bytes
  pub good : AreGood (bound_form problem) entries
  pub few : length entries ≤ number_of digits

-- The text begins with no first line of a bound.
abbrev pub HasNoHead : List ℕ → Type 0
HasNoHead bytes = (digits rest : List ℕ) → ¬ IsHead digits rest bytes

-- No entry follows in the text: what may be listed and stands at its front doesn't rise behind
-- these entries.
abbrev pub HasNoNext : Board → List BoundEntry → List ℕ → Type 0
HasNoNext problem entries text = (next : BoundEntry) (more : List ℕ) → MayBeListed (bound_form problem) next
    → text ≡ (bound_form problem).text_of next ++ more → ¬ IsRising (bounded_in (entries ++ next ∷ []))

-- Behind entries, fewer than the first line tells, the line with this number is no entry that comes
-- next.
pub record LacksEntry (problem : Board) (number : ℕ) (bytes : List ℕ) : Type 0 where
  pub digits : List ℕ
  pub entries : List BoundEntry
  pub rest : List ℕ
  pub begins : Begins problem digits entries rest bytes
  pub fewer : length entries < number_of digits
  pub number_is : number ≡ length entries + 1
  pub no_next : HasNoNext problem entries rest

-- Behind as many entries as the first line tells, the line with this number isn't `end`.
pub record LacksEnd (problem : Board) (number : ℕ) (bytes : List ℕ) : Type 0 where
  pub digits : List ℕ
  pub entries : List BoundEntry
  pub rest : List ℕ
  pub begins : Begins problem digits entries rest bytes
  pub all : length entries ≡ number_of digits
  pub number_is : number ≡ length entries + 1
  pub no_end : (more : List ℕ) → rest ≢ end_line ++ more

-- Behind as many entries as the first line tells and the line `end` come bytes: their line has this
-- number.
pub record HasMore (problem : Board) (number : ℕ) (bytes : List ℕ) : Type 0 where
  pub digits : List ℕ
  pub entries : List BoundEntry
  pub more : List ℕ
  pub begins : Begins problem digits entries (end_line ++ more) bytes
  pub all : length entries ≡ number_of digits
  pub number_is : number ≡ length entries + 2
  pub some : more ≢ []

-- The line with this number, from 0 for the first, is wrong, and none before it.
abbrev pub HasFirstFault : Board → List ℕ → ℕ → Type 0
HasFirstFault problem bytes zero = HasNoHead bytes
HasFirstFault problem bytes (suc n) = LacksEntry problem (suc n) bytes ⊎ LacksEnd problem (suc n) bytes ⊎ HasMore problem (suc n) bytes

-- A bound can be read for a problem: it is of version 1, the problem is the bound's, and the
-- entries may stand in a text and rise. (No list of this program is longer than 2 ^ 64.)
pub record IsReadable (problem : Board) (b : CertificateView BoundEntry) : Type 0 where
  pub version : b.version ≡ One
  pub same : b.problem ≡ problem
  pub good : AreGood (bound_form problem) b.entries
  pub few : length b.entries < 2 ^ 64

-- The outcome to a text for a problem: the bound whose text it is; else the first line that is
-- wrong; or want of memory.
abbrev pub IsBoundOutcome : Board → List ℕ → Result (CertificateView BoundEntry) BoundEnd → Type 0
IsBoundOutcome problem bytes (Ok b) = IsReadable problem b × (bytes ≡ bound_text b)
IsBoundOutcome problem bytes (Err (Fault fault)) = HasFirstFault problem bytes fault.line
IsBoundOutcome problem bytes (Err NoMemory) = Unit {0}

-- The outcome is this bound, or want of memory.
abbrev pub IsReadAs : CertificateView BoundEntry → Result (CertificateView BoundEntry) BoundEnd → Type 0
IsReadAs b (Ok found) = found ≡ b
IsReadAs b (Err (Fault fault)) = ⊥
IsReadAs b (Err NoMemory) = Unit {0}

-- The outcome is that this line is wrong, or want of memory.
abbrev pub IsFaultAs : ℕ → Result (CertificateView BoundEntry) BoundEnd → Type 0
IsFaultAs line (Ok b) = ⊥
IsFaultAs line (Err (Fault fault)) = fault.line ≡ line
IsFaultAs line (Err NoMemory) = Unit {0}
