-- What was read behind a first line, and what is wrong there.
use Rattle.std.proofs.Common.{inl, inr, ◌⊎◌, ◌↔◌, Bool, false, ◌≡◌, ◌≢◌, ◌<◌, ◌≤◌, ◌+◌, ◌^◌, ℕ, zero, suc, List, [], ◌∷◌, ◌++◌, length, take, take_all, sym, ap, subst, ◌∙◌, append_assoc, arith}
use Rattle.std.specs.Prelude.{IsTrue, Result, Ok, Err, Contains}
use Rattle.std.specs.Result.{IsErr, IsErrAnd}
use Rattle.std.specs.Fmt.{decimal}
use Rattle.std.specs.List.{AllByRecursion}
use Rattle.std.specs.Ordering.{nat_cmp}
use Rattle.std.specs.Cmp.Lexicographic.{slice_cmp}
use Rattle.std.specs.declared.cmp.Ordering.TheVariants.{Less}
use Rattle.std.proofs.lemmas.Bool.{false≢true}
use Rattle.std.proofs.lemmas.List.{length_push}
use Rattle.hand_dominance.specs.declared.version.Version.TheVariants.{One}
use Rattle.board_core.specs.Board.{Board}
use Rattle.sfen_text.specs.Spelling.{sfen_of}
use Rattle.sfen_text.specs.Laws.{TextsHaveBytes}
use Rattle.cert_text.specs.Entries.{line}
use Rattle.cert_text.specs.Certificate.{CertificateView, MayBeListed, IsListing}
use Rattle.cert_text.specs.Text.{entries_text, end_line}
use Rattle.cert_text.specs.Reading.{Lacks, AreGood}
use Rattle.cert_text.proofs.Offered.{read_none, read_on, lacks_stops, bad_stops, fall_stops}
use Rattle.shogi_rules.specs.Tsume.{IsProblem}
use Rattle.bound_text.specs.declared.entry.BoundEntry.{BoundEntry}
use Rattle.bound_text.specs.declared.fault.BadBound.{BadBound}
use Rattle.bound_text.specs.declared.fault.BoundEnd.{BoundEnd}
use Rattle.bound_text.specs.declared.fault.BoundEnd.TheVariants.{Fault, NoMemory}
use Rattle.bound_text.specs.Bound.{bound_form, bound_entry_text}
use Rattle.bound_text.specs.Text.{first_line}
use Rattle.bound_text.specs.Reading.{IsNumber, number_of, IsHead, Begins, HasNoNext, LacksEntry, LacksEnd, HasMore, HasFirstFault, IsBoundOutcome}
use Rattle.bound_text.specs.Scan.{IsEndOutcome, HasReadSome, IsEntriesOutcome}
use Rattle.bound_text.proofs.Entries.{Laws, bound_told}
use Rattle.bound_text.proofs.Numbers.{number_of-decimal, decimal-number_of}

-- 1. Reading on.

pub read_first : TextsHaveBytes → (problem : Board) (digits text : List ℕ) → HasReadSome problem digits text [] text []
read_first bytes problem digits text = record { read = read_none (bound_form problem) text bytes; few = omega arith }

-- the digits aren't those of so many entries as were read: the first line tells more
pub more_told : (digits : List ℕ) (n count : ℕ) (is : Bool) → IsNumber digits → count ≡ n → n < 2 ^ 64 → n ≤ number_of digits
    → (IsTrue is ↔ (digits ≡ decimal count)) → is ≡ false → n < number_of digits
more_told digits n count is number same small few tells not =
    let apart : n ≢ number_of digits = λ (e : n ≡ number_of digits).
    false≢true (sym not ∙ tells.1 (sym (ap decimal (same ∙ e) ∙ decimal-number_of digits number (omega arith)))) in
    omega (arith, apart)

-- they are: it tells no more
pub all_told : (digits : List ℕ) (n count : ℕ) → count ≡ n → n < 2 ^ 64 → digits ≡ decimal count → n ≡ number_of digits
all_told digits n count same small e = sym (ap number_of (e ∙ ap decimal same) ∙ number_of-decimal n small)

pub read_next : (problem : Board) (digits bytes : List ℕ) (entries pushed : List BoundEntry) (rest last text more sfen : List ℕ) (entry : BoundEntry)
    → HasReadSome problem digits bytes entries rest last → length entries < number_of digits
    → rest ≡ text ++ 10 ∷ more → MayBeListed (bound_form problem) entry → bound_entry_text entry ≡ line text → sfen ≡ sfen_of entry.at
    → slice_cmp nat_cmp last sfen ≡ Less → pushed ≡ entries ++ entry ∷ [] → HasReadSome problem digits bytes pushed more sfen
read_next problem digits bytes entries pushed rest last text more sfen entry some fewer p fits e same before is =
    let longer = length_push entries entry in
    let count = ap length is in record {
      read = read_on (bound_form problem) bytes entries pushed rest last text more sfen entry some.read p fits e same before is;
      few = omega arith;
    }

-- 2. No entry follows.

lone_line : (rest text more : List ℕ) → rest ≡ text ++ 10 ∷ more → rest ≡ line text ++ more
lone_line rest text more p = p ∙ sym (append_assoc text (10 ∷ []) more)

module _ (laws : Laws) (problem : Board) where
  pub no_line : (entries : List BoundEntry) (rest : List ℕ) → Lacks 10 rest → HasNoNext problem entries rest
  no_line entries rest lack = lacks_stops (bound_form problem) (bound_told laws problem) entries rest lack

  pub no_entry : (entries : List BoundEntry) (rest text more : List ℕ) → rest ≡ text ++ 10 ∷ more → Lacks 10 text
      → ((entry : BoundEntry) → MayBeListed (bound_form problem) entry → bound_entry_text entry ≡ line text → ⊥) → HasNoNext problem entries rest
  no_entry entries rest text more p lack none =
      subst (HasNoNext problem entries) (sym (lone_line rest text more p)) (bad_stops (bound_form problem) (bound_told laws problem) entries text more lack none)

  pub no_rise : (entries : List BoundEntry) (digits bytes rest last text more sfen : List ℕ) (entry : BoundEntry) → HasReadSome problem digits bytes entries rest last
      → rest ≡ text ++ 10 ∷ more → MayBeListed (bound_form problem) entry → bound_entry_text entry ≡ line text → sfen ≡ sfen_of entry.at
      → (slice_cmp nat_cmp last sfen ≡ Less → ⊥) → HasNoNext problem entries rest
  no_rise entries digits bytes rest last text more sfen entry some p fits e same not_before =
      subst (HasNoNext problem entries) (sym (lone_line rest text more p ∙ ap (λ (t : List ℕ). t ++ more) (sym e)))
      (fall_stops (bound_form problem) (bound_told laws problem) entries entry more fits
      (λ rising. not_before (subst (λ (s : List ℕ). slice_cmp nat_cmp last s ≡ Less) (sym same) ((some.read.follows entry).1 rising))))

-- 3. The faults.

begun : (problem : Board) (digits text : List ℕ) (entries : List BoundEntry) (rest last : List ℕ) → IsNumber digits → HasReadSome problem digits text entries rest last
    → Begins problem digits entries rest (first_line digits ++ text)
begun problem digits text entries rest last is some = record {
  head = record { is_number = is; text = ap (λ (t : List ℕ). first_line digits ++ t) some.read.so_far };
  good = some.read.good;
  few = some.few;
}

at_number : (problem : Board) (bytes : List ℕ) (n number : ℕ) → number ≡ n + 1
    → LacksEntry problem number bytes ⊎ LacksEnd problem number bytes ⊎ HasMore problem number bytes → HasFirstFault problem bytes number
at_number problem bytes n zero is h = absurd (omega arith)
at_number problem bytes n (suc number) is h = h

pub lacks_entry : (problem : Board) (digits text : List ℕ) (entries : List BoundEntry) (rest last : List ℕ) (number : ℕ) → IsNumber digits
    → HasReadSome problem digits text entries rest last → length entries < number_of digits → number ≡ length entries + 1 → HasNoNext problem entries rest
    → HasFirstFault problem (first_line digits ++ text) number
lacks_entry problem digits text entries rest last number is some fewer number_is none =
    at_number problem (first_line digits ++ text) (length entries) number number_is (inl (record {
      digits = digits;
      entries = entries;
      rest = rest;
      begins = begun problem digits text entries rest last is some;
      fewer = fewer;
      number_is = number_is;
      no_next = none;
    }))

pub end_fault : (problem : Board) (digits text : List ℕ) (entries : List BoundEntry) (rest last : List ℕ) (count : ℕ) (fault : BadBound) → IsNumber digits
    → HasReadSome problem digits text entries rest last → length entries ≡ count → length entries ≡ number_of digits → IsEndOutcome count rest (Err fault)
    → HasFirstFault problem (first_line digits ++ text) fault.line
end_fault problem digits text entries rest last count fault is some count_is all (inl h) =
    let number = h.0 in
    at_number problem (first_line digits ++ text) (length entries) fault.line (omega arith) (inr (inl (record {
      digits = digits;
      entries = entries;
      rest = rest;
      begins = begun problem digits text entries rest last is some;
      all = all;
      number_is = omega arith;
      no_end = h.1;
    })))
end_fault problem digits text entries rest last count fault is some count_is all (inr h) =
    let number = h.0 in
    at_number problem (first_line digits ++ text) (length entries + 1) fault.line (omega arith) (inr (inr (record {
      digits = digits;
      entries = entries;
      more = h.1;
      begins = subst (λ (t : List ℕ). Begins problem digits entries t (first_line digits ++ text)) h.3 (begun problem digits text entries rest last is some);
      all = all;
      number_is = omega arith;
      some = h.2;
    })))

-- 4. The whole text.

listed_from : (problem : Board) (xs : List BoundEntry) → AllByRecursion (MayBeListed (bound_form problem)) xs → (x : BoundEntry) → Contains xs x
    → (bound_form problem).Lists x
listed_from problem [] all x there = let inside = there.1 in absurd (omega arith)
listed_from problem (y ∷ xs) all x (zero, inside, e) = subst (bound_form problem).Lists e all.0.listed
listed_from problem (y ∷ xs) all x (suc k, inside, e) = listed_from problem xs all.1 x (k, omega arith, e)

pub listing : (problem : Board) (entries : List BoundEntry) → IsProblem problem → AreGood (bound_form problem) entries
    → IsListing (bound_form problem) (record { version = One; problem = problem; entries = entries })
listing problem entries is good = record { is_problem = is; rising = good.rising; listed = listed_from problem entries good.fit }

pub whole_read : (problem : Board) (digits rest bytes : List ℕ) (b : CertificateView BoundEntry) → IsHead digits rest bytes → b.version ≡ One → b.problem ≡ problem
    → AreGood (bound_form problem) b.entries → length b.entries ≡ number_of digits → length b.entries < 2 ^ 64
    → rest ≡ entries_text (bound_form problem) b.entries ++ end_line → IsBoundOutcome problem bytes (Ok b)
whole_read problem digits rest bytes b head version same good count small text = (
  record { version = version; same = same; good = good; few = small },
  head.text ∙ (ap (λ (t : List ℕ). first_line digits ++ t) text
      ∙ (ap (λ (d : List ℕ). first_line d ++ (entries_text (bound_form problem) b.entries ++ end_line))
      (sym (ap decimal count ∙ decimal-number_of digits head.is_number (omega arith)))
      ∙ ap (λ (p : Board). first_line (decimal (length b.entries)) ++ (entries_text (bound_form p) b.entries ++ end_line)) (sym same))),
)

-- what is wrong behind the first line is wrong in the whole text
pub fault_read : (problem : Board) (digits rest bytes : List ℕ) (end : BoundEnd) → IsHead digits rest bytes
    → IsEntriesOutcome {Found = List BoundEntry} (λ es. es) problem digits rest (Err end) → IsBoundOutcome problem bytes (Err end)
fault_read problem digits rest bytes (Fault fault) head h = subst (λ (t : List ℕ). HasFirstFault problem t fault.line) (sym head.text) h
fault_read problem digits rest bytes NoMemory head h = tt

-- what is passed on as it came is the same outcome
pub err_read : (problem : Board) (bytes : List ℕ) (outcome : Result (CertificateView BoundEntry) BoundEnd) (end : BoundEnd) → IsErr outcome
    → IsErrAnd outcome (λ found. found ≡ end) → IsBoundOutcome problem bytes (Err end) → IsBoundOutcome problem bytes outcome
err_read problem bytes (Ok b) end is same h = absurd (cc)
err_read problem bytes (Err found) end is same h = subst (λ (e : BoundEnd). IsBoundOutcome problem bytes (Err e)) (sym same) h

-- what is passed on of what is wrong at the end is wrong in the whole text
pub entries_err : {Found : Type 0} (view : Found → List BoundEntry) (problem : Board) (digits text : List ℕ) (outcome : Result Found BoundEnd) (fault : BadBound)
    → IsErr outcome → IsErrAnd outcome (λ found. found ≡ Fault fault) → HasFirstFault problem (first_line digits ++ text) fault.line
    → IsEntriesOutcome view problem digits text outcome
entries_err view problem digits text (Ok found) fault is same h = absurd (cc)
entries_err view problem digits text (Err found) fault is same h = subst (λ (e : BoundEnd). IsEntriesOutcome view problem digits text (Err e)) (sym same) h

-- 5. Writing.

pub whole_written : (problem : Board) (before old new : List ℕ) (items entries : List BoundEntry) (n : ℕ) → items ≡ entries → length items ≤ n
    → old ≡ before ++ (first_line (decimal (length items)) ++ entries_text (bound_form problem) (take n items)) → new ≡ old ++ end_line
    → new ≡ before ++ (first_line (decimal (length entries)) ++ (entries_text (bound_form problem) entries ++ end_line))
whole_written problem before old new items entries n same all p q =
    let whole = take_all n items all in
    q ∙ (ap (λ (t : List ℕ). t ++ end_line) (p ∙ ap (λ (es : List BoundEntry). before ++ (first_line (decimal (length items)) ++ entries_text (bound_form problem) es)) whole)
    ∙ (append_assoc before (first_line (decimal (length items)) ++ entries_text (bound_form problem) items) end_line
    ∙ (ap (λ (t : List ℕ). before ++ t) (append_assoc (first_line (decimal (length items))) (entries_text (bound_form problem) items) end_line)
    ∙ ap (λ (es : List BoundEntry). before ++ (first_line (decimal (length es)) ++ (entries_text (bound_form problem) es ++ end_line))) same)))
