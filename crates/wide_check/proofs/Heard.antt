-- The verdict, from what was found in stretches.
use Rattle.std.proofs.Common.{◌≡◌, ◌↔◌, ◌<◌, ◌≤◌, ◌+◌, ◌-◌, ◌*◌, ◌/◌, ℕ, zero, suc, List, length, arith, sym, subst, ⊎_elim}
use Rattle.board_core.specs.Board.{Board}
use Rattle.cert_text.specs.declared.certificate.Certificate.{Certificate}
use Rattle.cert_check.specs.Valid.{IsValid}
use Rattle.cert_check.specs.declared.verdict.Verdict.{Verdict}
use Rattle.cert_check.specs.declared.verdict.Verdict.TheVariants.{Accepted}
use Rattle.std.specs.Prelude.{Result, Ok, Err, IfOk, Some, None, Option, slice_get, min}
use Rattle.std.proofs.Math.Nat.{div-mul-le_self, lt-div-mul-add, mul-le-mul_right}
use Rattle.std.proofs.lemmas.Nat.{div_below}
use Rattle.std.proofs.lemmas.Grind.{div_ceil_times}
use Rattle.std.specs.Int.{div_ceil}
use Rattle.std.proofs.lemmas.Bool.{cases_lt}
use Rattle.std.proofs.lemmas.Option.{slice_get_within}
use Rattle.side_by_side.specs.Answers.{AreAnswers}
use Rattle.cert_text.specs.Kinds.{positions_in}
use Rattle.cert_check.specs.Hearing.{Case}
use Rattle.cert_check.specs.Reasons.{EntryHolds, IsVerdict}
use Rattle.cert_check.specs.declared.hearing.Objection.{Objection}
use Rattle.wide_check.specs.Stretches.{stretch_end, IsFoundInStretch, IsFoundBefore, IsFoundInAll, IsFirstOf}

-- the stretch of an entry's own number has it
inside : (size from to place : ℕ) → 1 ≤ size → from ≤ place → place < to → place < stretch_end (from + (place - from) / size * size) size to
inside size from to place some fore low =
    let b = lt-div-mul-add {a = place - from} {b = size} some in
    omega (arith, b, fore, low)

-- where so many of the stretches found nothing, the entries before their end hold what they have to
heard : (case : Case) (from to size count : ℕ) (found : List (Option Objection)) → 1 ≤ size → AreAnswers count (IsFoundInStretch case from to size) found
    → (m : ℕ) → ((number : ℕ) → number < m → slice_get found number ≡ Some None)
    → (place : ℕ) → from ≤ place → place < to → place < from + m * size → EntryHolds case.certificate case.problem.side place
heard case from to size count found some are m none place fore low before =
    let own = div_below (place - from) size m some (omega (arith, fore, before)) in
    let start = div-mul-le_self (place - from) size in
    are.each ((place - from) / size) None (none ((place - from) / size) own) place (omega (arith, start, fore)) (inside size from to place some fore low)

-- each stretch begins at an entry
pub begins : (size n number : ℕ) → 1 ≤ size → number < div_ceil n size → number * size < n
begins size n number some low =
    let b = (div_ceil_times n size some).1 in
    let c = mul-le-mul_right {m = number + 1} {n = div_ceil n size} size (omega (arith, low)) in
    omega (arith, b, c)

positive : (q size n : ℕ) → n ≤ q * size → 0 < n → 0 < q
positive zero size n h some = absurd (omega arith)
positive (suc q) size n h some = omega arith

-- where there are entries there is a stretch
pub any_stretch : (size n : ℕ) → 1 ≤ size → 0 < n → 0 < div_ceil n size
any_stretch size n some low = positive (div_ceil n size) size n ((div_ceil_times n size some).0) low

-- so many stretches end behind where they begin, and where they are counted up to a limit above all
pub ends_behind : (from size count many limit : ℕ) → 1 ≤ size → from < count → 0 < many → count ≤ limit
    → (from < stretch_end from (min (many * size) limit) count) × (stretch_end from (min (many * size) limit) count ≡ stretch_end from (many * size) count)
ends_behind from size count many limit some low any within =
    let whole = mul-le-mul_right {m = 1} {n = many} size (omega (arith, any)) in
    (omega (arith, whole, some, low, within), omega (arith, whole, some, low, within))

-- what is found before the end of so many stretches, where nothing was found before them
pub first_found : (case : Case) (from to size count : ℕ) (found : List (Option Objection)) (first : Option Objection) → 1 ≤ size → from ≤ to
    → IsFoundBefore case from None → count ≤ div_ceil (to - from) size → AreAnswers count (IsFoundInStretch case from to size) found → IsFirstOf found first
    → IsFoundBefore case (stretch_end from (count * size) to) first
first_found case from to size count found None some forth before few are none = λ place _ low.
    ⊎_elim (λ (under : place < from). before place (omega arith) under)
    (λ (fore : from ≤ place).
    heard case from to size count found some are count (λ number under. none number (subst (λ (n : ℕ). number < n) (sym are.all) under)) place fore
    (omega (arith, low)) (omega (arith, low, fore)))
    (cases_lt place from)
first_found case from to size count found (Some objection) some forth before few are (number, there, sooner) =
    let one = are.each number (Some objection) there in
    let own : number < count = subst (λ (n : ℕ). number < n) are.all (slice_get_within found number (Some objection) there) in
    let ends = one.ends in
    let start = begins size (to - from) number some (omega (arith, own, few)) in
    let whole = mul-le-mul_right {m = number + 1} {n = count} size (omega (arith, own)) in
    record {
      begins = omega arith;
      ends = omega (arith, ends, start, forth, whole);
      sooner = λ place _ earlier.
          ⊎_elim (λ (under : place < from). before place (omega arith) under)
          (λ (fore : from ≤ place).
          let low : place < to = omega (arith, ends, earlier, start, forth) in
          ⊎_elim (λ (under : place < from + number * size). heard case from to size count found some are number sooner place fore low under)
          (λ (own : from + number * size ≤ place). one.sooner place own earlier)
          (cases_lt place (from + number * size)))
          (cases_lt place from);
      first = one.first;
    }

-- what is found before an entry is found among all
pub found_in_all : (case : Case) (to : ℕ) (objection : Objection) → to ≤ length (positions_in case.certificate) → IsFoundBefore case to (Some objection) → IsFoundInAll case (Some objection)
found_in_all case to objection within found =
    let ends = found.ends in
    record { begins = found.begins; ends = omega (arith, ends, within); sooner = found.sooner; first = found.first }

-- a verdict is that the certificate is accepted exactly where it is valid
pub accepted_where_valid : {E : Type 0} (c : Certificate) (p : Board) → ((verdict : Verdict) → IsVerdict c p verdict → IsValid c p → verdict ≡ Accepted)
    → (r : Result Verdict E) → IfOk r (IsVerdict c p) → IfOk r (λ verdict. (verdict ≡ Accepted) ↔ IsValid c p)
accepted_where_valid c p law (Ok verdict) is = ((λ e. subst (IsVerdict c p) e is), (λ valid. law verdict is valid))
accepted_where_valid c p law (Err e) is = is
