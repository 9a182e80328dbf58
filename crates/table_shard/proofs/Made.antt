-- What is kept of the rows of a shard when one of them is made, changes, or is given up.
use Rattle.std.proofs.Common.{◌≡◌, ◌≢◌, ◌<◌, ◌≤◌, ◌+◌, ◌-◌, ◌^◌, ◌++◌, ℕ, zero, suc, List, [], ◌∷◌, length, get_or, set, replicate, inl, inr, sym, subst, ap, ◌∙◌, refl, arith, Bool, true, false, cond}
use Rattle.std.specs.Prelude.{All, IsSomeAnd, count_by, slice_get, Some}
use Rattle.std.proofs.lemmas.Bool.{cases_eq}
use Rattle.std.proofs.lemmas.Bool.Decides.{nat_tests}
use Rattle.std.proofs.lemmas.List.{length-set, length_push, length-map, length-replicate, get_or-map, get_or-set_same, get_or-set_other, get_or_append_left, get_or_push, get_or-replicate, get_or_default, ext_get_or}
use Rattle.std.proofs.lemmas.List.Elements.{All-push, All-set, All-nil, All-pop}
use Rattle.std.proofs.lemmas.List.Folds.{sum_by-replicate}
use Rattle.std.proofs.lemmas.List.Sums.{sum_by-set, sum_by-cons}
use Rattle.table_shard.specs.Entry.{EntryView, IsEntry}
use Rattle.table_shard.specs.Row.{IsRow}
use Rattle.table_shard.specs.Made.{AreMade, rows_at, is_blank}

abbrev one_if : Bool → ℕ
one_if b = cond b 1 0

abbrev no_entries : List EntryView
no_entries = []

pub empty_row : IsRow []
empty_row = record { few = omega arith; entries = All-nil IsEntry; apart = λ one other key a b. absurd a }

pub length_rows : (numbers : List ℕ) (made : List (List EntryView)) → length (rows_at numbers made) ≡ length numbers
length_rows numbers made = length-map numbers (λ (n : ℕ). get_or made n [])

-- the row of a place
pub row_at : (numbers : List ℕ) (made : List (List EntryView)) (place : ℕ) → place < length numbers
    → get_or (rows_at numbers made) place [] ≡ get_or made (get_or numbers place 0) []
row_at numbers made place there = get_or-map (λ n. get_or made n []) numbers place 0 [] there

-- and its number is that of a row which is made
pub number_within : (numbers : List ℕ) (made : List (List EntryView)) (places : List ℕ) (place : ℕ) → AreMade numbers made places → place < length numbers
    → get_or numbers place 0 < length made
number_within numbers made places place are there = let l = are.low place there in let m = are.as_many in omega (arith, l, m)

-- no two places have one number, but for that of the row without entries
one_place : (numbers : List ℕ) (made : List (List EntryView)) (places : List ℕ) (place other : ℕ) → AreMade numbers made places → place < length numbers → other < length numbers
    → 0 < get_or numbers place 0 → get_or numbers other 0 ≡ get_or numbers place 0 → other ≡ place
one_place numbers made places place other are there within some same =
    sym (are.placed other within (subst (λ (n : ℕ). 0 < n) (sym same) some))
    ∙ (ap (λ (n : ℕ). get_or places (n - 1) 0) same ∙ are.placed place there some)

-- a row that is made changes
pub rows_set : (numbers : List ℕ) (made : List (List EntryView)) (places : List ℕ) (place : ℕ) (row : List EntryView) → AreMade numbers made places → place < length numbers
    → 0 < get_or numbers place 0 → rows_at numbers (set made (get_or numbers place 0) row) ≡ set (rows_at numbers made) place row
rows_set numbers made places place row are there some =
    ext_get_or [] (rows_at numbers after) (set (rows_at numbers made) place row)
    (length_rows numbers after ∙ sym (length-set (rows_at numbers made) place row ∙ length_rows numbers made))
    (λ other l. same other (subst (λ (n : ℕ). other < n) (length_rows numbers after) l))
  where
    after : List (List EntryView)
    after = set made (get_or numbers place 0) row

    same : (other : ℕ) → other < length numbers → get_or (rows_at numbers after) other [] ≡ get_or (set (rows_at numbers made) place row) other []
    same other within = elim (cases_eq other place) [
      | inl here ↦
          row_at numbers after other within
          ∙ (ap (λ (n : ℕ). get_or after (get_or numbers n 0) []) here
          ∙ (get_or-set_same made (get_or numbers place 0) row [] (number_within numbers made places place are there)
          ∙ sym (ap (λ (n : ℕ). get_or (set (rows_at numbers made) place row) n []) here
          ∙ get_or-set_same (rows_at numbers made) place row [] (subst (λ (n : ℕ). place < n) (sym (length_rows numbers made)) there))))
      | inr not ↦
          row_at numbers after other within
          ∙ (get_or-set_other made (get_or numbers place 0) (get_or numbers other 0) row [] (λ e. not (one_place numbers made places place other are there within some e))
          ∙ sym (get_or-set_other (rows_at numbers made) place other row [] not ∙ row_at numbers made other within))
    ]

pub made_set : (numbers : List ℕ) (made : List (List EntryView)) (places : List ℕ) (number : ℕ) (row : List EntryView) → AreMade numbers made places → 0 < number → IsRow row
    → AreMade numbers (set made number row) places
made_set numbers made places number row are some new = record {
  few = are.few;
  blank = get_or-set_other made number 0 row [] (λ e. absurd (omega (arith, e, some))) ∙ are.blank;
  each = All-set IsRow made number row new are.each;
  as_many = length-set made number row ∙ are.as_many;
  within = are.within;
  numbered = are.numbered;
  low = are.low;
  placed = are.placed;
  unmade = are.unmade;
}

-- whether a number is blank, as a number
blank_of : (n : ℕ) → n ≡ 0 → one_if (is_blank n) ≡ 1
blank_of n e = let b : is_blank n ≡ true = grind (arith, nat_tests) in ap one_if b

taken_of : (n : ℕ) → 0 < n → one_if (is_blank n) ≡ 0
taken_of n e = let b : is_blank n ≡ false = grind (arith, nat_tests) in ap one_if b

-- how many places have no row of their own once one number was changed
blank_set : (numbers : List ℕ) (place number : ℕ) → place < length numbers
    → count_by is_blank (set numbers place number) + one_if (is_blank (get_or numbers place 0)) ≡ count_by is_blank numbers + one_if (is_blank number)
blank_set numbers place number there = sum_by-set (λ (n : ℕ). one_if (is_blank n)) numbers place number 0 there

some_blank : (numbers : List ℕ) (place : ℕ) → place < length numbers → get_or numbers place 0 ≡ 0 → 1 ≤ count_by is_blank numbers
some_blank [] place there blank = absurd (omega (arith, there))
some_blank (n ∷ ns) zero there blank =
    let s = sum_by-cons (λ (m : ℕ). one_if (is_blank m)) n ns in
    let a = blank_of n blank in omega (arith, s, a)
some_blank (n ∷ ns) (suc place) there blank =
    let s = sum_by-cons (λ (m : ℕ). one_if (is_blank m)) n ns in
    let t = some_blank ns place (omega (arith, there)) blank in omega (arith, s, t)

-- there are fewer places with a row of their own than places, where one has none
pub room_left : (numbers : List ℕ) (made : List (List EntryView)) (places : List ℕ) (place : ℕ) → AreMade numbers made places → place < length numbers → get_or numbers place 0 ≡ 0
    → length places < length numbers
room_left numbers made places place are there blank =
    let u = are.unmade in let t = some_blank numbers place there blank in omega (arith, u, t)

-- a row is made: its place's, which had none of its own
pub made_new : (numbers : List ℕ) (made : List (List EntryView)) (places : List ℕ) (place : ℕ) → AreMade numbers made places → place < length numbers → get_or numbers place 0 ≡ 0
    → AreMade (set numbers place (length made)) (made ++ [] ∷ []) (places ++ place ∷ [])
made_new numbers made places place are there blank = record {
  few = subst (λ (n : ℕ). n < 2 ^ 32) (sym long) are.few;
  blank = get_or_append_left made ([] ∷ []) [] 0 (let m = are.as_many in omega (arith, m)) ∙ are.blank;
  each = All-push IsRow made [] are.each empty_row;
  as_many = let a = length_push made [] in let b = length_push places place in let m = are.as_many in omega (arith, a, b, m);
  within = subst (λ (n : ℕ). All (λ (p : ℕ). p < n) (places ++ place ∷ [])) (sym long) (All-push (λ (p : ℕ). p < length numbers) places place are.within there);
  numbered = λ at h. elim (cases_eq at (length places)) [
    | inl last ↦
        ap (λ (n : ℕ). get_or (set numbers place (length made)) n 0) (get_or_push places place 0 at (sym last))
        ∙ (get_or-set_same numbers place (length made) 0 there ∙ (are.as_many ∙ sym (ap (λ (n : ℕ). n + 1) last)))
    | inr not ↦
        let before : at < length places = (let b = length_push places place in omega (arith, h, b, not)) in
        ap (λ (n : ℕ). get_or (set numbers place (length made)) n 0) (get_or_append_left places (place ∷ []) 0 at before)
        ∙ (get_or-set_other numbers place (get_or places at 0) (length made) 0 (λ e. blank_not at before e) ∙ are.numbered at before)
  ];
  low = λ other h. elim (cases_eq other place) [
    | inl here ↦
        subst (λ (n : ℕ). get_or (set numbers place (length made)) n 0 ≤ length (places ++ place ∷ [])) (sym here)
        (subst (λ (n : ℕ). n ≤ length (places ++ place ∷ [])) (sym (get_or-set_same numbers place (length made) 0 there))
        (let b = length_push places place in let m = are.as_many in omega (arith, b, m)))
    | inr not ↦
        subst (λ (n : ℕ). n ≤ length (places ++ place ∷ [])) (sym (get_or-set_other numbers place other (length made) 0 not))
        (let b = length_push places place in let l = are.low other (subst (λ (n : ℕ). other < n) long h) in omega (arith, b, l))
  ];
  placed = λ other h some. elim (cases_eq other place) [
    | inl here ↦
        ap (λ (n : ℕ). get_or (places ++ place ∷ []) (get_or (set numbers place (length made)) n 0 - 1) 0) here
        ∙ (ap (λ (n : ℕ). get_or (places ++ place ∷ []) (n - 1) 0) (get_or-set_same numbers place (length made) 0 there)
        ∙ (get_or_push places place 0 (length made - 1) (let m = are.as_many in omega (arith, m)) ∙ sym here))
    | inr not ↦
        let e : get_or (set numbers place (length made)) other 0 ≡ get_or numbers other 0 = get_or-set_other numbers place other (length made) 0 not in
        let was : other < length numbers = subst (λ (n : ℕ). other < n) long h in
        let own : 0 < get_or numbers other 0 = subst (λ (n : ℕ). 0 < n) e some in
        let l = are.low other was in
        ap (λ (n : ℕ). get_or (places ++ place ∷ []) (n - 1) 0) e
        ∙ (get_or_append_left places (place ∷ []) 0 (get_or numbers other 0 - 1) (omega (arith, own, l)) ∙ are.placed other was own)
  ];
  unmade =
      let b = length_push places place in let u = are.unmade in let m = are.as_many in
      let s = blank_set numbers place (length made) there in
      let x = blank_of (get_or numbers place 0) blank in
      let y = taken_of (length made) (omega (arith, m)) in
      omega (arith, long, b, u, s, x, y);
}
  where
    long : length (set numbers place (length made)) ≡ length numbers
    long = length-set numbers place (length made)

    blank_not : (at : ℕ) → at < length places → get_or places at 0 ≡ place → ⊥
    blank_not at before e =
        let n = are.numbered at before in let m = ap (λ (n : ℕ). get_or numbers n 0) e in omega (arith, n, m, blank)

-- which changes no row
pub rows_new : (numbers : List ℕ) (made : List (List EntryView)) (places : List ℕ) (place : ℕ) → AreMade numbers made places → place < length numbers → get_or numbers place 0 ≡ 0
    → rows_at (set numbers place (length made)) (made ++ [] ∷ []) ≡ rows_at numbers made
rows_new numbers made places place are there blank =
    ext_get_or [] (rows_at after (made ++ [] ∷ [])) (rows_at numbers made)
    (length_rows after (made ++ [] ∷ []) ∙ (long ∙ sym (length_rows numbers made)))
    (λ other l. same other (subst (λ (n : ℕ). other < n) (length_rows after (made ++ [] ∷ []) ∙ long) l))
  where
    after : List ℕ
    after = set numbers place (length made)

    long : length after ≡ length numbers
    long = length-set numbers place (length made)

    same : (other : ℕ) → other < length numbers → get_or (rows_at after (made ++ [] ∷ [])) other [] ≡ get_or (rows_at numbers made) other []
    same other within =
        row_at after (made ++ [] ∷ []) other (subst (λ (n : ℕ). other < n) (sym long) within)
        ∙ elim (cases_eq other place) [
          | inl here ↦
              ap (λ (n : ℕ). get_or (made ++ [] ∷ []) (get_or after n 0) []) here
              ∙ (ap (λ (n : ℕ). get_or (made ++ [] ∷ []) n []) (get_or-set_same numbers place (length made) 0 there)
              ∙ (get_or_push made [] [] (length made) refl
              ∙ sym (row_at numbers made other within ∙ (ap (λ (n : ℕ). get_or made n []) (ap (λ (n : ℕ). get_or numbers n 0) here ∙ blank) ∙ are.blank))))
          | inr not ↦
              ap (λ (n : ℕ). get_or (made ++ [] ∷ []) n []) (get_or-set_other numbers place other (length made) 0 not)
              ∙ (get_or_append_left made ([] ∷ []) [] (get_or numbers other 0) (number_within numbers made places other are within) ∙ sym (row_at numbers made other within))
        ]

-- the row that was made last is given up
pub made_last : (numbers : List ℕ) (made : List (List EntryView)) (places : List ℕ) (place : ℕ) (row : List EntryView) → AreMade numbers (made ++ row ∷ []) (places ++ place ∷ [])
    → AreMade (set numbers place 0) made places
made_last numbers made places place row are = record {
  few = subst (λ (n : ℕ). n < 2 ^ 32) (sym long) are.few;
  blank = sym (get_or_append_left made (row ∷ []) [] 0 (omega (arith, as_many))) ∙ are.blank;
  each = rest.0;
  as_many = as_many;
  within = subst (λ (n : ℕ). All (λ (p : ℕ). p < n) places) (sym long) all.0;
  numbered = λ at h.
      let e : get_or (places ++ place ∷ []) at 0 ≡ get_or places at 0 = get_or_append_left places (place ∷ []) 0 at h in
      let n : get_or numbers (get_or places at 0) 0 ≡ at + 1 = ap (λ (p : ℕ). get_or numbers p 0) (sym e) ∙ are.numbered at (let b = length_push places place in omega (arith, h, b)) in
      get_or-set_other numbers place (get_or places at 0) 0 0 (λ same. absurd (let p = ap (λ (p : ℕ). get_or numbers p 0) same in omega (arith, n, p, own, h))) ∙ n;
  low = λ other h. elim (cases_eq other place) [
    | inl here ↦
        subst (λ (n : ℕ). get_or (set numbers place 0) n 0 ≤ length places) (sym here)
        (subst (λ (n : ℕ). n ≤ length places) (sym (get_or-set_same numbers place 0 0 there)) (omega arith))
    | inr not ↦
        subst (λ (n : ℕ). n ≤ length places) (sym (get_or-set_other numbers place other 0 0 not))
        (lower other (subst (λ (n : ℕ). other < n) long h) not)
  ];
  placed = λ other h some. elim (cases_eq other place) [
    | inl here ↦ absurd (let z = ap (λ (n : ℕ). get_or (set numbers place 0) n 0) here ∙ get_or-set_same numbers place 0 0 there in omega (arith, z, some))
    | inr not ↦
        let e : get_or (set numbers place 0) other 0 ≡ get_or numbers other 0 = get_or-set_other numbers place other 0 0 not in
        let was : other < length numbers = subst (λ (n : ℕ). other < n) long h in
        let own : 0 < get_or numbers other 0 = subst (λ (n : ℕ). 0 < n) e some in
        let l = lower other was not in
        ap (λ (n : ℕ). get_or places (n - 1) 0) e
        ∙ (sym (get_or_append_left places (place ∷ []) 0 (get_or numbers other 0 - 1) (omega (arith, own, l))) ∙ are.placed other was own)
  ];
  unmade =
      let b = length_push places place in let u = are.unmade in
      let s = blank_set numbers place 0 there in
      let x = taken_of (get_or numbers place 0) (omega (arith, own)) in
      let y = blank_of 0 refl in
      omega (arith, long, b, u, s, x, y);
}
  where
    long : length (set numbers place 0) ≡ length numbers
    long = length-set numbers place 0

    all : All (λ (p : ℕ). p < length numbers) places × (place < length numbers)
    all = All-pop (λ (p : ℕ). p < length numbers) (places ++ place ∷ []) places (Some place) refl are.within

    there : place < length numbers
    there = all.1

    rest : All IsRow made × IsRow row
    rest = All-pop IsRow (made ++ row ∷ []) made (Some row) refl are.each

    as_many : length made ≡ length places + 1
    as_many = let a = length_push made row in let b = length_push places place in let m = are.as_many in omega (arith, a, b, m)

    own : get_or numbers place 0 ≡ length places + 1
    own = ap (λ (p : ℕ). get_or numbers p 0) (sym (get_or_push places place 0 (length places) refl)) ∙ are.numbered (length places) (let b = length_push places place in omega (arith, b))

    -- every other place's number is below the last
    lower : (other : ℕ) → other < length numbers → other ≢ place → get_or numbers other 0 ≤ length places
    lower other within not = elim (cases_eq (get_or numbers other 0) (get_or numbers place 0)) [
      | inl same ↦ absurd (not (one_place numbers (made ++ row ∷ []) (places ++ place ∷ []) place other are there within (omega (arith, own)) same))
      | inr differs ↦ let l = are.low other within in let b = length_push places place in omega (arith, l, b, own, differs)
    ]

-- so its place has no entries any more, and the others stay
pub rows_last : (numbers : List ℕ) (made : List (List EntryView)) (places : List ℕ) (place : ℕ) (row : List EntryView) → AreMade numbers (made ++ row ∷ []) (places ++ place ∷ [])
    → rows_at (set numbers place 0) made ≡ set (rows_at numbers (made ++ row ∷ [])) place []
rows_last numbers made places place row are =
    ext_get_or [] (rows_at after made) (set before place [])
    (length_rows after made ∙ (long ∙ sym (length-set before place [] ∙ length_rows numbers (made ++ row ∷ []))))
    (λ other l. same other (subst (λ (n : ℕ). other < n) (length_rows after made ∙ long) l))
  where
    after : List ℕ
    after = set numbers place 0

    before : List (List EntryView)
    before = rows_at numbers (made ++ row ∷ [])

    long : length after ≡ length numbers
    long = length-set numbers place 0

    left : AreMade after made places
    left = made_last numbers made places place row are

    there : place < length numbers
    there = let all = All-pop (λ (p : ℕ). p < length numbers) (places ++ place ∷ []) places (Some place) refl are.within in all.1

    same : (other : ℕ) → other < length numbers → get_or (rows_at after made) other [] ≡ get_or (set before place []) other []
    same other within =
        row_at after made other (subst (λ (n : ℕ). other < n) (sym long) within)
        ∙ elim (cases_eq other place) [
          | inl here ↦
              ap (λ (n : ℕ). get_or made n []) (ap (λ (n : ℕ). get_or after n 0) here ∙ get_or-set_same numbers place 0 0 there)
              ∙ (left.blank
              ∙ sym (ap (λ (n : ℕ). get_or (set before place []) n []) here
              ∙ get_or-set_same before place [] [] (subst (λ (n : ℕ). place < n) (sym (length_rows numbers (made ++ row ∷ []))) there)))
          | inr not ↦
              sym (get_or_append_left made (row ∷ []) [] (get_or after other 0) (number_within after made places other left (subst (λ (n : ℕ). other < n) (sym long) within)))
              ∙ (ap (λ (n : ℕ). get_or (made ++ row ∷ []) n []) (get_or-set_other numbers place other 0 0 not)
              ∙ sym (get_or-set_other before place other [] [] not ∙ row_at numbers (made ++ row ∷ []) other within))
        ]

-- where no place has a row of its own, no row has an entry
pub none_made : (numbers : List ℕ) (made : List (List EntryView)) (places : List ℕ) → AreMade numbers made places → length places ≡ 0
    → rows_at numbers made ≡ replicate (length numbers) []
none_made numbers made places are none = ext_get_or [] (rows_at numbers made) (replicate (length numbers) [])
    (length_rows numbers made ∙ sym (length-replicate (length numbers) no_entries)) (λ place l.
    let there : place < length numbers = subst (λ (n : ℕ). place < n) (length_rows numbers made) l in
    let low = are.low place there in
    row_at numbers made place there
    ∙ (ap (λ (n : ℕ). get_or made n []) (the_number (get_or numbers place 0) low) ∙ (are.blank ∙ sym (get_or-replicate (length numbers) place [] [] there))))
  where
    the_number : (n : ℕ) → n ≤ length places → n ≡ 0
    the_number n low = omega (arith, low, none)

-- each place's row is as rows are
pub each_row : (numbers : List ℕ) (made : List (List EntryView)) (places : List ℕ) → AreMade numbers made places → All IsRow (rows_at numbers made)
each_row numbers made places are = λ place d l.
    let there : place < length numbers = subst (λ (n : ℕ). place < n) (length_rows numbers made) l in
    let within = number_within numbers made places place are there in
    subst IsRow (sym (get_or_default (rows_at numbers made) place d [] l ∙ row_at numbers made place there)) (are.each (get_or numbers place 0) [] within)

-- no row is made yet
pub none_yet : (n : ℕ) → n < 2 ^ 32 → AreMade (replicate n 0) ([] ∷ []) []
none_yet n few = record {
  few = subst (λ (m : ℕ). m < 2 ^ 32) (sym (length-replicate n zero)) few;
  blank = refl;
  each = All-push IsRow [] [] (All-nil IsRow) empty_row;
  as_many = refl;
  within = All-nil (λ (p : ℕ). p < length (replicate n zero));
  numbered = λ at h. absurd (omega (arith, h));
  low = λ place h.
      let l : place < n = subst (λ (m : ℕ). place < m) (length-replicate n zero) h in
      let z : get_or (replicate n zero) place 0 ≡ 0 = get_or-replicate n place 0 0 l in omega (arith, z);
  placed = λ place h some.
      let l : place < n = subst (λ (m : ℕ). place < m) (length-replicate n zero) h in
      let z : get_or (replicate n zero) place 0 ≡ 0 = get_or-replicate n place 0 0 l in absurd (omega (arith, z, some));
  unmade =
      let s = sum_by-replicate (λ (m : ℕ). one_if (is_blank m)) n 0 in
      let b = blank_of 0 refl in let l = length-replicate n zero in omega (arith, s, b, l);
}

pub rows_blank : (n : ℕ) → rows_at (replicate n 0) ([] ∷ []) ≡ replicate n []
rows_blank zero = refl
rows_blank (suc n) = ap (λ (rs : List (List EntryView)). [] ∷ rs) (rows_blank n)

-- what is in a slot of a place's row is in a row of its own
pub own_of : (numbers : List ℕ) (made : List (List EntryView)) (places : List ℕ) (place slot : ℕ) (Q : EntryView → Type 0) → AreMade numbers made places → place < length numbers
    → IsSomeAnd (slice_get (get_or (rows_at numbers made) place []) slot) Q → 0 < get_or numbers place 0
own_of numbers made places place slot Q are there fits = elim (cases_eq (get_or numbers place 0) 0) [
  | inl blank ↦ absurd (subst (λ (r : List EntryView). IsSomeAnd (slice_get r slot) Q) (row_at numbers made place there ∙ (ap (λ (n : ℕ). get_or made n []) blank ∙ are.blank)) fits)
  | inr not ↦ omega (arith, not)
]

-- the last place is one of the rows'
pub last_there : (numbers : List ℕ) (made : List (List EntryView)) (places : List ℕ) (place : ℕ) → AreMade numbers made (places ++ place ∷ []) → place < length numbers
last_there numbers made places place are = let all = All-pop (λ (p : ℕ). p < length numbers) (places ++ place ∷ []) places (Some place) refl are.within in all.1
