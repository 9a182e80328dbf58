-- What a valid report shows.
use Rattle.std.proofs.Common.{◌≡◌, ◌<◌, ◌≤◌, ◌+◌, if◌then◌else◌, inl, inr, ℕ, zero, suc, List, [], ◌∷◌, map, Contains, arith, refl, sym, ◌∙◌, ap, subst}
use Rattle.std.specs.Prelude.{◌↔◌, Some, Bool, true, false, slice_get, count_by, nat_lt, IsTrue}
use Rattle.std.specs.Option.{option_map}
use Rattle.std.proofs.lemmas.Bool.{cases_eq, cases_lt, cases_Bool, ltb-true, ltb-false}
use Rattle.std.proofs.lemmas.List.Sums.{sum_by-cons}
use Rattle.std.proofs.lemmas.Option.{same_Some, slice_get-map}
use Rattle.list_laws.proofs.Standing.{contained, at_place, contains_map, from_map, none_in_none}
use Rattle.bit_boards.specs.declared.piece.Side.{Side}
use Rattle.board_core.specs.declared.moves.Move.{Move}
use Rattle.board_core.specs.Board.{Board}
use Rattle.board_core.specs.Kept.{IsKept}
use Rattle.board_core.specs.Order.{Lists, RisesFrom, order_of}
use Rattle.shogi_rules.specs.Rules.{after}
use Rattle.shogi_rules.specs.Tsume.{IsCheck, IsEvasion}
use Rattle.shogi_rules.proofs.Offered.{after_evasion, kept_after}
use Rattle.mate_def.specs.Mate.{after_both, IsMate, RankAtMost, RankGrows}
use Rattle.mate_facts.specs.declared.entry.MateEntry.{MateEntry}
use Rattle.mate_facts.specs.Entries.{positions_of}
use Rattle.hand_dominance.specs.BorneOut.{AreBorneOut, AreKept, RanksWhereCovered}
use Rattle.std.specs.List.{AllByRecursion}
use Rattle.cert_text.specs.Certificate.{Mating, MayBeListed, escape_form}
use Rattle.cert_text.specs.Kinds.{positions_in}
use Rattle.cert_text.specs.declared.certificate.Certificate.{Certificate}
use Rattle.cert_text.specs.declared.certificate.Certificate.TheVariants as certificates
use Rattle.cert_check.specs.Valid.{IsValid, Shows as ShowsOfIts}
use Rattle.cook_report.specs.declared.report.Line.{Line}
use Rattle.cook_report.specs.declared.report.Line.TheVariants.{Mate, Escape, Unknown}
use Rattle.cook_report.specs.declared.word.Word.TheVariants.{Sound, Cooked, Open, NoMate}
use Rattle.cook_report.specs.Report.{check_of, says_mate, says_unknown, word_of}
use Rattle.cook_report.specs.Line.{IsLedTo}
use Rattle.cook_report.specs.Valid.{AreAllBorneOut, IsMateLine, IsLineOf}
use Rattle.cook_report.specs.Shown.{MatesBy, OneCheckMates, TwoChecksMate, Says, ShowsCheck, ShowsNone, ShowsOf, Shows, IsKeptLine}

-- 1. A mate's line.

-- the ranks of entries are no greater than this
abbrev most_rank : List MateEntry → ℕ
most_rank [] = 0
most_rank (e ∷ entries) = e.rank.number + most_rank entries

within_most : (entries : List MateEntry) (e : MateEntry) → Contains entries e → e.rank.number ≤ most_rank entries
within_most [] e c = absurd (none_in_none e c)
within_most (first ∷ entries) e (zero, inside, same) =
    let r : first.rank.number ≡ e.rank.number = ap (λ (x : MateEntry). x.rank.number) same in
    let sum : most_rank (first ∷ entries) ≡ first.rank.number + most_rank entries = refl in
    omega (arith, r, sum)
within_most (first ∷ entries) e (suc k, inside, same) =
    let more = within_most entries e (k, omega (arith, inside), same) in
    let sum : most_rank (first ∷ entries) ≡ first.rank.number + most_rank entries = refl in
    omega (arith, more, sum)

kept_both : (p : Board) (check evasion : Move) → IsKept p → IsCheck p.side p check → IsEvasion p.side (after p check) evasion → IsKept (after_both p check evasion)
kept_both p check evasion kept is_check is_evasion = kept_after (after p check) evasion (kept_after p check kept is_check.legal) is_evasion.legal

module _ (ranks : RanksWhereCovered) (grows : RankGrows) (p : Board) (check : Move) (c : Mating) (kept : IsKept p) (all : AreKept (positions_of c.entries))
    (is_check : IsCheck p.side p check) (line : IsMateLine p check c) where
  borne : AreBorneOut c.version c.entries p.side
  borne e there = (all e.at (contains_map (λ (e : MateEntry). e.at) c.entries e there), line.entries e there)

  ranked : (evasion : Move) → IsEvasion p.side (after p check) evasion → RankAtMost p.side (most_rank c.entries) (after_both p check evasion)
  ranked evasion is =
      let l = line.evasions evasion is in
      grows p.side l.entry.rank.number (most_rank c.entries) (after_both p check evasion) (within_most c.entries l.entry l.listed)
      (ranks c.version p.side c.entries l.entry (after_both p check evasion) borne l.listed (kept_both p check evasion kept is_check is) l.covers)

  pub mate_shows : ShowsCheck p check
  mate_shows = record {
    mates = record { is_check = is_check; evasions = λ evasion is. (most_rank c.entries, ranked evasion is) };
    mate = (suc (most_rank c.entries), (check, is_check, ranked));
  }

-- it is borne out where its entries are and the evasions lead to what is listed
pub line_where_led : (p : Board) (check : Move) (c : Mating) (checked : Board) (found : Bool) → c.problem ≡ p → AreAllBorneOut p.side c → checked ≡ after p check
    → IsTrue found ↔ IsLedTo p.side checked c → IsTrue found ↔ IsMateLine p check c
line_where_led p check c checked found about entries after_it led = (
  (λ yes. record { problem = about; entries = entries; evasions = subst (λ (b : Board). IsLedTo p.side b c) after_it (led.0 yes) }),
  (λ line. led.1 (subst (λ (b : Board). IsLedTo p.side b c) (sym after_it) line.evasions)),
)

-- 2. An escape's line.

pub none_shows : (p : Board) (check evasion : Move) → IsCheck p.side p check → IsEvasion p.side (after p check) evasion
    → ¬ IsMate (after_both p check evasion).side (after_both p check evasion) → ShowsNone p check evasion
none_shows p check evasion is_check is none =
    let turn : (after_both p check evasion).side ≡ p.side = after_evasion p.side (after p check) evasion is in
    let no_mate = subst (λ (s : Side). ¬ IsMate s (after_both p check evasion)) turn none in
    record { no_mate = no_mate; spared = λ mates. no_mate (mates.evasions evasion is) }

-- the positions of what may stand in a text are kept
escape_kept_at : (problem : Board) (bs : List Board) → AllByRecursion (MayBeListed (escape_form problem)) bs → (k : ℕ) (b : Board) → slice_get bs k ≡ Some b → IsKept b
escape_kept_at problem [] fit k b at = absurd (cc)
escape_kept_at problem (first ∷ bs) fit zero b at = subst IsKept (same_Some first b at) fit.0.kept
escape_kept_at problem (first ∷ bs) fit (suc k) b at = escape_kept_at problem bs fit.1 k b at

pub escape_kept : (problem : Board) (bs : List Board) → AllByRecursion (MayBeListed (escape_form problem)) bs → (b : Board) → Contains bs b → IsKept b
escape_kept problem bs fit b there = escape_kept_at problem bs fit there.0 b (at_place bs b there)

-- 3. Any line.

module _ (ranks : RanksWhereCovered) (grows : RankGrows)
    (accepted : (c : Certificate) (p : Board) → AreKept (positions_in c) → IsKept p → IsValid c p → ShowsOfIts c p)
    (p : Board) (kept : IsKept p) where
  pub line_shows : (line : Line) → IsKeptLine line → IsCheck p.side p (check_of line) → IsLineOf p line → ShowsOf p line
  line_shows (Mate check c) all is_check line = mate_shows ranks grows p check c kept all is_check line
  line_shows (Escape check evasion c) all is_check line =
      none_shows p check evasion is_check line.is_evasion
      (accepted (certificates.Escape c) (after_both p check evasion) all (kept_both p check evasion kept is_check line.is_evasion) line.escapes).no_mate
  line_shows (Unknown check evasion cause) all is_check line = tt

-- 4. All lines.

counts_yes : {X : Type 0} (f : X → Bool) (x : X) (xs : List X) → f x ≡ true → count_by f (x ∷ xs) ≡ 1 + count_by f xs
counts_yes f x xs is = sum_by-cons (λ y. if f y then 1 else 0) x xs ∙ ap (λ (b : Bool). (if b then 1 else 0) + count_by f xs) is

counts_no : {X : Type 0} (f : X → Bool) (x : X) (xs : List X) → f x ≡ false → count_by f (x ∷ xs) ≡ 0 + count_by f xs
counts_no f x xs is = sum_by-cons (λ y. if f y then 1 else 0) x xs ∙ ap (λ (b : Bool). (if b then 1 else 0) + count_by f xs) is

counts_more : {X : Type 0} (f : X → Bool) (x : X) (xs : List X) → count_by f xs ≤ count_by f (x ∷ xs)
counts_more f x xs = let sum = sum_by-cons (λ y. if f y then 1 else 0) x xs in omega (arith, sum)

has_yes : {X : Type 0} (f : X → Bool) (xs : List X) → 0 < count_by f xs → (x : X) × Contains xs x × (f x ≡ true)
has_yes f [] some = absurd (omega (arith, some))
has_yes f (x ∷ xs) some = elim (cases_Bool (f x)) [
  | inl is ↦ (x, (zero, omega arith, refl), is)
  | inr is ↦
      let fewer = counts_no f x xs is in
      let more = has_yes f xs (omega (arith, some, fewer)) in
      (more.0, (suc more.1.0, (let inside = more.1.1 in omega (arith, inside)), more.1.2), more.2)
]

-- at two different places of a list
record HasTwo {X : Type 0} (f : X → Bool) (xs : List X) : Type 0 where
  pub first_place : ℕ
  pub second_place : ℕ
  pub apart : first_place < second_place
  pub first : X
  pub second : X
  pub first_at : slice_get xs first_place ≡ Some first
  pub second_at : slice_get xs second_place ≡ Some second
  pub first_yes : f first ≡ true
  pub second_yes : f second ≡ true

has_two : {X : Type 0} (f : X → Bool) (xs : List X) → 1 < count_by f xs → HasTwo f xs
has_two f [] some = absurd (omega (arith, some))
has_two f (x ∷ xs) some = elim (cases_Bool (f x)) [
  | inl is ↦
      let fewer = counts_yes f x xs is in
      let more = has_yes f xs (omega (arith, some, fewer)) in
      record {
        first_place = zero;
        second_place = suc more.1.0;
        apart = omega arith;
        first = x;
        second = more.0;
        first_at = refl;
        second_at = at_place xs more.0 more.1;
        first_yes = is;
        second_yes = more.2;
      }
  | inr is ↦
      let fewer = counts_no f x xs is in
      let more = has_two f xs (omega (arith, some, fewer)) in
      record {
        first_place = suc more.first_place;
        second_place = suc more.second_place;
        apart = (let a = more.apart in omega (arith, a));
        first = more.first;
        second = more.second;
        first_at = more.first_at;
        second_at = more.second_at;
        first_yes = more.first_yes;
        second_yes = more.second_yes;
      }
]

counts : {X : Type 0} (f : X → Bool) (xs : List X) (place : ℕ) (x : X) → slice_get xs place ≡ Some x → f x ≡ true → 0 < count_by f xs
counts f [] place x at has = absurd (cc)
counts f (y ∷ xs) zero x at has = let more = counts_yes f y xs (ap f (same_Some y x at) ∙ has) in omega (arith, more)
counts f (y ∷ xs) (suc place) x at has =
    let later = counts f xs place x at has in
    let more = counts_more f y xs in
    omega (arith, later, more)

counts_two : {X : Type 0} (f : X → Bool) (xs : List X) (i j : ℕ) (x y : X) → i < j → slice_get xs i ≡ Some x → slice_get xs j ≡ Some y → f x ≡ true → f y ≡ true
    → 1 < count_by f xs
counts_two f [] i j x y less at there one other = absurd (cc)
counts_two f (z ∷ xs) i zero x y less at there one other = absurd (omega (arith, less))
counts_two f (z ∷ xs) zero (suc j) x y less at there one other =
    let more = counts_yes f z xs (ap f (same_Some z x at) ∙ one) in
    let later = counts f xs j y there other in
    omega (arith, more, later)
counts_two f (z ∷ xs) (suc i) (suc j) x y less at there one other =
    let later = counts_two f xs i j x y (omega (arith, less)) at there one other in
    let more = counts_more f z xs in
    omega (arith, later, more)

-- where at most one item has it, two that have it stand at one place
one_place : {X : Type 0} (f : X → Bool) (xs : List X) (i j : ℕ) (x y : X) → count_by f xs ≤ 1 → slice_get xs i ≡ Some x → slice_get xs j ≡ Some y
    → f x ≡ true → f y ≡ true → x ≡ y
one_place {X} f xs i j x y few at there one other = elim (cases_eq i j) [
  | inl same ↦ same_Some x y (sym at ∙ subst (λ (n : ℕ). slice_get xs n ≡ Some y) (sym same) there)
  | inr differs ↦ elim (cases_lt i j) [
    | inl less ↦ let two = counts_two f xs i j x y less at there one other in absurd (omega (arith, two, few))
    | inr more ↦ let two = counts_two f xs j i y x (omega (arith, more, differs)) there at other one in absurd (omega (arith, two, few))
  ]
]

-- moves in rising order stand each at one place
rises_above : (low : ℕ) (moves : List Move) → RisesFrom low moves → (k : ℕ) (m : Move) → slice_get moves k ≡ Some m → low ≤ order_of m
rises_above low [] r k m at = absurd (cc)
rises_above low (x ∷ moves) r zero m at = let same = ap order_of (same_Some x m at) in let above = r.0 in omega (arith, same, above)
rises_above low (x ∷ moves) r (suc k) m at = let more = rises_above (order_of x + 1) moves r.1 k m at in let above = r.0 in omega (arith, more, above)

rises_on : (low : ℕ) (moves : List Move) → RisesFrom low moves → (i j : ℕ) (a b : Move) → i < j → slice_get moves i ≡ Some a → slice_get moves j ≡ Some b
    → order_of a < order_of b
rises_on low [] r i j a b less at there = absurd (cc)
rises_on low (x ∷ moves) r i zero a b less at there = absurd (omega (arith, less))
rises_on low (x ∷ moves) r zero (suc j) a b less at there =
    let same = ap order_of (same_Some x a at) in
    let more = rises_above (order_of x + 1) moves r.1 j b there in
    omega (arith, same, more)
rises_on low (x ∷ moves) r (suc i) (suc j) a b less at there = rises_on (order_of x + 1) moves r.1 i j a b (omega (arith, less)) at there

module _ (p : Board) (lines : List Line) (checks : Lists (IsCheck p.side p) (map check_of lines)) (shown : (line : Line) → Contains lines line → ShowsOf p line) where
  mates_so : (line : Line) → says_mate line ≡ true → ShowsOf p line → MatesBy p.side p (check_of line)
  mates_so (Mate check c) has shows = shows.mates
  mates_so (Escape check evasion c) has shows = absurd (cc)
  mates_so (Unknown check evasion cause) has shows = absurd (cc)

  -- the line of a check
  line_of : (check : Move) → IsCheck p.side p check → (place : ℕ) × (line : Line) × (slice_get lines place ≡ Some line) × (check_of line ≡ check)
  line_of check is =
      let there = checks.complete check is in
      let found = from_map check_of lines there.0 check (at_place (map check_of lines) check there) in
      (there.0, found.0, found.1, found.2)

  -- what mates has a line that says so, where nothing is unknown
  says_so : count_by says_unknown lines ≡ 0 → (check : Move) → MatesBy p.side p check → (place : ℕ) (line : Line) → slice_get lines place ≡ Some line
      → check_of line ≡ check → says_mate line ≡ true
  says_so none check mates place (Mate its c) at same = refl
  says_so none check mates place (Escape its evasion c) at same =
      absurd ((shown (Escape its evasion c) (contained lines place (Escape its evasion c) at)).spared (subst (MatesBy p.side p) (sym same) mates))
  says_so none check mates place (Unknown its evasion cause) at same =
      let some = counts says_unknown lines place (Unknown its evasion cause) at refl in absurd (omega (arith, some, none))

  two_mate : 1 < count_by says_mate lines → TwoChecksMate p.side p
  two_mate many =
      let two = has_two says_mate lines many in
      let one_there = slice_get-map check_of lines two.first_place ∙ ap (option_map check_of) two.first_at in
      let other_there = slice_get-map check_of lines two.second_place ∙ ap (option_map check_of) two.second_at in
      record {
        first = check_of two.first;
        second = check_of two.second;
        differ = λ same.
            let less = rises_on 0 (map check_of lines) checks.rises two.first_place two.second_place (check_of two.first) (check_of two.second) two.apart one_there other_there in
            let e = ap order_of same in
            omega (arith, less, e);
        first_mates = mates_so two.first two.first_yes (shown two.first (contained lines two.first_place two.first two.first_at));
        second_mates = mates_so two.second two.second_yes (shown two.second (contained lines two.second_place two.second two.second_at));
      }

  one_mates : count_by says_mate lines ≤ 1 → 0 < count_by says_mate lines → count_by says_unknown lines ≡ 0 → OneCheckMates p.side p
  one_mates few some none =
      let one = has_yes says_mate lines some in
      record {
        check = check_of one.0;
        mates = mates_so one.0 one.2 (shown one.0 one.1);
        only = λ other mates.
            let found = line_of other mates.is_check in
            let has = says_so none other mates found.0 found.1 found.2 found.3 in
            sym found.3
            ∙ ap check_of (one_place says_mate lines found.0 one.1.0 found.1 one.0 few found.2 (at_place lines one.0 one.1) has one.2);
      }

  mated_by : (n : ℕ) → RankAtMost p.side n p → (check : Move) × MatesBy p.side p check
  mated_by zero ranked = absurd ranked
  mated_by (suc n) (check, is, evasions) = (check, record { is_check = is; evasions = λ evasion h. (n, evasions evasion h) })

  none_mates : count_by says_mate lines ≡ 0 → count_by says_unknown lines ≡ 0 → ¬ IsMate p.side p
  none_mates none known mate =
      let by = mated_by mate.0 mate.1 in
      let found = line_of by.0 by.1.is_check in
      let some = counts says_mate lines found.0 found.1 found.2 (says_so known by.0 by.1 found.0 found.1 found.2 found.3) in
      omega (arith, some, none)

  by_word : (two unknown one : Bool) → (two ≡ true → TwoChecksMate p.side p)
      → (two ≡ false → unknown ≡ false → one ≡ true → OneCheckMates p.side p) → (unknown ≡ false → one ≡ false → ¬ IsMate p.side p)
      → Says (if two then Cooked else (if unknown then Open else (if one then Sound else NoMate))) p.side p
  by_word true unknown one cooked sound none = cooked refl
  by_word false true one cooked sound none = tt
  by_word false false true cooked sound none = sound refl refl refl
  by_word false false false cooked sound none = none refl refl

  pub word_says : Says (word_of lines) p.side p
  word_says =
      let mates = count_by says_mate lines in
      let unknown = count_by says_unknown lines in
      by_word (nat_lt 1 mates) (nat_lt 0 unknown) (nat_lt 0 mates) (λ more. two_mate (ltb-true 1 mates more))
      (λ few known some.
      let none = ltb-false 0 unknown known in
      one_mates (ltb-false 1 mates few) (ltb-true 0 mates some) (omega (arith, none)))
      (λ known none.
      let zero_mates = ltb-false 0 mates none in
      let zero_unknown = ltb-false 0 unknown known in
      none_mates (omega (arith, zero_mates)) (omega (arith, zero_unknown)))

  pub lines_show : Shows p lines
  lines_show = record { each = shown; word = word_says }
