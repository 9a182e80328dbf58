-- What the word of a line means.
use Rattle.std.proofs.Common.{◌≡◌, ◌≢◌, ◌<◌, ◌*◌, ◌∙◌, ◌∷◌, [], ℕ, zero, suc, List, length, map, arith, ap, refl, sym, subst}
use Rattle.std.specs.Prelude.{Bool, true, false, not, Some, slice_get, nat_eq, ◌&&◌, ◌||◌, if◌then◌else◌}
use Rattle.std.specs.List.{list_any}
use Rattle.std.proofs.lemmas.Bool.{and_parts}
use Rattle.std.proofs.lemmas.Option.{same_Some, slice_get_within}
use Rattle.list_laws.proofs.Standing.{at_place, contained, from_map}
use Rattle.board_core.specs.declared.moves.Move.{Move}
use Rattle.board_core.specs.Board.{Board}
use Rattle.board_core.specs.Order.{OrdersApart, order_of}
use Rattle.mate_def.specs.Mate.{IsMate}
use Rattle.cook_report.specs.declared.report.Line.{Line}
use Rattle.cook_report.specs.declared.report.Line.TheVariants.{Mate, Escape, Unknown}
use Rattle.cook_report.specs.declared.word.Word.TheVariants.{Sound, Cooked, Open, NoMate}
use Rattle.cook_report.specs.Report.{check_of, says_mate, says_unknown}
use Rattle.cook_report.specs.Shown.{MatesBy, ShowsOf, Shows}
use Rattle.cook_report.specs.Valid.{ValidReport}
use Rattle.cook_line.specs.declared.stage.Stage.{Stage}
use Rattle.cook_line.specs.Turns.{position_at, HasTurn, IsEvaded, MatesAlone, MatesOtherwise, MatesAloneThroughout, LineSays}
use Rattle.cook_line.specs.Stages.{AreStages, WordsMean, is_cooked, is_open, lacks_mate, tells_other}

-- 1. Of lists.

-- one of them passes
record HasOne {X : Type 0} (test : X → Bool) (xs : List X) : Type 0 where
  place : ℕ
  item : X
  there : slice_get xs place ≡ Some item
  passes : test item ≡ true

one_later : {X : Type 0} (test : X → Bool) (y : X) (xs : List X) → HasOne test xs → HasOne test (y ∷ xs)
one_later test y xs one = record { place = suc one.place; item = one.item; there = one.there; passes = one.passes }

one_first : {X : Type 0} (test : X → Bool) (y : X) (xs : List X) (b : Bool) → test y ≡ b → (b || list_any test xs) ≡ true → (list_any test xs ≡ true → HasOne test xs)
    → HasOne test (y ∷ xs)
one_first test y xs true is some rest = record { place = zero; item = y; there = refl; passes = is }
one_first test y xs false is some rest = one_later test y xs (rest some)

one_passes : {X : Type 0} (test : X → Bool) (xs : List X) → list_any test xs ≡ true → HasOne test xs
one_passes test [] some = absurd (cc)
one_passes test (y ∷ xs) some = one_first test y xs (test y) refl some (one_passes test xs)

or_parts : (b c : Bool) → (b || c) ≡ false → (b ≡ false) × (c ≡ false)
or_parts true c none = absurd (cc)
or_parts false c none = (refl, none)

-- none of them passes
none_passes : {X : Type 0} (test : X → Bool) (xs : List X) → list_any test xs ≡ false → (place : ℕ) (x : X) → slice_get xs place ≡ Some x → test x ≡ false
none_passes test [] none place x at = absurd (cc)
none_passes test (y ∷ xs) none zero x at = ap test (sym (same_Some y x at)) ∙ (or_parts (test y) (list_any test xs) none).0
none_passes test (y ∷ xs) none (suc place) x at = none_passes test xs (or_parts (test y) (list_any test xs) none).1 place x at

-- something stands inside
record StandsAt {X : Type 0} (xs : List X) (place : ℕ) : Type 0 where
  item : X
  there : slice_get xs place ≡ Some item

stands_at : {X : Type 0} (xs : List X) (place : ℕ) → place < length xs → StandsAt xs place
stands_at [] place inside = absurd (omega (arith, inside))
stands_at (x ∷ xs) zero inside = record { item = x; there = refl }
stands_at (x ∷ xs) (suc place) inside =
    let later = stands_at xs place (omega (arith, inside)) in
    record { item = later.item; there = later.there }

not_true : (b : Bool) → not b ≡ true → b ≡ false
not_true true is = absurd (cc)
not_true false is = refl

and_second : (b c : Bool) → b ≡ true → (b && c) ≡ false → c ≡ false
and_second true c is none = none
and_second false c is none = absurd (cc)

and_not : (b c : Bool) → b ≡ true → (b && not c) ≡ false → c ≡ true
and_not true true is none = refl
and_not true false is none = absurd (cc)
and_not false c is none = absurd (cc)

-- 2. Of a report.

same_order : OrdersApart → (a b : Move) → nat_eq (order_of a) (order_of b) ≡ true → a ≡ b
same_order apart a b is = apart a b (grind arith)

differs : (a b : Move) → nat_eq (order_of a) (order_of b) ≡ false → a ≢ b
differs a b is same = let orders : order_of a ≡ order_of b = ap order_of same in grind arith

-- a line that says mate shows it
mate_of : (b : Board) (line : Line) → says_mate line ≡ true → ShowsOf b line → MatesBy b.side b (check_of line)
mate_of b (Mate check c) is shows = shows.mates
mate_of b (Escape check evasion c) is shows = absurd (cc)
mate_of b (Unknown check evasion cause) is shows = absurd (cc)

-- a line on a check that mates says so, or that it is unknown
says_of : (b : Board) (line : Line) → says_unknown line ≡ false → ShowsOf b line → MatesBy b.side b (check_of line) → says_mate line ≡ true
says_of b (Mate check c) known shows mates = refl
says_of b (Escape check evasion c) known shows mates = absurd (shows.spared mates)
says_of b (Unknown check evasion cause) known shows mates = absurd (cc)

-- the line on a check that mates says so
record IsTold (lines : List Line) (check : Move) : Type 0 where
  place : ℕ
  line : Line
  there : slice_get lines place ≡ Some line
  of_check : check_of line ≡ check
  says : says_mate line ≡ true

told_mate : (b : Board) (lines : List Line) (check : Move) → ValidReport b lines → Shows b lines → list_any says_unknown lines ≡ false
    → MatesBy b.side b check → IsTold lines check
told_mate b lines check valid shows known mates =
    let listed = valid.checks.complete check mates.is_check in
    let made = from_map check_of lines listed.0 check (at_place (map check_of lines) check listed) in
    let line = made.0 in
    record {
      place = listed.0;
      line = line;
      there = made.1;
      of_check = made.2;
      says = says_of b line (none_passes says_unknown lines known listed.0 line made.1) (shows.each line (contained lines listed.0 line made.1))
          (subst (MatesBy b.side b) (sym made.2) mates);
    }

module _ (apart : OrdersApart) (b : Board) (stage : Stage) (valid : ValidReport b stage.report) (shows : Shows b stage.report) (evaded : stage.evaded ≡ true)
    (known : is_open stage ≡ false) (uncooked : is_cooked stage ≡ false) (mated : lacks_mate stage ≡ false) where
  own : (place : ℕ) (line : Line) → slice_get stage.report place ≡ Some line → says_mate line ≡ true → check_of line ≡ stage.check
  own place line at says =
      same_order apart (check_of line) stage.check
      (and_not (says_mate line) (nat_eq (order_of (check_of line)) (order_of stage.check)) says
      (none_passes (tells_other stage.check) stage.report (and_second stage.evaded (list_any (tells_other stage.check) stage.report) evaded uncooked) place line at))

  -- the stage's check mates, and no other
  alone : MatesAlone b stage.check
  alone =
      let one = one_passes says_mate stage.report (and_not stage.evaded (list_any says_mate stage.report) evaded mated) in
      record {
        mates = subst (MatesBy b.side b) (own one.place one.item one.there one.passes)
            (mate_of b one.item one.passes (shows.each one.item (contained stage.report one.place one.item one.there)));
        only = λ other mates.
            let told = told_mate b stage.report other valid shows known mates in
            sym told.of_check ∙ own told.place told.line told.there told.says;
      }

-- 3. Of a line.

module _ (apart : OrdersApart) (p : Board) (moves : List Move) (stages : List Stage) (are : AreStages p moves stages) where
  cooked : list_any is_cooked stages ≡ true → HasTurn MatesOtherwise p moves
  cooked some =
      let at = one_passes is_cooked stages some in
      let stage = at.item in
      let is = are.each at.place stage at.there in
      let both = and_parts stage.evaded (list_any (tells_other stage.check) stage.report) at.passes in
      let one = one_passes (tells_other stage.check) stage.report both.1 in
      let parts = and_parts (says_mate one.item) (not (nat_eq (order_of (check_of one.item)) (order_of stage.check))) one.passes in
      record {
        turn = at.place;
        check = stage.check;
        has_check = is.check;
        evaded = is.of_position.evaded.0 both.0;
        property = record {
          other = check_of one.item;
          differs = differs (check_of one.item) stage.check (not_true (nat_eq (order_of (check_of one.item)) (order_of stage.check)) parts.1);
          mates = mate_of (position_at p moves at.place) one.item parts.0 (is.of_position.shows.each one.item (contained stage.report one.place one.item one.there));
        };
      }

  module _ (known : list_any is_open stages ≡ false) where
    lacking : list_any lacks_mate stages ≡ true → HasTurn (λ b check. ¬ IsMate b.side b) p moves
    lacking some =
        let at = one_passes lacks_mate stages some in
        let stage = at.item in
        let is = are.each at.place stage at.there in
        let both = and_parts stage.evaded (not (list_any says_mate stage.report)) at.passes in
        let none = not_true (list_any says_mate stage.report) both.1 in
        record {
          turn = at.place;
          check = stage.check;
          has_check = is.check;
          evaded = is.of_position.evaded.0 both.0;
          property = no_mate (position_at p moves at.place) stage.report is.of_position.valid is.of_position.shows (none_passes is_open stages known at.place stage at.there) none;
        }
      where
        no_mate : (b : Board) (lines : List Line) → ValidReport b lines → Shows b lines → list_any says_unknown lines ≡ false → list_any says_mate lines ≡ false
            → ¬ IsMate b.side b
        no_mate b lines valid shows all_known none (zero, rank) = rank
        no_mate b lines valid shows all_known none (suc n, rank) =
            let told = told_mate b lines rank.0 valid shows all_known (record { is_check = rank.1; evasions = λ evasion is. (n, rank.2 evasion is) }) in
            let says = told.says in
            let not_so = none_passes says_mate lines none told.place told.line told.there in
            absurd (cc)

    sound : list_any is_cooked stages ≡ false → list_any lacks_mate stages ≡ false → MatesAloneThroughout p moves
    sound uncooked mated turn check has evaded =
        let inside = slice_get_within moves (2 * turn) check has in
        let count = are.count in
        let found = stands_at stages turn (omega (arith, inside, count)) in
        let is = are.each turn found.item found.there in
        let own : found.item.check ≡ check = same_Some found.item.check check (sym is.check ∙ has) in
        subst (MatesAlone (position_at p moves turn)) own
        (alone apart (position_at p moves turn) found.item is.of_position.valid is.of_position.shows (is.of_position.evaded.1 (subst (IsEvaded (position_at p moves turn)) (sym own) evaded))
        (none_passes is_open stages known turn found.item found.there)
        (none_passes is_cooked stages uncooked turn found.item found.there)
        (none_passes lacks_mate stages mated turn found.item found.there))

  by : (cooked_one open_one lacking_one : Bool) → list_any is_cooked stages ≡ cooked_one → list_any is_open stages ≡ open_one → list_any lacks_mate stages ≡ lacking_one
      → LineSays (if cooked_one then Cooked else (if open_one then Open else (if lacking_one then NoMate else Sound))) p moves
  by true open_one lacking_one is known mated = cooked is
  by false true lacking_one is known mated = tt
  by false false true is known mated = lacking known mated
  by false false false is known mated = sound known is mated

pub words_mean : OrdersApart → WordsMean
words_mean apart p moves stages are =
    by apart p moves stages are (list_any is_cooked stages) (list_any is_open stages) (list_any lacks_mate stages) refl refl refl
