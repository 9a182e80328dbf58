-- The evasions to a check, one after the other.
use Rattle.std.proofs.Common.{◌≡◌, ◌<◌, ◌≤◌, ◌+◌, ◌∙◌, ◌++◌, inl, inr, ℕ, zero, suc, List, [], ◌∷◌, Option, Some, None, length, take, add-one, append-nil, arith, ap, refl, sym, subst}
use Rattle.std.specs.Prelude.{slice_get, Result, Ok, Err, IfOk, IfSome, IsNone}
use Rattle.std.proofs.lemmas.List.{take_all}
use Rattle.std.proofs.lemmas.List.Elements.{Contains-append_left, Contains-push}
use Rattle.std.proofs.lemmas.Option.{same_Some}
use Rattle.bit_boards.specs.declared.piece.Side.{Side}
use Rattle.board_core.specs.declared.moves.Move.{Move}
use Rattle.board_core.specs.Board.{Board}
use Rattle.board_core.specs.Order.{Lists, PlacesInOrder}
use Rattle.shogi_rules.specs.Rules.{after}
use Rattle.shogi_rules.specs.Tsume.{IsCheck, IsEvasion}
use Rattle.shogi_rules.proofs.Offered.{after_evasion}
use Rattle.mate_def.specs.Mate.{after_both, IsMate}
use Rattle.list_laws.proofs.Standing.{at_place, contained, more}
use Rattle.cert_text.specs.Certificate.{Escaping, Mating}
use Rattle.cert_text.specs.declared.certificate.Certificate.{Certificate}
use Rattle.cert_text.specs.declared.certificate.Certificate.TheVariants as certificates
use Rattle.cert_text.specs.Reading.{IsReadable}
use Rattle.cert_check.specs.Valid.{IsValid, Shows}
use Rattle.search_gate.specs.Stop.{Signal}
use Rattle.search_limits.specs.Sizes.{SettingsView}
use Rattle.search_limits.specs.declared.cause.Cause.{Cause}
use Rattle.visit_log.specs.Run.{WorkerView}
use Rattle.search_pool.specs.declared.end.SearchEnd.{SearchEnd}
use Rattle.search_crew.specs.End.{IsSearchEnd}
use Rattle.cook_report.specs.declared.report.Line.{Line}
use Rattle.cook_report.specs.declared.report.Line.TheVariants.{Escape, Unknown}
use Rattle.cook_report.specs.Report.{check_of}
use Rattle.cook_report.specs.Valid.{IsLineOf}
use Rattle.cook_report.specs.Shown.{IsKeptLine, ReadableEscapesAreKept}
use Rattle.cook_search.specs.Search.{AreMade, Searched, crews_in, crews_of}
use Rattle.cook_search.specs.Found.{AreOfSearches, IsLineFound, IsMateFound, IsNoEscape, IsOfSearch, IsOpenFrom, IsToldBy, StaysOpen}
use Rattle.cook_search.specs.Inside.{AreShown, IsDecided, IsFinding, IsFirstOpen, IsMated, IsOpenSoFar, IsWalked}
use Rattle.cook_search.specs.declared.deciding.Finding.{Finding}
use Rattle.cook_search.specs.declared.deciding.Finding.TheVariants as found
use Rattle.cook_search.specs.declared.lines.FirstOpen.{FirstOpen}
use Rattle.cook_search.proofs.Searches.{AreAmong, brought_behind, crews_one, made_behind, made_one, mate_by_more, no_escape_by_more, of_searches_by_more, open_by_more}

-- what valid certificates that can be read show
abbrev pub ValidShow : Type 0
ValidShow = (c : Certificate) (p : Board) → IsReadable c → IsValid c p → Shows c p

-- the position behind a check and an evasion has the attacker to move
pub turn_behind : (p : Board) (check evasion : Move) → IsEvasion p.side (after p check) evasion → (after_both p check evasion).side ≡ p.side
turn_behind p check evasion is = after_evasion p.side (after p check) evasion is

-- 1. Nothing is walked yet.

pub walked_none : (p : Board) (s : SettingsView) (told : List Signal) (crews : List (List WorkerView)) (check : Move) (evasions : List Move)
    → IsWalked p s told told crews crews check evasions 0 [] None
walked_none p s told crews check evasions = record {
  searches = [];
  made = refl;
  brought = sym (append-nil crews);
  walked = λ place evasion less at. absurd (omega (arith, less));
  open_so_far = (tt, λ place evasion less at. absurd (omega (arith, less)));
}

-- 2. One further, by one search more.

abbrev one_more : Move → Move → SearchEnd → Searched
one_more check evasion end = record { check = check; evasion = evasion; end = end }

made_more : (p : Board) (s : SettingsView) (told now then : List Signal) (check evasion : Move) (end : SearchEnd) (xs : List Searched) → IsCheck p.side p check
    → IsEvasion p.side (after p check) evasion → AreMade p s told now xs → IsSearchEnd (after_both p check evasion) s now then end
    → AreMade p s told then (xs ++ one_more check evasion end ∷ [])
made_more p s told now then check evasion end xs is_check is_evasion made ended =
    let one = one_more check evasion end in
    made_behind p s told now then xs (one ∷ []) made (made_one p s now then one (record { check = is_check; evasion = is_evasion; ended = ended }))

brought_more : (crews now then : List (List WorkerView)) (xs : List Searched) (one : Searched) → now ≡ crews ++ crews_of xs → then ≡ now ++ crews_in one.end
    → then ≡ crews ++ crews_of (xs ++ one ∷ [])
brought_more crews now then xs one first next =
    brought_behind crews now then xs (one ∷ []) first (next ∙ ap (λ (cs : List (List WorkerView)). now ++ cs) (sym (crews_one one)))

among_more : (xs : List Searched) (one : Searched) → AreAmong xs (xs ++ one ∷ [])
among_more xs one it there = Contains-append_left xs (one ∷ []) it there

walked_more : (p : Board) (xs : List Searched) (one : Searched) (check : Move) (evasions : List Move) (count : ℕ) (evasion : Move)
    → slice_get evasions count ≡ Some evasion
    → ((place : ℕ) (other : Move) → place < count → slice_get evasions place ≡ Some other → IsNoEscape p xs check other)
    → IsNoEscape p (xs ++ one ∷ []) check evasion
    → (place : ℕ) (other : Move) → place < count + 1 → slice_get evasions place ≡ Some other → IsNoEscape p (xs ++ one ∷ []) check other
walked_more p xs one check evasions count evasion at walked here =
    more (IsNoEscape p (xs ++ one ∷ []) check) evasions count evasion at here
    (λ place other less there. no_escape_by_more p xs (xs ++ one ∷ []) check other (among_more xs one) (walked place other less there))

-- the first so many and one more
take_one : (xs : List Move) (count : ℕ) (x : Move) → slice_get xs count ≡ Some x → take (suc count) xs ≡ take count xs ++ x ∷ []
take_one [] count x at = absurd (cc)
take_one (y ∷ xs) zero x at = ap (λ (z : Move). z ∷ []) (same_Some y x at)
take_one (y ∷ xs) (suc count) x at = ap (λ (zs : List Move). y ∷ zs) (take_one xs count x at)

pub take_more : (xs : List Move) (count : ℕ) (x : Move) → slice_get xs count ≡ Some x → take (count + 1) xs ≡ take count xs ++ x ∷ []
take_more xs count x at = subst (λ (n : ℕ). take n xs ≡ take count xs ++ x ∷ []) (sym (add-one count)) (take_one xs count x at)

of_searches_push : (p : Board) (xs : List Searched) (check : Move) (evasions : List Move) (cs : List Mating) (evasion : Move) (c : Mating)
    → AreOfSearches p xs check evasions cs → IsOfSearch p xs check evasion (certificates.Mate c) → AreOfSearches p xs check (evasions ++ evasion ∷ []) (cs ++ c ∷ [])
of_searches_push p xs check [] [] evasion c of one = (one, tt)
of_searches_push p xs check [] (d ∷ cs) evasion c of one = absurd of
of_searches_push p xs check (e ∷ evasions) [] evasion c of one = absurd of
of_searches_push p xs check (e ∷ evasions) (d ∷ cs) evasion c of one = (of.0, of_searches_push p xs check evasions cs evasion c of.1 one)

first_kept : (p : Board) (xs : List Searched) (one : Searched) (check : Move) (evasions : List Move) (count : ℕ) (first : FirstOpen)
    → IsFirstOpen p xs check evasions count first → IsFirstOpen p (xs ++ one ∷ []) check evasions (count + 1) first
first_kept p xs one check evasions count first is = record {
  place = is.place;
  inside = omega (arith, is.inside);
  there = is.there;
  stays = open_by_more p xs (xs ++ one ∷ []) check first.evasion first.cause (among_more xs one) is.stays;
  sooner = λ before other less at. mate_by_more p xs (xs ++ one ∷ []) check other (among_more xs one) (is.sooner before other less at);
}

-- behind the next stands a mate
so_far_mate : (p : Board) (xs : List Searched) (one : Searched) (check : Move) (evasions : List Move) (count : ℕ) (mates : List Mating) (evasion : Move)
    (first : Option FirstOpen) → slice_get evasions count ≡ Some evasion → (is : IsMateFound p (xs ++ one ∷ []) check evasion)
    → IsOpenSoFar p xs check evasions count mates first → IsOpenSoFar p (xs ++ one ∷ []) check evasions (count + 1) (mates ++ is.certificate ∷ []) first
so_far_mate p xs one check evasions count mates evasion None at is so_far = (
  subst (λ (es : List Move). AreOfSearches p (xs ++ one ∷ []) check es (mates ++ is.certificate ∷ [])) (sym (take_more evasions count evasion at))
      (of_searches_push p (xs ++ one ∷ []) check (take count evasions) mates evasion is.certificate
      (of_searches_by_more p xs (xs ++ one ∷ []) check (take count evasions) mates (among_more xs one) so_far.0) is.of_search),
  more (IsMateFound p (xs ++ one ∷ []) check) evasions count evasion at is
      (λ place other less there. mate_by_more p xs (xs ++ one ∷ []) check other (among_more xs one) (so_far.1 place other less there)),
)
so_far_mate p xs one check evasions count mates evasion (Some first) at is so_far = first_kept p xs one check evasions count first so_far

pub walked_mate : ValidShow → (p : Board) (s : SettingsView) (told now then : List Signal) (crews crews_now crews_then : List (List WorkerView)) (check evasion : Move)
    (evasions : List Move) (count : ℕ) (mates : List Mating) (first : Option FirstOpen) (c : Mating) → IsCheck p.side p check
    → IsEvasion p.side (after p check) evasion → slice_get evasions count ≡ Some evasion → IsWalked p s told now crews crews_now check evasions count mates first
    → IsDecided (after_both p check evasion) s now then crews_now crews_then (found.Mate c)
    → IsWalked p s told then crews crews_then check evasions (count + 1) (mates ++ c ∷ []) first
walked_mate shows p s told now then crews crews_now crews_then check evasion evasions count mates first c is_check is_evasion at walked decided =
    let one = one_more check evasion decided.end in
    let q = after_both p check evasion in
    let shown = shows (certificates.Mate c) q decided.found.readable decided.found.valid in
    let here : IsMateFound p (walked.searches ++ one ∷ []) check evasion = record {
      certificate = c;
      of_search = record { end = decided.end; searched = Contains-push walked.searches one; of_note = decided.found };
      mate = subst (λ (side : Side). IsMate side q) (turn_behind p check evasion is_evasion) shown.mate;
    } in
    record {
      searches = walked.searches ++ one ∷ [];
      made = made_more p s told now then check evasion decided.end walked.searches is_check is_evasion walked.made decided.ended;
      brought = brought_more crews crews_now crews_then walked.searches one walked.brought decided.brought;
      walked = walked_more p walked.searches one check evasions count evasion at walked.walked (inl here);
      open_so_far = so_far_mate p walked.searches one check evasions count mates evasion first at here walked.open_so_far;
    }

-- the next stays open
so_far_open : (p : Board) (xs : List Searched) (one : Searched) (check : Move) (evasions : List Move) (count : ℕ) (mates : List Mating) (evasion : Move) (cause : Cause)
    (first then : Option FirstOpen) → slice_get evasions count ≡ Some evasion → StaysOpen p (xs ++ one ∷ []) check evasion cause
    → ((it : FirstOpen) → first ≡ Some it → then ≡ Some it) → (first ≡ None → then ≡ Some (record { evasion = evasion; cause = cause }))
    → IsOpenSoFar p xs check evasions count mates first → IsOpenSoFar p (xs ++ one ∷ []) check evasions (count + 1) mates then
so_far_open p xs one check evasions count mates evasion cause None then at here kept new so_far =
    subst (IsOpenSoFar p (xs ++ one ∷ []) check evasions (count + 1) mates) (sym (new refl)) (record {
      place = count;
      inside = omega arith;
      there = at;
      stays = here;
      sooner = λ before other less there. mate_by_more p xs (xs ++ one ∷ []) check other (among_more xs one) (so_far.1 before other less there);
    })
so_far_open p xs one check evasions count mates evasion cause (Some first) then at here kept new so_far =
    subst (IsOpenSoFar p (xs ++ one ∷ []) check evasions (count + 1) mates) (sym (kept first refl)) (first_kept p xs one check evasions count first so_far)

pub walked_open : (p : Board) (s : SettingsView) (told now then : List Signal) (crews crews_now crews_then : List (List WorkerView)) (check evasion : Move)
    (evasions : List Move) (count : ℕ) (mates : List Mating) (first first_then : Option FirstOpen) (cause : Cause) → IsCheck p.side p check
    → IsEvasion p.side (after p check) evasion → slice_get evasions count ≡ Some evasion → IsWalked p s told now crews crews_now check evasions count mates first
    → IsDecided (after_both p check evasion) s now then crews_now crews_then (found.Open cause)
    → ((it : FirstOpen) → first ≡ Some it → first_then ≡ Some it) → (first ≡ None → first_then ≡ Some (record { evasion = evasion; cause = cause }))
    → IsWalked p s told then crews crews_then check evasions (count + 1) mates first_then
walked_open p s told now then crews crews_now crews_then check evasion evasions count mates first first_then cause is_check is_evasion at walked decided kept new =
    let one = one_more check evasion decided.end in
    let here : StaysOpen p (walked.searches ++ one ∷ []) check evasion cause =
    record { end = decided.end; searched = Contains-push walked.searches one; undecided = decided.found } in
    record {
      searches = walked.searches ++ one ∷ [];
      made = made_more p s told now then check evasion decided.end walked.searches is_check is_evasion walked.made decided.ended;
      brought = brought_more crews crews_now crews_then walked.searches one walked.brought decided.brought;
      walked = walked_more p walked.searches one check evasions count evasion at walked.walked (inr (cause, here));
      open_so_far = so_far_open p walked.searches one check evasions count mates evasion cause first first_then at here kept new walked.open_so_far;
    }

-- 3. One leads to no mate.

pub line_escape : PlacesInOrder → ReadableEscapesAreKept → (p : Board) (s : SettingsView) (told now then : List Signal) (crews crews_now crews_then : List (List WorkerView))
    (check evasion : Move) (evasions : List Move) (count : ℕ) (mates : List Mating) (first : Option FirstOpen) (c : Escaping) → IsCheck p.side p check
    → Lists (IsEvasion p.side (after p check)) evasions → slice_get evasions count ≡ Some evasion → IsWalked p s told now crews crews_now check evasions count mates first
    → IsDecided (after_both p check evasion) s now then crews_now crews_then (found.Escape c)
    → IsLineFound p s told then crews crews_then check (Escape check evasion c)
line_escape places keeps p s told now then crews crews_now crews_then check evasion evasions count mates first c is_check lists at walked decided =
    let one = one_more check evasion decided.end in
    let is_evasion = lists.sound evasion (contained evasions count evasion at) in
    record {
      searches = walked.searches ++ one ∷ [];
      made = made_more p s told now then check evasion decided.end walked.searches is_check is_evasion walked.made decided.ended;
      brought = brought_more crews crews_now crews_then walked.searches one walked.brought decided.brought;
      of_check = refl;
      true_of = record { is_evasion = is_evasion; escapes = decided.found.valid };
      kept = keeps c decided.found.readable;
      told_by = record {
        of_search = record { end = decided.end; searched = Contains-push walked.searches one; of_note = decided.found };
        sooner = λ other is less.
            let there = lists.complete other is in
            no_escape_by_more p walked.searches (walked.searches ++ one ∷ []) check other (among_more walked.searches one)
            (walked.walked there.0 other (places 0 evasions lists.rises there.0 count other evasion (at_place evasions other there) at less) (at_place evasions other there));
      };
    }

-- 4. All are walked.

pub all_shown : (p : Board) (s : SettingsView) (told now : List Signal) (crews crews_now : List (List WorkerView)) (check : Move) (evasions : List Move) (count : ℕ)
    (mates : List Mating) → Lists (IsEvasion p.side (after p check)) evasions → length evasions ≤ count
    → (walked : IsWalked p s told now crews crews_now check evasions count mates None) → AreShown p walked.searches check evasions mates
all_shown p s told now crews crews_now check evasions count mates lists whole walked = record {
  all = lists;
  of_searches = subst (λ (es : List Move). AreOfSearches p walked.searches check es mates) (take_all count evasions whole) walked.open_so_far.0;
}

-- the check is open from the first evasion on that stays open
pub open_from : PlacesInOrder → (p : Board) (s : SettingsView) (told now : List Signal) (crews crews_now : List (List WorkerView)) (check : Move)
    (evasions : List Move) (count : ℕ) (mates : List Mating) (first : FirstOpen) → Lists (IsEvasion p.side (after p check)) evasions → length evasions ≤ count
    → (walked : IsWalked p s told now crews crews_now check evasions count mates (Some first)) → IsOpenFrom p walked.searches check first.evasion first.cause
open_from places p s told now crews crews_now check evasions count mates first lists whole walked =
    let is = walked.open_so_far in record {
      evades = lists.sound first.evasion (contained evasions is.place first.evasion is.there);
      stays = is.stays;
      sooner = λ other is_evasion less.
          let there = lists.complete other is_evasion in
          let at = at_place evasions other there in
          is.sooner there.0 other (places 0 evasions lists.rises there.0 is.place other first.evasion at is.there less) at;
      others = λ other is_evasion.
          let there = lists.complete other is_evasion in
          let less = there.1 in
          walked.walked there.0 other (omega arith) (at_place evasions other there);
    }

-- what is told of a check, once all its evasions are walked
line_told : PlacesInOrder → (p : Board) (s : SettingsView) (told now : List Signal) (crews crews_now : List (List WorkerView)) (check : Move)
    (evasions : List Move) (count : ℕ) (mates : List Mating) (first : Option FirstOpen) (line : Line) → Lists (IsEvasion p.side (after p check)) evasions
    → length evasions ≤ count → (walked : IsWalked p s told now crews crews_now check evasions count mates first)
    → (first ≡ None → (searches : List Searched) → AreShown p searches check evasions mates → IsMated p searches check line)
    → ((it : FirstOpen) → first ≡ Some it → line ≡ Unknown check it.evasion it.cause)
    → IsLineFound p s told now crews crews_now check line
line_told places p s told now crews crews_now check evasions count mates None line lists whole walked mated unknown =
    let is = mated refl walked.searches (all_shown p s told now crews crews_now check evasions count mates lists whole walked) in record {
      searches = walked.searches;
      made = walked.made;
      brought = walked.brought;
      of_check = is.of_check;
      true_of = is.true_of;
      kept = is.kept;
      told_by = is.told_by;
    }
line_told places p s told now crews crews_now check evasions count mates (Some first) line lists whole walked mated unknown =
    let is = unknown first refl in
    let from = open_from places p s told now crews crews_now check evasions count mates first lists whole walked in
    record {
      searches = walked.searches;
      made = walked.made;
      brought = walked.brought;
      of_check = subst (λ (l : Line). check_of l ≡ check) (sym is) refl;
      true_of = subst (IsLineOf p) (sym is) from.evades;
      kept = subst IsKeptLine (sym is) tt;
      told_by = subst (IsToldBy p walked.searches) (sym is) (inl from);
    }

-- 5. As the calls give it.

pub lists_here : (p checked : Board) (check : Move) (items evasions : List Move) → checked ≡ after p check → items ≡ evasions
    → Lists (IsEvasion p.side checked) evasions → Lists (IsEvasion p.side (after p check)) items
lists_here p checked check items evasions is same lists =
    subst (λ (b : Board). Lists (IsEvasion p.side b) items) is (subst (Lists (IsEvasion p.side checked)) (sym same) lists)

pub found_here : (p position : Board) (s : SettingsView) (now then : List Signal) (crews crews_then : List (List WorkerView)) (check evasion : Move)
    (finding is : Finding) → position ≡ after_both p check evasion → finding ≡ is → IsDecided position s now then crews crews_then finding
    → IsDecided (after_both p check evasion) s now then crews crews_then is
found_here p position s now then crews crews_then check evasion finding is stands same decided =
    subst (IsDecided (after_both p check evasion) s now then crews crews_then) same
    (subst (λ (b : Board). IsDecided b s now then crews crews_then finding) stands decided)

pub as_some : (o then : Option FirstOpen) → IfSome o (λ first. then ≡ Some first) → (first : FirstOpen) → o ≡ Some first → then ≡ Some first
as_some o then kept first is = subst (λ (q : Option FirstOpen). IfSome q (λ f. then ≡ Some f)) is kept

pub as_none : {X : Type 0} (o : Option FirstOpen) → (IsNone o → X) → o ≡ None → X
as_none o then is = then (subst IsNone (sym is) refl)

pub none_is : (o : Option FirstOpen) → IsNone o → o ≡ None
none_is None none = refl
none_is (Some first) none = absurd (cc)

pub told_result : {E : Type 0} → PlacesInOrder → (p : Board) (s : SettingsView) (told now : List Signal) (crews crews_now : List (List WorkerView)) (check : Move)
    (evasions : List Move) (count : ℕ) (mates : List Mating) (first : Option FirstOpen) (result : Result Line E) → Lists (IsEvasion p.side (after p check)) evasions
    → length evasions ≤ count → IsWalked p s told now crews crews_now check evasions count mates first
    → (IsNone first → (searches : List Searched) → AreShown p searches check evasions mates → IfOk result (IsMated p searches check))
    → IfSome first (λ it. IfOk result (λ line. line ≡ Unknown check it.evasion it.cause)) → IfOk result (IsLineFound p s told now crews crews_now check)
told_result places p s told now crews crews_now check evasions count mates first (Ok line) lists whole walked mated unknown =
    line_told places p s told now crews crews_now check evasions count mates first line lists whole walked (as_none first mated)
    (λ it is. subst (λ (q : Option FirstOpen). IfSome q (λ f. line ≡ Unknown check f.evasion f.cause)) is unknown)
told_result places p s told now crews crews_now check evasions count mates first (Err error) lists whole walked mated unknown = tt

pub decided_by : {E : Type 0} (result : Result Finding E) (position : Board) (s : SettingsView) (told now : List Signal) (crews crews_now : List (List WorkerView))
    (end : SearchEnd) → IsSearchEnd position s told now end → IfOk result (IsFinding position end) → IfOk result (λ found. crews_now ≡ crews ++ crews_in end)
    → IfOk result (IsDecided position s told now crews crews_now)
decided_by (Ok finding) position s told now crews crews_now end ended found brought = record { end = end; ended = ended; found = found; brought = brought }
decided_by (Err error) position s told now crews crews_now end ended found brought = tt
