-- What holds of a node that isn't solved: its numbers are open, and a child can be selected.
use Rattle.std.proofs.Common.{◌≡◌, ◌≢◌, ◌<◌, ◌≤◌, ◌==◌, ◌&&◌, ◌||◌, ◌⊎◌, inl, inr, ◌+◌, ◌*◌, ℕ, zero, suc, Bool, true, false, not, List, [], ◌∷◌, ◌++◌, Option, Some, None, length, get_or, min, map, sum_by, refl, sym, ap, subst, ◌∙◌, arith}
use Rattle.std.specs.Prelude.{slice_get, All, is_some, nat_lt, if◌then◌else◌}
use Rattle.std.specs.List.{list_any, list_all, find}
use Rattle.std.proofs.lemmas.Bool.{false≢true, or_parts, and_from}
use Rattle.std.proofs.lemmas.Bool.Decides.{nat_tests}
use Rattle.std.proofs.lemmas.Option.{none-some, same_Some, slice_get_within, get_or_from_slice_get, slice_get-map}
use Rattle.std.proofs.lemmas.List.Folds.{list_all_at, list_all-append}
use Rattle.std.proofs.lemmas.List.Elements.{All-nil, All-cons, All-head, All-tail}
use Rattle.std.proofs.lemmas.List.Sums.{get_or-le-sum_by}
use Rattle.pn_numbers.specs.declared.node.Node.{Node}
use Rattle.pn_numbers.specs.declared.node.Node.TheVariants.{Attacker, Defender}
use Rattle.pn_numbers.specs.declared.numbers.Numbers.{Numbers}
use Rattle.pn_numbers.specs.declared.numbers.TheConstants.{CAP, INFINITE}
use Rattle.pn_numbers.specs.declared.selecting.TheConstants.{WEIGHT}
use Rattle.pn_numbers.specs.declared.selecting.Child.{Child as Counted}
use Rattle.pn_numbers.specs.Node.{minimized_number, summed_number, numbers_with}
use Rattle.pn_numbers.specs.Numbers.{IsOpen, IsNumbers}
use Rattle.pn_numbers.specs.Combined.{is_won, is_lost, least_of, sum_of, numbers_at}
use Rattle.pn_numbers.specs.Selection.{selecting_number, number_at}
use Rattle.notes.specs.Derivation.{Derivation, conclusion_of}
use Rattle.notes.specs.declared.rule.Conclusion.{Conclusion}
use Rattle.notes.specs.declared.rule.Conclusion.TheVariants.{Mate, Escape}
use Rattle.visit_log.specs.declared.parts.Child.{Child}
use Rattle.visit_log.specs.Children.{has_note, is_mate, shows_mate, shows_escape, decides, deciding, is_solved, settled, numbers_by, is_hidden, counted_behind, counted_after, counted, numbers_in, own_numbers}
use Rattle.visit_log.proofs.Offered.{none_decides}
use Rattle.visit_frame.proofs.Places.{find_none}
use Rattle.visit_frame.proofs.Counting.{not_hidden, counted_get}

-- 1. NO CHILD DECIDES.

won_mate : (c : Conclusion) → is_mate c ≡ false → is_won Attacker (settled c) ≡ false
won_mate Mate h = absurd (false≢true (sym h))
won_mate Escape h = refl

won_escape : (c : Conclusion) → not (is_mate c) ≡ false → is_won Defender (settled c) ≡ false
won_escape Mate h = refl
won_escape Escape h = absurd (false≢true (sym h))

open_apart : (n : ℕ) → 1 ≤ n → (n == 0) ≡ false
open_apart n h = grind (arith, nat_tests)

won_attacker : (note : Option Derivation) (numbers : Numbers) → IsOpen numbers → shows_mate note ≡ false → is_won Attacker (numbers_by note numbers) ≡ false
won_attacker None numbers is_open h = open_apart numbers.pn is_open.least_pn
won_attacker (Some note) numbers is_open h = won_mate (conclusion_of note) h

won_defender : (note : Option Derivation) (numbers : Numbers) → IsOpen numbers → shows_escape note ≡ false → is_won Defender (numbers_by note numbers) ≡ false
won_defender None numbers is_open h = open_apart numbers.dn is_open.least_dn
won_defender (Some note) numbers is_open h = won_escape (conclusion_of note) h

hidden_not_won : (hidden : Bool) (numbers : Numbers) → is_won Defender numbers ≡ false → is_won Defender (if hidden then settled Mate else numbers) ≡ false
hidden_not_won true numbers h = refl
hidden_not_won false numbers h = h

not_won : (node : Node) (before : List Child) (child : Child) → IsOpen child.numbers → decides node child ≡ false
    → is_won node (counted_behind node before child).numbers ≡ false
not_won Attacker before child is_open h = won_attacker child.note child.numbers is_open h
not_won Defender before child is_open h =
    hidden_not_won (is_hidden Defender before child) (numbers_by child.note child.numbers)
    (won_defender child.note child.numbers is_open ((or_parts child.on_path (shows_escape child.note) h).1))

-- where no child decides, none is won
none_won : (node : Node) (before children : List Child) → All (λ child. IsOpen child.numbers) children → All (λ child. decides node child ≡ false) children
    → list_any (is_won node) (map numbers_in (counted_after node before children)) ≡ false
none_won node before [] opens fails = refl
none_won node before (child ∷ children) opens fails =
    ap (λ (b : Bool). b || list_any (is_won node) (map numbers_in (counted_after node (before ++ child ∷ []) children)))
    (not_won node before child (All-head (λ (c : Child). IsOpen c.numbers) child children opens) (All-head (λ (c : Child). decides node c ≡ false) child children fails))
    ∙ none_won node (before ++ child ∷ []) children (All-tail (λ (c : Child). IsOpen c.numbers) child children opens) (All-tail (λ (c : Child). decides node c ≡ false) child children fails)

-- 2. THE FIRST CHILD WITHOUT A NOTE isn't hidden.

-- A child that counts with its own numbers, and where it stands.
record IsShown (node : Node) (before children : List Child) : Type 0 where
  pub place : ℕ
  pub child : Child
  pub here : slice_get children place ≡ Some child
  pub counts : slice_get (counted_after node before children) place ≡ Some (record { numbers = child.numbers; below = child.below })

shown_as : (node : Node) (before : List Child) (child : Child) → list_all has_note before ≡ true → child.note ≡ None
    → counted_behind node before child ≡ record { numbers = child.numbers; below = child.below }
shown_as node before child all none =
    let by : Bool → Option Derivation → Counted = λ b note. record { numbers = if b then settled Mate else numbers_by note child.numbers; below = child.below } in
    ap (λ (b : Bool). by b child.note) (not_hidden node before child all) ∙ ap (λ (note : Option Derivation). by false note) none

shown_step : (node : Node) (before children : List Child) (child : Child) (note : Option Derivation) → child.note ≡ note → list_all has_note before ≡ true
    → (is_some note && list_all has_note children) ≡ false
    → (list_all has_note (before ++ child ∷ []) ≡ true → list_all has_note children ≡ false → IsShown node (before ++ child ∷ []) children)
    → IsShown node before (child ∷ children)
shown_step node before children child None is all fails rest = record {
  place = 0;
  child = child;
  here = refl;
  counts = ap (λ (c : Counted). Some c) (shown_as node before child all is);
}
shown_step node before children child (Some note) is all fails rest =
    let more : list_all has_note (before ++ child ∷ []) ≡ true =
    list_all-append has_note before (child ∷ [])
    ∙ and_from (list_all has_note before) (has_note child && true) all (and_from (has_note child) true (ap is_some is) refl) in
    let found = rest more fails in
    record { place = suc found.place; child = found.child; here = found.here; counts = found.counts }

first_shown : (node : Node) (before children : List Child) → list_all has_note before ≡ true → list_all has_note children ≡ false → IsShown node before children
first_shown node before [] all fails = absurd (false≢true (sym fails))
first_shown node before (child ∷ children) all fails =
    shown_step node before children child child.note refl all fails (λ more rest. first_shown node (before ++ child ∷ []) children more rest)

-- 3. THE NODE'S OWN NUMBERS.

settled_numbers : (c : Conclusion) → IsNumbers (settled c)
settled_numbers Mate = inl (record { pn = refl; dn = refl })
settled_numbers Escape = inr (inl (record { pn = refl; dn = refl }))

by_numbers : (note : Option Derivation) (numbers : Numbers) → IsOpen numbers → IsNumbers (numbers_by note numbers)
by_numbers None numbers is_open = inr (inr is_open)
by_numbers (Some note) numbers is_open = settled_numbers (conclusion_of note)

hidden_numbers : (hidden : Bool) (numbers : Numbers) → IsNumbers numbers → IsNumbers (if hidden then settled Mate else numbers)
hidden_numbers true numbers h = settled_numbers Mate
hidden_numbers false numbers h = h

-- what is counted are numbers of a node
pub are_numbers : (node : Node) (before children : List Child) → All (λ child. IsOpen child.numbers) children
    → All IsNumbers (map numbers_in (counted_after node before children))
are_numbers node before [] opens = All-nil IsNumbers
are_numbers node before (child ∷ children) opens =
    All-cons IsNumbers (counted_behind node before child).numbers (map numbers_in (counted_after node (before ++ child ∷ []) children))
    (hidden_numbers (is_hidden node before child) (numbers_by child.note child.numbers)
    (by_numbers child.note child.numbers (All-head (λ (c : Child). IsOpen c.numbers) child children opens)))
    (are_numbers node (before ++ child ∷ []) children (All-tail (λ (c : Child). IsOpen c.numbers) child children opens))

open_if : (node : Node) (n : Numbers) → IsNumbers n → 1 ≤ summed_number node n → summed_number node n ≤ CAP → IsOpen n
open_if Attacker n (inl proved) low high = absurd (let dn = proved.dn in omega arith)
open_if Attacker n (inr (inl disproved)) low high = absurd (let dn = disproved.dn in omega arith)
open_if Attacker n (inr (inr is_open)) low high = is_open
open_if Defender n (inl proved) low high = absurd (let pn = proved.pn in omega arith)
open_if Defender n (inr (inl disproved)) low high = absurd (let pn = disproved.pn in omega arith)
open_if Defender n (inr (inr is_open)) low high = is_open

summed_with : (node : Node) (least sum : ℕ) → summed_number node (numbers_with node least sum) ≡ sum
summed_with Attacker least sum = refl
summed_with Defender least sum = refl

open_summed : (node : Node) (n : Numbers) → IsOpen n → 1 ≤ summed_number node n
open_summed Attacker n is_open = is_open.least_dn
open_summed Defender n is_open = is_open.least_pn

open_minimized : (node : Node) (n : Numbers) → IsOpen n → minimized_number node n ≤ CAP
open_minimized Attacker n is_open = is_open.most_pn
open_minimized Defender n is_open = is_open.most_dn

-- the least and the sum are the numbers of a node that is neither won nor lost
neither : (node : Node) (counts : List Numbers) → list_any (is_won node) counts ≡ false → list_all (is_lost node) counts ≡ false
    → numbers_at node counts ≡ numbers_with node (least_of node counts) (sum_of node counts)
neither node counts won lost =
    ap (λ (b : Bool). if b then numbers_with node 0 INFINITE else (if list_all (is_lost node) counts then numbers_with node INFINITE 0 else numbers_with node (least_of node counts) (sum_of node counts))) won
    ∙ ap (λ (b : Bool). if b then numbers_with node INFINITE 0 else numbers_with node (least_of node counts) (sum_of node counts)) lost

-- numbers of which none is won, with open ones at some place, give open ones
open_with : (node : Node) (counts : List Numbers) (k : ℕ) (one : Numbers) → list_any (is_won node) counts ≡ false → slice_get counts k ≡ Some one → IsOpen one
    → IsNumbers (numbers_at node counts) → IsOpen (numbers_at node counts)
open_with node counts k one won at is_open numbers =
    let inside = slice_get_within counts k one at in
    let read = get_or_from_slice_get counts k one one at in
    let low = open_summed node one is_open in
    let lost : list_all (is_lost node) counts ≡ false = list_all_at (is_lost node) counts k one inside (ap (is_lost node) read ∙ open_apart (summed_number node one) low) in
    let is = neither node counts won lost in
    let sum : summed_number node (numbers_at node counts) ≡ sum_of node counts = ap (summed_number node) is ∙ summed_with node (least_of node counts) (sum_of node counts) in
    let part : summed_number node (get_or counts k one) ≤ sum_by (summed_number node) counts = get_or-le-sum_by (summed_number node) counts k one inside in
    let same : summed_number node (get_or counts k one) ≡ summed_number node one = ap (summed_number node) read in
    open_if node (numbers_at node counts) numbers (omega arith) (omega arith)

counts_at : (node : Node) (children : List Child) (shown : IsShown node [] children) → slice_get (map numbers_in (counted node children)) shown.place ≡ Some shown.child.numbers
counts_at node children shown =
    slice_get-map numbers_in (counted node children) shown.place ∙ ap (λ (o : Option Counted). Rattle.std.specs.Prelude.option_map numbers_in o) shown.counts

unsolved_parts : (found : Option Child) (all : Bool) → (is_some found || all) ≡ false → (found ≡ None) × (all ≡ false)
unsolved_parts None all h = (refl, h)
unsolved_parts (Some child) all h = absurd (false≢true (sym h))

-- a node that isn't solved has a child that counts with its own numbers
unsolved_shown : (node : Node) (children : List Child) → is_solved node children ≡ false → IsShown node [] children
unsolved_shown node children h = first_shown node [] children refl (unsolved_parts (deciding node children) (list_all has_note children) h).1

-- and open numbers
pub own_open : (node : Node) (children : List Child) → All (λ child. IsOpen child.numbers) children → is_solved node children ≡ false
    → IsNumbers (own_numbers node children) → IsOpen (own_numbers node children)
own_open node children opens h numbers =
    let shown = unsolved_shown node children h in
    let fails : All (λ (child : Child). decides node child ≡ false) children =
    λ k d inside. find_none (decides node) children k (get_or children k d) (none_decides node children h) (Rattle.std.proofs.lemmas.Option.slice_get-get_or children k d inside) in
    open_with node (map numbers_in (counted node children)) shown.place shown.child.numbers (none_won node [] children opens fails) (counts_at node children shown)
    (Rattle.visit_frame.proofs.Places.all_at (λ (child : Child). IsOpen child.numbers) children shown.place shown.child opens shown.here) numbers

-- and a child that has a selecting number
pub can_select : (node : Node) (children : List Child) → All (λ child. IsOpen child.numbers) children → is_solved node children ≡ false
    → ((place : ℕ) → number_at node (counted node children) place ≡ None) → ⊥
can_select node children opens h none =
    let shown = unsolved_shown node children h in
    let is_open = Rattle.visit_frame.proofs.Places.all_at (λ (child : Child). IsOpen child.numbers) children shown.place shown.child opens shown.here in
    let low = open_minimized node shown.child.numbers is_open in
    let one : Counted = record { numbers = shown.child.numbers; below = shown.child.below } in
    let number = minimized_number node shown.child.numbers in
    let finite : nat_lt number INFINITE ≡ true = grind (arith, nat_tests) in
    none-some (number + WEIGHT * shown.child.below) (sym (
    sym (ap (λ (o : Option Counted). Rattle.std.specs.Prelude.option_and_then (selecting_number node) o) shown.counts)
    ∙ none shown.place) ∙ ap (λ (b : Bool). if b then Some (number + WEIGHT * shown.child.below) else None) finite)

some_place : (o : Option Child) (f : Child → Counted) (number : ℕ) (select : Counted → Option ℕ)
    → Rattle.std.specs.Prelude.option_and_then select (Rattle.std.specs.Prelude.option_map f o) ≡ Some number → is_some o ≡ true
some_place None f number select h = absurd (none-some number h)
some_place (Some child) f number select h = refl

-- a child stands at a place that has a selecting number
pub number_there : (node : Node) (children : List Child) (place number : ℕ) → number_at node (counted node children) place ≡ Some number → is_some (slice_get children place) ≡ true
number_there node children place number h =
    some_place (slice_get children place) (counted_behind node ([] ++ Rattle.std.proofs.Common.take place children)) number (selecting_number node)
    (ap (λ (o : Option Counted). Rattle.std.specs.Prelude.option_and_then (selecting_number node) o) (sym (counted_get node [] children place)) ∙ h)
