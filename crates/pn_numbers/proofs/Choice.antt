-- That the child which leads, or another of its number, is the one to be selected.
use Rattle.std.proofs.Common.{◌≡◌, ◌≢◌, ◌<◌, ◌≤◌, ◌+◌, ◌-◌, ◌*◌, ◌%◌, ◌==◌, ◌&&◌, inl, inr, ℕ, List, Option, Some, None, Bool, true, false, IsTrue, IsSomeAnd, nat_lt, take, length, arith, refl, sym, ap, ◌∙◌, subst, eq-eqb, cond, count_by, unwrap_or}
use Rattle.std.specs.Prelude.{slice_get, option_and_then}
use Rattle.std.proofs.lemmas.Bool.{cases_eq, eqb-true, false_from_ne_true}
use Rattle.std.proofs.lemmas.Option.{option_and_then_some, slice_get_within}
use Rattle.pn_numbers.specs.declared.node.Node.{Node}
use Rattle.pn_numbers.specs.declared.numbers.TheConstants.{INFINITE}
use Rattle.pn_numbers.specs.declared.selecting.Child.{Child}
use Rattle.pn_numbers.specs.declared.selecting.TheConstants.{WEIGHT}
use Rattle.pn_numbers.specs.Node.{minimized_number}
use Rattle.pn_numbers.specs.Selection.{selecting_number, number_at, has_number, IsLeastOfOthers, IsSelected}
use Rattle.pn_numbers.specs.Leading.{IsLead}
use Rattle.pn_numbers.proofs.Turns.{count_none, count_one, count_some}

-- 1. A CHILD'S NUMBER, and the test for it.

number_if : (b : Bool) (x n : ℕ) → (b && (x == n)) ≡ true → cond b (Some x) None ≡ Some n
number_if true x n h = ap Some (eqb-true x n h)
number_if false x n h = absurd (cc)

test_if : (b : Bool) (x n : ℕ) → cond b (Some x) None ≡ Some n → (b && (x == n)) ≡ true
test_if true x n h = let e : x ≡ n = cc in eq-eqb x n e
test_if false x n h = absurd (cc)

number_of_test : (node : Node) (n : ℕ) (child : Child) → has_number node n child ≡ true → selecting_number node child ≡ Some n
number_of_test node n child h = number_if (nat_lt (minimized_number node child.numbers) INFINITE) (minimized_number node child.numbers + WEIGHT * child.below) n h

test_of_number : (node : Node) (n : ℕ) (child : Child) → selecting_number node child ≡ Some n → has_number node n child ≡ true
test_of_number node n child h = test_if (nat_lt (minimized_number node child.numbers) INFINITE) (minimized_number node child.numbers + WEIGHT * child.below) n h

test_at : (node : Node) (n : ℕ) (o : Option Child) (x : Child) → o ≡ Some x → option_and_then (selecting_number node) o ≡ Some n → has_number node n x ≡ true
test_at node n o x there at = test_of_number node n x (sym (ap (option_and_then (selecting_number node)) there) ∙ at)

at_test : (node : Node) (n : ℕ) (o : Option Child) (x : Child) → o ≡ Some x → has_number node n x ≡ true → option_and_then (selecting_number node) o ≡ Some n
at_test node n o x there h = ap (option_and_then (selecting_number node)) there ∙ number_of_test node n x h

pub number_found : (node : Node) (n : ℕ) (o : Option Child) → IsSomeAnd o (λ child. IsTrue (has_number node n child)) → option_and_then (selecting_number node) o ≡ Some n
number_found node n None h = absurd h
number_found node n (Some x) h = number_of_test node n x h

number_in : (node : Node) (xs : List Child) (j n : ℕ) → number_at node xs j ≡ Some n → j < length xs
number_in node xs j n at = option_and_then_some (selecting_number node) (slice_get xs j) n at (λ x there found. slice_get_within xs j x there)

-- 2. HOW MANY HAVE THE LEAST NUMBER.

pub some_have : (node : Node) (xs : List Child) (place least : ℕ) → number_at node xs place ≡ Some least → 1 ≤ count_by (has_number node least) xs
some_have node xs place least at =
    option_and_then_some (selecting_number node) (slice_get xs place) least at
    (λ x there found. count_some (has_number node least) xs place x there (test_of_number node least x found))

none_before : (node : Node) (xs : List Child) (place least : ℕ) (second : Option ℕ) → IsLead (number_at node xs) (length xs) place least second
    → count_by (has_number node least) (take place xs) ≡ 0
none_before node xs place least second lead =
    count_none (has_number node least) xs place
    (λ j x before there. false_from_ne_true (has_number node least x)
    (λ h. let less = lead.first j least before (at_test node least (slice_get xs j) x there h) in omega (arith, less)))

alone : (node : Node) (xs : List Child) (place least : ℕ) (second : Option ℕ) → IsLead (number_at node xs) (length xs) place least second
    → least < unwrap_or second INFINITE → (j : ℕ) → number_at node xs j ≡ Some least → j ≡ place
alone node xs place least None lead less j at = lead.others j least (number_in node xs j least at) at
alone node xs place least (Some second) lead less j at = elim (cases_eq j place) [
  | inl same ↦ same
  | inr other ↦ absurd (let up = lead.others.0 j least (number_in node xs j least at) other at in omega (arith, up, less))
]

pub one_has : (node : Node) (xs : List Child) (place least : ℕ) (second : Option ℕ) → IsLead (number_at node xs) (length xs) place least second
    → least < unwrap_or second INFINITE → count_by (has_number node least) xs ≡ 1
one_has node xs place least second lead less =
    option_and_then_some (selecting_number node) (slice_get xs place) least lead.has
    (λ x there found. count_one (has_number node least) xs place x there (test_of_number node least x found)
    (λ j y at h. alone node xs place least second lead less j (at_test node least (slice_get xs j) y at h)))

-- 3. THE SECOND BEST.

others_of_lead : (node : Node) (xs : List Child) (place least : ℕ) (second : Option ℕ) → IsLead (number_at node xs) (length xs) place least second
    → IsLeastOfOthers node xs place (unwrap_or second INFINITE)
others_of_lead node xs place least None lead = record {
  none_less = λ other n ne at. absurd (ne (lead.others other n (number_in node xs other n at) at));
  met = inr ((λ other n at. lead.others other n (number_in node xs other n at) at), refl);
}
others_of_lead node xs place least (Some second) lead = record {
  none_less = λ other n ne at. lead.others.0 other n (number_in node xs other n at) ne at;
  met = let found = lead.others.1 in inl (found.0, found.2, found.3);
}

others_of_equal : (node : Node) (xs : List Child) (place least : ℕ) (second : Option ℕ) → IsLead (number_at node xs) (length xs) place least second
    → unwrap_or second INFINITE ≤ least → (chosen : ℕ) → chosen ≢ place → number_at node xs chosen ≡ Some least
    → IsLeastOfOthers node xs chosen (unwrap_or second INFINITE)
others_of_equal node xs place least None lead few chosen ne at = absurd (ne (lead.others chosen least (number_in node xs chosen least at) at))
others_of_equal node xs place least (Some second) lead few chosen ne at =
    let found = lead.others.1 in
    let up = lead.none_less found.0 second found.1 found.3 in
    let same : least ≡ second = omega (arith, up, few) in
    record {
      none_less = λ other n apart there. let up = lead.none_less other n (number_in node xs other n there) there in omega (arith, up, same);
      met = inl (place, (λ e. ne (sym e)), lead.has ∙ ap Some same);
    }

others_of_chosen : (node : Node) (xs : List Child) (place least : ℕ) (second : Option ℕ) → IsLead (number_at node xs) (length xs) place least second
    → unwrap_or second INFINITE ≤ least → (chosen : ℕ) → number_at node xs chosen ≡ Some least
    → IsLeastOfOthers node xs chosen (unwrap_or second INFINITE)
others_of_chosen node xs place least second lead few chosen at = elim (cases_eq chosen place) [
  | inl same ↦ subst (λ (p : ℕ). IsLeastOfOthers node xs p (unwrap_or second INFINITE)) (sym same) (others_of_lead node xs place least second lead)
  | inr ne ↦ others_of_equal node xs place least second lead few chosen ne at
]

-- 4. WHO IS SELECTED.

least_of_all : (node : Node) (xs : List Child) (place least : ℕ) (second : Option ℕ) → IsLead (number_at node xs) (length xs) place least second
    → (other n : ℕ) → number_at node xs other ≡ Some n → least ≤ n
least_of_all node xs place least second lead other n at = lead.none_less other n (number_in node xs other n at) at

pub lead_selected : (node : Node) (xs : List Child) (worker place least : ℕ) (second : Option ℕ) → IsLead (number_at node xs) (length xs) place least second
    → (worker - 1) % count_by (has_number node least) xs ≡ 0 → IsSelected node xs worker place (unwrap_or second INFINITE)
lead_selected node xs worker place least second lead turn = record {
  least = least;
  number = lead.has;
  none_less = least_of_all node xs place least second lead;
  turn = none_before node xs place least second lead ∙ sym turn;
  others = others_of_lead node xs place least second lead;
}

pub equal_selected : (node : Node) (xs : List Child) (worker place least : ℕ) (second : Option ℕ) → IsLead (number_at node xs) (length xs) place least second
    → unwrap_or second INFINITE ≤ least → (chosen : ℕ) → number_at node xs chosen ≡ Some least
    → count_by (has_number node least) (take chosen xs) ≡ (worker - 1) % count_by (has_number node least) xs
    → IsSelected node xs worker chosen (unwrap_or second INFINITE)
equal_selected node xs worker place least second lead few chosen at turn = record {
  least = least;
  number = at;
  none_less = least_of_all node xs place least second lead;
  turn = turn;
  others = others_of_chosen node xs place least second lead few chosen at;
}
