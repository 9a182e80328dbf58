-- Rising lists of keys: what putting a key into one and taking one out do, and that there is one
-- for a set of keys.
use Rattle.std.proofs.Common.{◌≡◌, ◌≢◌, List, [], ◌∷◌, ◌⊎◌, inl, inr, Bool, true, false, not, cond, Contains, ap, sym, refl, subst, ◌∙◌}
use Rattle.std.specs.List.{AllByRecursion}
use Rattle.std.specs.Ordering.{is_eq, match_ordering}
use Rattle.std.specs.declared.cmp.Ordering.{Ordering}
use Rattle.std.specs.declared.cmp.Ordering.TheVariants.{Less, Equal, Greater}
use Rattle.std.specs.List.Sorted.{IsStrictlySortedBy}
use Rattle.std.specs.BTreeSet.{insert_key}
use Rattle.std.proofs.lemmas.Map.Keys.{sorted_head, sorted_tail}
use Rattle.std.proofs.lemmas.Map.Views.{All-insert_key}
use Rattle.std.proofs.lemmas.List.Elements.{All-from_recursion, recursion_from_All}
use Rattle.std.proofs.lemmas.List.Kept.{IsStrictlySortedBy-filter}
use Rattle.board_core.specs.declared.keys.Key.{Key}
use Rattle.path_tags.specs.Tag.{IsRising, without}
use Rattle.board_core.specs.KeyOrder.{key_cmp}
use Rattle.board_laws.proofs.Keys.{key_total, key_exact, same_from_test, test_from_same, not_below_itself, greater_back, less_back}
use Rattle.path_tags.proofs.Members.{contains_head, contains_tail, contains_none, contains_cases, all_contained}

-- each key of the list comes behind the key
abbrev pub AreBehind : Key → List Key → Type 0
AreBehind k ks = AllByRecursion (λ y. key_cmp k y ≡ Less) ks

pub rises_none : IsRising []
unfolding IsStrictlySortedBy
rises_none = tt

pub rises_more : (k : Key) (ks : List Key) → AreBehind k ks → IsRising ks → IsRising (k ∷ ks)
unfolding IsStrictlySortedBy
rises_more k ks behind rises = (behind, rises)

pub behind_of : (k : Key) (ks : List Key) → IsRising (k ∷ ks) → AreBehind k ks
behind_of = sorted_head key_cmp

pub rest_rises : (k : Key) (ks : List Key) → IsRising (k ∷ ks) → IsRising ks
rest_rises = sorted_tail key_cmp

-- what comes behind a key behind it comes behind it
pub behind_further : (k x : Key) (ks : List Key) → key_cmp k x ≡ Less → AreBehind x ks → AreBehind k ks
behind_further k x [] less behind = tt
behind_further k x (y ∷ ks) less behind = (key_total.trans k x y less behind.0, behind_further k x ks less behind.1)

-- 1. A key put into a list.

pub behind_insert : (low k : Key) (ks : List Key) → AreBehind low ks → key_cmp low k ≡ Less → AreBehind low (insert_key key_cmp ks k)
behind_insert low k ks behind less =
    let P : Key → Type 0 = λ y. key_cmp low y ≡ Less in
    recursion_from_All P (insert_key key_cmp ks k) (All-insert_key key_cmp k P ks (All-from_recursion P ks behind) less)

pub rises_insert : (ks : List Key) (k : Key) → IsRising ks → IsRising (insert_key key_cmp ks k)
rises_insert [] k rises = rises_more k [] tt rises_none
rises_insert (x ∷ xs) k rises = by_order (key_cmp k x) refl (rises_insert xs k (rest_rises x xs rises))
  where
    by_order : (o : Ordering) → key_cmp k x ≡ o → IsRising (insert_key key_cmp xs k) → IsRising (match_ordering o (k ∷ x ∷ xs) (x ∷ xs) (x ∷ insert_key key_cmp xs k))
    by_order Less h rest = rises_more k (x ∷ xs) (h, behind_further k x xs h (behind_of x xs rises)) rises
    by_order Equal h rest = rises
    by_order Greater h rest =
        rises_more x (insert_key key_cmp xs k) (behind_insert x k xs (behind_of x xs rises) (greater_back k x h)) rest

-- a key that comes before all others is put before them
pub insert_first : (k : Key) (ks : List Key) → AreBehind k ks → insert_key key_cmp ks k ≡ k ∷ ks
insert_first k [] behind = refl
insert_first k (x ∷ xs) behind = ap (λ (o : Ordering). match_ordering o (k ∷ x ∷ xs) (x ∷ xs) (x ∷ insert_key key_cmp xs k)) behind.0

-- one that comes behind the first is put behind it
pub insert_behind : (x k : Key) (xs : List Key) → key_cmp x k ≡ Less → insert_key key_cmp (x ∷ xs) k ≡ x ∷ insert_key key_cmp xs k
insert_behind x k xs less = ap (λ (o : Ordering). match_ordering o (k ∷ x ∷ xs) (x ∷ xs) (x ∷ insert_key key_cmp xs k)) (less_back x k less)

-- the first itself is there already
pub insert_same : (x k : Key) (xs : List Key) → key_cmp k x ≡ Equal → insert_key key_cmp (x ∷ xs) k ≡ x ∷ xs
insert_same x k xs same = ap (λ (o : Ordering). match_ordering o (k ∷ x ∷ xs) (x ∷ xs) (x ∷ insert_key key_cmp xs k)) same

pub inserted_old : (ks : List Key) (k q : Key) → Contains ks q → Contains (insert_key key_cmp ks k) q
inserted_old [] k q c = absurd (contains_none q c)
inserted_old (x ∷ xs) k q c = by_order (key_cmp k x) (inserted_old xs k q)
  where
    by_order : (o : Ordering) → (Contains xs q → Contains (insert_key key_cmp xs k) q) → Contains (match_ordering o (k ∷ x ∷ xs) (x ∷ xs) (x ∷ insert_key key_cmp xs k)) q
    by_order Less further = contains_tail k (x ∷ xs) q c
    by_order Equal further = c
    by_order Greater further = elim (contains_cases x xs q c) [
      | inl same ↦ subst (λ (y : Key). Contains (x ∷ insert_key key_cmp xs k) y) same (contains_head x (insert_key key_cmp xs k))
      | inr rest ↦ contains_tail x (insert_key key_cmp xs k) q (further rest)
    ]

pub inserted_new : (ks : List Key) (k : Key) → Contains (insert_key key_cmp ks k) k
inserted_new [] k = contains_head k []
inserted_new (x ∷ xs) k = by_order (key_cmp k x) refl (inserted_new xs k)
  where
    by_order : (o : Ordering) → key_cmp k x ≡ o → Contains (insert_key key_cmp xs k) k → Contains (match_ordering o (k ∷ x ∷ xs) (x ∷ xs) (x ∷ insert_key key_cmp xs k)) k
    by_order Less h rest = contains_head k (x ∷ xs)
    by_order Equal h rest = subst (λ (y : Key). Contains (x ∷ xs) y) (sym (key_exact k x h)) (contains_head x xs)
    by_order Greater h rest = contains_tail x (insert_key key_cmp xs k) k rest

pub inserted_cases : (ks : List Key) (k q : Key) → Contains (insert_key key_cmp ks k) q → Contains ks q ⊎ (k ≡ q)
inserted_cases [] k q c = elim (contains_cases k [] q c) [
  | inl same ↦ inr same
  | inr none ↦ inl none
]
inserted_cases (x ∷ xs) k q c = by_order (key_cmp k x) (inserted_cases xs k q) c
  where
    by_order : (o : Ordering) → (Contains (insert_key key_cmp xs k) q → Contains xs q ⊎ (k ≡ q)) → Contains (match_ordering o (k ∷ x ∷ xs) (x ∷ xs) (x ∷ insert_key key_cmp xs k)) q
        → Contains (x ∷ xs) q ⊎ (k ≡ q)
    by_order Less further c = elim (contains_cases k (x ∷ xs) q c) [
      | inl same ↦ inr same
      | inr old ↦ inl old
    ]
    by_order Equal further c = inl c
    by_order Greater further c = elim (contains_cases x (insert_key key_cmp xs k) q c) [
      | inl same ↦ inl (subst (λ (y : Key). Contains (x ∷ xs) y) same (contains_head x xs))
      | inr rest ↦ elim (further rest) [
        | inl old ↦ inl (contains_tail x xs q old)
        | inr same ↦ inr same
      ]
    ]

-- 2. A key taken out.

pub without_rises : (key : Key) (ks : List Key) → IsRising ks → IsRising (without key ks)
without_rises key ks rises = IsStrictlySortedBy-filter key_cmp (λ other. not (is_eq (key_cmp key other))) ks rises

pub without_kept : (key : Key) (ks : List Key) (q : Key) → Contains ks q → q ≢ key → Contains (without key ks) q
without_kept key [] q c other = c
without_kept key (x ∷ xs) q c other = by_test (is_eq (key_cmp key x)) refl (λ rest. without_kept key xs q rest other)
  where
    by_test : (b : Bool) → is_eq (key_cmp key x) ≡ b → (Contains xs q → Contains (without key xs) q) → Contains (cond (not b) (x ∷ without key xs) (without key xs)) q
    by_test true h further = elim (contains_cases x xs q c) [
      | inl same ↦ absurd (other (sym (same_from_test key x h ∙ same)))
      | inr rest ↦ further rest
    ]
    by_test false h further = elim (contains_cases x xs q c) [
      | inl same ↦ subst (λ (y : Key). Contains (x ∷ without key xs) y) same (contains_head x (without key xs))
      | inr rest ↦ contains_tail x (without key xs) q (further rest)
    ]

pub without_cases : (key : Key) (ks : List Key) (q : Key) → Contains (without key ks) q → Contains ks q × (q ≢ key)
without_cases key [] q c = absurd (contains_none q c)
without_cases key (x ∷ xs) q c = by_test (is_eq (key_cmp key x)) refl (without_cases key xs q) c
  where
    by_test : (b : Bool) → is_eq (key_cmp key x) ≡ b → (Contains (without key xs) q → Contains xs q × (q ≢ key))
        → Contains (cond (not b) (x ∷ without key xs) (without key xs)) q → Contains (x ∷ xs) q × (q ≢ key)
    by_test true h further c = let rest = further c in (contains_tail x xs q rest.0, rest.1)
    by_test false h further c = elim (contains_cases x (without key xs) q c) [
      | inl same ↦ (subst (λ (y : Key). Contains (x ∷ xs) y) same (contains_head x xs), λ e. let t = test_from_same key x (sym (same ∙ e)) in absurd (cc))
      | inr rest ↦ let there = further rest in (contains_tail x xs q there.0, there.1)
    ]

-- 3. One list for a set of keys.

first_same : (x y : Key) (xs ys : List Key) → IsRising (x ∷ xs) → IsRising (y ∷ ys) → Contains (y ∷ ys) x → Contains (x ∷ xs) y → x ≡ y
first_same x y xs ys a b there back = elim (contains_cases y ys x there) [
  | inl same ↦ sym same
  | inr behind ↦ elim (contains_cases x xs y back) [
    | inl same ↦ same
    | inr further ↦
        let P : Key → Type 0 = λ k. key_cmp y k ≡ Less in
        let Q : Key → Type 0 = λ k. key_cmp x k ≡ Less in
        let yx : key_cmp y x ≡ Less = all_contained P ys x (behind_of y ys b) behind in
        let xy : key_cmp x y ≡ Less = all_contained Q xs y (behind_of x xs a) further in
        absurd (not_below_itself x x refl (key_total.trans x y x xy yx))
  ]
]

-- what stands behind the first key of one list stands behind the first key of the other
rest_same : (x : Key) (xs ys : List Key) → IsRising (x ∷ xs) → ((q : Key) → Contains (x ∷ xs) q → Contains (x ∷ ys) q)
    → (q : Key) → Contains xs q → Contains ys q
rest_same x xs ys a to q c = elim (contains_cases x ys q (to q (contains_tail x xs q c))) [
  | inl same ↦ let P : Key → Type 0 = λ k. key_cmp x k ≡ Less in absurd (not_below_itself x q same (all_contained P xs q (behind_of x xs a) c))
  | inr rest ↦ rest
]

pub one_rising : (a b : List Key) → IsRising a → IsRising b → ((q : Key) → Contains a q → Contains b q) → ((q : Key) → Contains b q → Contains a q) → a ≡ b
one_rising [] [] rises rise to back = refl
one_rising [] (y ∷ ys) rises rise to back = absurd (contains_none y (back y (contains_head y ys)))
one_rising (x ∷ xs) [] rises rise to back = absurd (contains_none x (to x (contains_head x xs)))
one_rising (x ∷ xs) (y ∷ ys) rises rise to back =
    let same = first_same x y xs ys rises rise (to x (contains_head x xs)) (back y (contains_head y ys)) in
    let rise' = subst (λ (k : Key). IsRising (k ∷ ys)) (sym same) rise in
    let to' : (q : Key) → Contains (x ∷ xs) q → Contains (x ∷ ys) q = λ q c. subst (λ (k : Key). Contains (k ∷ ys) q) (sym same) (to q c) in
    let back' : (q : Key) → Contains (x ∷ ys) q → Contains (x ∷ xs) q = λ q c. back q (subst (λ (k : Key). Contains (k ∷ ys) q) same c) in
    let rest = one_rising xs ys (rest_rises x xs rises) (rest_rises y ys rise) (rest_same x xs ys rises to') (rest_same x ys xs rise' back') in
    ap (λ (k : Key). k ∷ xs) same ∙ ap (λ (ks : List Key). y ∷ ks) rest
