-- Two rising lists joined.
use Rattle.std.proofs.Common.{◌≡◌, ◌≢◌, List, [], ◌∷◌, ◌++◌, ◌⊎◌, inl, inr, ◌↔◌, Bool, true, false, not, cond, eqb, append_assoc, append-nil, length, Contains, arith, ap, sym, refl, subst, ◌∙◌}
use Rattle.std.specs.Ordering.{is_eq}
use Rattle.std.specs.declared.cmp.Ordering.TheVariants.{Less, Equal, Greater}
use Rattle.std.specs.BTreeSet.{insert_key}
use Rattle.std.specs.Cmp.Lexicographic.{pointwise, texts_ties}
use Rattle.std.proofs.lemmas.Cmp.{tied_back, eq_by_cmp_equiv}
use Rattle.std.proofs.lemmas.List.Elements.{Contains-append_left, Contains-push, Contains-push_cases}
use Rattle.board_core.specs.declared.keys.Key.{Key}
use Rattle.path_tags.specs.Tag.{IsRising, joined, without, joined_without, IsWithin}
use Rattle.board_core.specs.KeyOrder.{key_cmp}
use Rattle.board_laws.proofs.Keys.{key_total, key_exact, same_from_test, test_from_same, greater_back}
use Rattle.path_tags.proofs.Rising.{AreBehind, behind_of, rest_rises, behind_further, behind_insert, rises_insert, insert_first, insert_behind, insert_same, inserted_old, inserted_new, inserted_cases, without_rises, without_kept, without_cases}
use Rattle.path_tags.proofs.Members.{contains_head, contains_tail, contains_none, contains_cases}

-- 1. What the joined list holds, and that it rises.

pub joined_rises : (a b : List Key) → IsRising a → IsRising (joined a b)
joined_rises a [] rises = rises
joined_rises a (y ∷ ys) rises = rises_insert (joined a ys) y (joined_rises a ys rises)

pub joined_left : (a b : List Key) (q : Key) → Contains a q → Contains (joined a b) q
joined_left a [] q c = c
joined_left a (y ∷ ys) q c = inserted_old (joined a ys) y q (joined_left a ys q c)

pub joined_right : (a b : List Key) (q : Key) → Contains b q → Contains (joined a b) q
joined_right a [] q c = absurd (contains_none q c)
joined_right a (y ∷ ys) q c = elim (contains_cases y ys q c) [
  | inl same ↦ subst (λ (k : Key). Contains (joined a (y ∷ ys)) k) same (inserted_new (joined a ys) y)
  | inr rest ↦ inserted_old (joined a ys) y q (joined_right a ys q rest)
]

pub joined_cases : (a b : List Key) (q : Key) → Contains (joined a b) q → Contains a q ⊎ Contains b q
joined_cases a [] q c = inl c
joined_cases a (y ∷ ys) q c = elim (inserted_cases (joined a ys) y q c) [
  | inl old ↦ elim (joined_cases a ys q old) [
    | inl left ↦ inl left
    | inr right ↦ inr (contains_tail y ys q right)
  ]
  | inr same ↦ inr (subst (λ (k : Key). Contains (y ∷ ys) k) same (contains_head y ys))
]

pub joined_holds : (key : Key) (a b : List Key) (q : Key) → Contains (joined_without key a b) q ↔ ((Contains a q ⊎ Contains b q) × (q ≢ key))
joined_holds key a b q = (
  λ c. let there = without_cases key (joined a b) q c in (joined_cases a b q there.0, there.1),
  λ h. without_kept key (joined a b) q (elim h.0 [
    | inl left ↦ joined_left a b q left
    | inr right ↦ joined_right a b q right
  ]) h.1,
)

pub joined_without_rises : (key : Key) (a b : List Key) → IsRising a → IsRising (joined_without key a b)
joined_without_rises key a b rises = without_rises key (joined a b) (joined_rises a b rises)

-- 2. The first key of what two lists are joined to.

pub behind_joined : (low : Key) (a b : List Key) → AreBehind low a → AreBehind low b → AreBehind low (joined a b)
behind_joined low a [] first second = first
behind_joined low a (y ∷ ys) first second = behind_insert low y (joined a ys) (behind_joined low a ys first second.1) second.0

pub joined_none : (b : List Key) → IsRising b → joined [] b ≡ b
joined_none [] rises = refl
joined_none (y ∷ ys) rises =
    ap (λ (ks : List Key). insert_key key_cmp ks y) (joined_none ys (rest_rises y ys rises)) ∙ insert_first y ys (behind_of y ys rises)

pub first_ours : (x : Key) (xs ys : List Key) → AreBehind x ys → joined (x ∷ xs) ys ≡ x ∷ joined xs ys
first_ours x xs [] behind = refl
first_ours x xs (y ∷ ys) behind =
    ap (λ (ks : List Key). insert_key key_cmp ks y) (first_ours x xs ys behind.1) ∙ insert_behind x y (joined xs ys) behind.0

pub first_theirs : (y : Key) (xs ys : List Key) → AreBehind y xs → AreBehind y ys → joined xs (y ∷ ys) ≡ y ∷ joined xs ys
first_theirs y xs ys ours theirs = insert_first y (joined xs ys) (behind_joined y xs ys ours theirs)

pub first_both : (x y : Key) (xs ys : List Key) → key_cmp y x ≡ Equal → AreBehind y ys → joined (x ∷ xs) (y ∷ ys) ≡ x ∷ joined xs ys
first_both x y xs ys same behind =
    ap (λ (ks : List Key). insert_key key_cmp ks y) (first_ours x xs ys (subst (λ (k : Key). AreBehind k ys) (key_exact y x same) behind))
    ∙ insert_same x y (joined xs ys) same

-- 3. Paths.

pub within_more : (tag path : List Key) (key : Key) → IsWithin tag path → IsWithin tag (path ++ key ∷ [])
within_more tag path key within = λ q c. Contains-append_left path (key ∷ []) q (within q c)

pub within_before : (path : List Key) (key q : Key) → Contains (path ++ key ∷ []) q → q ≢ key → Contains path q
within_before path key q c other = elim (Contains-push_cases path key q c) [
  | inl before ↦ before
  | inr same ↦ absurd (other (sym same))
]

pub within_joined : (key : Key) (a b path : List Key) → IsWithin a (path ++ key ∷ []) → IsWithin b (path ++ key ∷ [])
    → IsWithin (joined_without key a b) path
within_joined key a b path left right = λ q c.
    let there = (joined_holds key a b q).0 c in
    within_before path key q (elim there.0 [
      | inl ours ↦ left q ours
      | inr theirs ↦ right q theirs
    ]) there.1

within_one : (key : Key) (a b path : List Key) (q : Key) → IsWithin (joined_without key a b) path → Contains a q ⊎ Contains b q
    → Contains (path ++ key ∷ []) q
within_one key a b path q within c = by_test (is_eq (key_cmp key q)) refl
  where
    by_test : (t : Bool) → is_eq (key_cmp key q) ≡ t → Contains (path ++ key ∷ []) q
    by_test true h = subst (λ (k : Key). Contains (path ++ key ∷ []) k) (same_from_test key q h) (Contains-push path key)
    by_test false h =
        let other : q ≢ key = λ e. let t = test_from_same key q (sym e) in absurd (cc) in
        Contains-append_left path (key ∷ []) q (within q ((joined_holds key a b q).1 (c, other)))

pub joined_within : (key : Key) (a b path : List Key) → IsWithin (joined_without key a b) path
    → IsWithin a (path ++ key ∷ []) × IsWithin b (path ++ key ∷ [])
joined_within key a b path within = (λ q c. within_one key a b path q within (inl c), λ q c. within_one key a b path q within (inr c))

-- 4. The first key, of lists that are seen as a first key and a rest.

pub tail_rises : (s : List Key) (x : Key) (xs : List Key) → s ≡ x ∷ xs → IsRising s → IsRising xs
tail_rises s x xs e rises = rest_rises x xs (subst IsRising e rises)

-- all of a list comes behind a key that comes before its first
all_behind : (k : Key) (s : List Key) (x : Key) (xs : List Key) → s ≡ x ∷ xs → IsRising s → key_cmp k x ≡ Less → AreBehind k s
all_behind k s x xs e rises less = subst (AreBehind k) (sym e) (less, behind_further k x xs less (behind_of x xs (subst IsRising e rises)))

pub less_first : (s t : List Key) (x y : Key) (xs ys : List Key) → s ≡ x ∷ xs → t ≡ y ∷ ys → IsRising t → key_cmp x y ≡ Less
    → joined s t ≡ x ∷ joined xs t
less_first s t x y xs ys e f rise less = ap (λ (ks : List Key). joined ks t) e ∙ first_ours x xs t (all_behind x t y ys f rise less)

pub greater_first : (s t : List Key) (x y : Key) (xs ys : List Key) → s ≡ x ∷ xs → t ≡ y ∷ ys → IsRising s → IsRising t → key_cmp x y ≡ Greater
    → joined s t ≡ y ∷ joined s ys
greater_first s t x y xs ys e f rises rise greater =
    ap (joined s) f ∙ first_theirs y s ys (all_behind y s x xs e rises (greater_back x y greater)) (behind_of y ys (subst IsRising f rise))

pub equal_first : (s t : List Key) (x y : Key) (xs ys : List Key) → s ≡ x ∷ xs → t ≡ y ∷ ys → IsRising t → key_cmp x y ≡ Equal → joined s t ≡ x ∷ joined xs ys
equal_first s t x y xs ys e f rise equal =
    ap (λ (ks : List Key). joined ks t) e ∙ ap (joined (x ∷ xs)) f ∙ first_both x y xs ys (tied_back key_total x y equal) (behind_of y ys (subst IsRising f rise))

pub only_theirs : (s t : List Key) (y : Key) (ys : List Key) → length s ≡ 0 → t ≡ y ∷ ys → IsRising t → joined s t ≡ y ∷ joined s ys
only_theirs [] t y ys none f rise =
    joined_none t rise ∙ f ∙ ap (λ (ks : List Key). y ∷ ks) (sym (joined_none ys (tail_rises t y ys f rise)))
only_theirs (x ∷ xs) t y ys none f rise = absurd (omega arith)

-- 5. What is left of two lists, with what was taken from them before it.

test_is : (a b : Key) → pointwise eqb a.0 b.0 ≡ is_eq (key_cmp b a)
test_is a b = texts_ties a.0 b.0 ∙ (eq_by_cmp_equiv key_total).symm a b

pub taken : (done rest : List Key) (key first : Key) (other : Bool) → other ≡ not (pointwise eqb first.0 key.0) → other ≡ true
    → (done ++ first ∷ []) ++ without key rest ≡ done ++ without key (first ∷ rest)
taken done rest key first other test is =
    let told : not (is_eq (key_cmp key first)) ≡ true = sym (ap not (test_is first key)) ∙ (sym test ∙ is) in
    append_assoc done (first ∷ []) (without key rest) ∙ ap (λ (b : Bool). done ++ cond b (first ∷ without key rest) (without key rest)) (sym told)

pub left_out : (done rest : List Key) (key first : Key) (other : Bool) → other ≡ not (pointwise eqb first.0 key.0) → other ≡ false
    → done ++ without key rest ≡ done ++ without key (first ∷ rest)
left_out done rest key first other test is =
    let told : not (is_eq (key_cmp key first)) ≡ false = sym (ap not (test_is first key)) ∙ (sym test ∙ is) in
    ap (λ (b : Bool). done ++ cond b (first ∷ without key rest) (without key rest)) (sym told)

pub all_taken : (done left whole : List Key) (key : Key) → done ++ without key left ≡ whole → left ≡ [] → done ≡ whole
all_taken done left whole key is none = sym (append-nil done) ∙ (ap (λ (ks : List Key). done ++ without key ks) (sym none) ∙ is)

-- what was taken is in it
pub never_empty : (done rest : List Key) (first : Key) → (done ++ first ∷ []) ++ rest ≡ [] → ⊥
never_empty [] rest first e = absurd (cc)
never_empty (x ∷ xs) rest first e = absurd (cc)
