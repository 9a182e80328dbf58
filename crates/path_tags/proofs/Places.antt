-- Where keys stand first on a path.
use Rattle.std.proofs.Common.{eqb, eqb-true, eq-eqb, ◌≡◌, ◌≢◌, ◌<◌, ℕ, suc, List, [], ◌∷◌, ◌++◌, inl, inr, Bool, true, false, cond, length, Contains, arith, ap, sym, refl, subst, ◌∙◌}
use Rattle.std.specs.Prelude.{Option, Some, None, is_some}
use Rattle.std.specs.Option.{option_map, unwrap_or, option_eq}
use Rattle.std.proofs.lemmas.Cmp.{eq_by_cmp_equiv}
use Rattle.std.specs.BTreeMap.{BTreeMap, get, is_at, Updates}
use Rattle.board_core.specs.declared.keys.Key.{Key}
use Rattle.board_core.specs.KeyOrder.{key_cmp}
use Rattle.path_tags.specs.Path.{first_place, IsIndex}
use Rattle.board_laws.proofs.Keys.{key_total, same_from_test, test_from_same}
use Rattle.path_tags.proofs.Members.{contains_head, contains_tail, contains_none, contains_cases}

-- a key that stands on the path keeps its first place behind a push; a new one stands first where
-- it was pushed
abbrev pub place_after : Option ℕ → Bool → ℕ → Option ℕ
place_after (Some place) same next = Some place
place_after None true next = Some next
place_after None false next = None

further : (o : Option ℕ) (same : Bool) (next : ℕ) → option_map suc (place_after o same next) ≡ place_after (option_map suc o) same (suc next)
further (Some place) same next = refl
further None true next = refl
further None false next = refl

pub place_pushed : (path : List Key) (key q : Key) → first_place (path ++ key ∷ []) q ≡ place_after (first_place path q) (is_at (key_cmp q) key) (length path)
place_pushed [] key q = by_test (is_at (key_cmp q) key)
  where
    by_test : (b : Bool) → cond b (Some 0) (option_map suc None) ≡ place_after None b 0
    by_test true = refl
    by_test false = refl
place_pushed (x ∷ xs) key q = by_test (is_at (key_cmp q) x) (place_pushed xs key q)
  where
    by_test : (b : Bool) → first_place (xs ++ key ∷ []) q ≡ place_after (first_place xs q) (is_at (key_cmp q) key) (length xs)
        → cond b (Some 0) (option_map suc (first_place (xs ++ key ∷ []) q)) ≡ place_after (cond b (Some 0) (option_map suc (first_place xs q))) (is_at (key_cmp q) key) (suc (length xs))
    by_test true rest = refl
    by_test false rest = ap (option_map suc) rest ∙ further (first_place xs q) (is_at (key_cmp q) key) (length xs)

-- a first place lies on the path
some_suc : (o : Option ℕ) (place : ℕ) → option_map suc o ≡ Some place → (before : ℕ) × (o ≡ Some before) × (place ≡ suc before)
some_suc None place e = absurd (cc)
some_suc (Some before) place e = (before, refl, cc)

pub place_within : (path : List Key) (q : Key) (place : ℕ) → first_place path q ≡ Some place → place < length path
place_within [] q place e = absurd (cc)
place_within (x ∷ xs) q place e = by_test (is_at (key_cmp q) x) (place_within xs q) e
  where
    by_test : (b : Bool) → ((place : ℕ) → first_place xs q ≡ Some place → place < length xs)
        → cond b (Some 0) (option_map suc (first_place xs q)) ≡ Some place → place < suc (length xs)
    by_test true rest e = let zero : 0 ≡ place = cc in omega arith
    by_test false rest e =
        let before = some_suc (first_place xs q) place e in
        let below = rest before.0 before.1 in
        let more = before.2 in
        omega arith

-- a key has a first place exactly where it stands on the path
some_further : (o : Option ℕ) → is_some (option_map suc o) ≡ is_some o
some_further None = refl
some_further (Some place) = refl

pub place_held : (path : List Key) (q : Key) → Contains path q → is_some (first_place path q) ≡ true
place_held [] q c = absurd (contains_none q c)
place_held (x ∷ xs) q c = by_test (is_at (key_cmp q) x) refl (place_held xs q)
  where
    by_test : (b : Bool) → is_at (key_cmp q) x ≡ b → (Contains xs q → is_some (first_place xs q) ≡ true)
        → is_some (cond b (Some 0) (option_map suc (first_place xs q))) ≡ true
    by_test true h rest = refl
    by_test false h rest = elim (contains_cases x xs q c) [
      | inl same ↦ let t = test_from_same q x (sym same) in absurd (cc)
      | inr there ↦ some_further (first_place xs q) ∙ rest there
    ]

pub held_placed : (path : List Key) (q : Key) → is_some (first_place path q) ≡ true → Contains path q
held_placed [] q h = absurd (cc)
held_placed (x ∷ xs) q h = by_test (is_at (key_cmp q) x) refl (held_placed xs q) h
  where
    by_test : (b : Bool) → is_at (key_cmp q) x ≡ b → (is_some (first_place xs q) ≡ true → Contains xs q)
        → is_some (cond b (Some 0) (option_map suc (first_place xs q))) ≡ true → Contains (x ∷ xs) q
    by_test true h rest some = subst (λ (k : Key). Contains (x ∷ xs) k) (sym (same_from_test q x h)) (contains_head x xs)
    by_test false h rest some = contains_tail x xs q (rest (sym (some_further (first_place xs q)) ∙ some))

-- 1. The index after a push.

other_way : (a b : Key) (t : Bool) → is_at (key_cmp a) b ≡ t → is_at (key_cmp b) a ≡ t
other_way a b t h = (eq_by_cmp_equiv key_total).symm b a ∙ h

new_place : (o : Option ℕ) (next place : ℕ) → place ≡ unwrap_or o next → Some place ≡ place_after o true next
new_place None next place e = ap (λ (n : ℕ). Some n) e
new_place (Some old) next place e = ap (λ (n : ℕ). Some n) e

other_place : (o : Option ℕ) (next : ℕ) → place_after o false next ≡ o
other_place None next = refl
other_place (Some old) next = refl

-- the pushed key's place is the one that it had, or the one behind all others
pub pushed_index : (old new : BTreeMap Key ℕ) (path : List Key) (key : Key) (place : ℕ) → place ≡ unwrap_or (get key_cmp old key) (length path)
    → Updates key_cmp old new key (Some place) → IsIndex old path → IsIndex new (path ++ key ∷ [])
pushed_index old new path key place is updates index = record { tells = λ q. by_test q (is_at (key_cmp key) q) refl }
  where
    by_test : (q : Key) (t : Bool) → is_at (key_cmp key) q ≡ t → get key_cmp new q ≡ first_place (path ++ key ∷ []) q
    by_test q true h =
        let written = updates.0 q ∙ ap (λ (t : Bool). cond t (Some place) (get key_cmp old q)) h in
        let same = same_from_test key q h in
        let had = is ∙ ap (λ (o : Option ℕ). unwrap_or o (length path)) (index.tells key ∙ ap (first_place path) same) in
        let told = place_pushed path key q ∙ ap (λ (t : Bool). place_after (first_place path q) t (length path)) (other_way key q true h) in
        written ∙ (new_place (first_place path q) (length path) place had ∙ sym told)
    by_test q false h =
        let kept = updates.0 q ∙ ap (λ (t : Bool). cond t (Some place) (get key_cmp old q)) h in
        let told = place_pushed path key q ∙ ap (λ (t : Bool). place_after (first_place path q) t (length path)) (other_way key q false h) in
        kept ∙ (index.tells q ∙ sym (told ∙ other_place (first_place path q) (length path)))

-- 2. The index after a pop.

none_before : (o : Option ℕ) (next : ℕ) → ((place : ℕ) → o ≡ Some place → place < next) → place_after o true next ≡ Some next → o ≡ None
none_before None next within e = refl
none_before (Some place) next within e =
    let below = within place refl in
    let same : place ≡ next = cc in
    absurd (omega arith)

-- a key that stood first where it was popped stands on the path no more
pub popped_index : (old new : BTreeMap Key ℕ) (path : List Key) (key : Key) → IsIndex old (path ++ key ∷ []) → get key_cmp old key ≡ Some (length path)
    → Updates key_cmp old new key None → IsIndex new path
popped_index old new path key index last updates = record { tells = λ q. by_test q (is_at (key_cmp key) q) refl }
  where
    by_test : (q : Key) (t : Bool) → is_at (key_cmp key) q ≡ t → get key_cmp new q ≡ first_place path q
    by_test q true h =
        let gone = updates.0 q ∙ ap (λ (t : Bool). cond t None (get key_cmp old q)) h in
        let told = place_pushed path key key ∙ ap (λ (t : Bool). place_after (first_place path key) t (length path)) (test_from_same key key refl) in
        let none = none_before (first_place path key) (length path) (place_within path key) (sym told ∙ (sym (index.tells key) ∙ last)) in
        gone ∙ (sym none ∙ ap (first_place path) (same_from_test key q h))
    by_test q false h =
        let kept = updates.0 q ∙ ap (λ (t : Bool). cond t None (get key_cmp old q)) h in
        let told = place_pushed path key q ∙ ap (λ (t : Bool). place_after (first_place path q) t (length path)) (other_way key q false h) in
        kept ∙ (index.tells q ∙ (told ∙ other_place (first_place path q) (length path)))

had_place : (o : Option ℕ) (next : ℕ) → place_after o true next ≢ Some next → place_after o true next ≡ o
had_place None next other = absurd (other refl)
had_place (Some place) next other = refl

-- a key that stood first elsewhere still stands there
pub still_index : (index : BTreeMap Key ℕ) (path : List Key) (key : Key) → IsIndex index (path ++ key ∷ []) → get key_cmp index key ≢ Some (length path)
    → IsIndex index path
still_index index path key told other = record { tells = λ q. by_test q (is_at (key_cmp q) key) refl }
  where
    by_test : (q : Key) (t : Bool) → is_at (key_cmp q) key ≡ t → get key_cmp index q ≡ first_place path q
    by_test q true h =
        let same = same_from_test q key h in
        let here = told.tells q ∙ place_pushed path key q ∙ ap (λ (t : Bool). place_after (first_place path q) t (length path)) h in
        here ∙ had_place (first_place path q) (length path) (λ e. other (ap (get key_cmp index) (sym same) ∙ (here ∙ e)))
    by_test q false h =
        told.tells q ∙ place_pushed path key q ∙ ap (λ (t : Bool). place_after (first_place path q) t (length path)) h ∙ other_place (first_place path q) (length path)

-- 3. What is found by a key, compared with a place.

pub told_place : (o found : Option ℕ) (n next : ℕ) → found ≡ o → next ≡ n → option_eq eqb found (Some next) ≡ true → o ≡ Some n
told_place o None n next e l h = absurd (cc)
told_place o (Some place) n next e l h = sym e ∙ ap (λ (k : ℕ). Some k) (eqb-true place next h ∙ l)

pub untold_place : (o found : Option ℕ) (n next : ℕ) → found ≡ o → next ≡ n → option_eq eqb found (Some next) ≡ false → o ≢ Some n
untold_place o found n next e l h = λ last.
    let same : found ≡ Some next = e ∙ (last ∙ ap (λ (k : ℕ). Some k) (sym l)) in
    let t : option_eq eqb found (Some next) ≡ true = ap (λ (f : Option ℕ). option_eq eqb f (Some next)) same ∙ eq-eqb next next refl in
    absurd (cc)
