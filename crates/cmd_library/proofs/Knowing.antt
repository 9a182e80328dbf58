-- What the notes of a library are, and which problems they reach.
use Rattle.std.proofs.Common.{◌≡◌, ◌∙◌, ◌⊎◌, inl, inr, Bool, true, false, ℕ, zero, suc, List, [], ◌∷◌, ◌++◌, All, Contains, ap, refl, subst, sym, arith, if◌then◌else◌}
use Rattle.std.specs.Prelude.{IsSomeAnd, Option, filter, nat_lt}
use Rattle.std.specs.List.{flat_map}
use Rattle.std.proofs.lemmas.Bool.{lt-ltb}
use Rattle.std.proofs.lemmas.List.Elements.{All-append, All-map, All-nil, Contains-append_left, Contains-append_right}
use Rattle.bit_boards.specs.declared.piece.Side.{Side}
use Rattle.bit_boards.specs.Kind.{same_side}
use Rattle.board_laws.proofs.Sides.{same_side_is, same_side_itself}
use Rattle.list_laws.proofs.Standing.{at_place, contains_map}
use Rattle.board_core.specs.Board.{Board}
use Rattle.mate_facts.specs.declared.entry.MateEntry.{MateEntry}
use Rattle.cert_text.specs.declared.certificate.Certificate.{Certificate}
use Rattle.cert_text.specs.declared.certificate.Certificate.TheVariants.{Mate, Escape}
use Rattle.cert_text.specs.Kinds.{problem_of}
use Rattle.cert_extract.specs.Known.{leaves_of}
use Rattle.notes.specs.Derivation.{Derivation, escape_leaf, mate_leaf, position_of}
use Rattle.notes.specs.Sets.{low_entries, ranked, unranked}
use Rattle.unit_desk.specs.Known.{IsKnown, Reaches, ReachesAt}
use Rattle.cmd_library.specs.Notes.{IsKnownBy, Lists, leaves_for, notes_of}

-- 1. THE NOTES MAY BE KNOWN.

-- a leaf of a certificate holds on every path, and is for its problem's attacker
leaves_known : (c : Certificate) → All (IsKnown (problem_of c).side) (leaves_of c)
leaves_known (Mate c) =
    All-map (IsKnown c.problem.side) (λ (entry : MateEntry). mate_leaf c.version c.problem.side (ranked c.entries) entry.at entry.rank.number)
    (low_entries c.entries) (λ k d inside. record { closed = refl; same_attacker = refl })
leaves_known (Escape c) =
    All-map (IsKnown c.problem.side) (escape_leaf c.version c.problem.side (unranked c.entries)) c.entries
    (λ k d inside. record { closed = refl; same_attacker = refl })

of_side : (side : Side) (c : Certificate) (its : Bool) → same_side (problem_of c).side side ≡ its
    → All (IsKnown side) (if its then leaves_of c else [])
of_side side c true e = subst (λ (s : Side). All (IsKnown s) (leaves_of c)) (same_side_is (problem_of c).side side e) (leaves_known c)
of_side side c false e = All-nil (IsKnown side)

pub notes_known : (side : Side) (certificates : List Certificate) → All (IsKnown side) (notes_of side certificates)
notes_known side [] = All-nil (IsKnown side)
notes_known side (c ∷ certificates) =
    All-append (IsKnown side) (leaves_for side c) (notes_of side certificates)
    (of_side side c (same_side (problem_of c).side side) refl) (notes_known side certificates)

-- 2. WHAT IS LISTED IS REACHED.

-- what a list with one more in front contains
first_or : {X : Type 0} (y x : X) (xs : List X) → Contains (y ∷ xs) x → (y ≡ x) ⊎ Contains xs x
first_or y x xs (zero, inside, e) = inl e
first_or y x xs (suc k, inside, e) = inr (k, omega (arith, inside), e)

behind_first : {X : Type 0} (y x : X) (xs : List X) → Contains xs x → Contains (y ∷ xs) x
behind_first y x xs c = let inside = c.1 in (suc c.0, omega (arith, inside), c.2)

-- what passes the test is left
passing : {X : Type 0} (test : X → Bool) (xs : List X) (x : X) → Contains xs x → test x ≡ true → Contains (filter test xs) x
passing test [] x c t = absurd (let inside = c.1 in omega (arith, inside))
passing {X} test (y ∷ xs) x c t = by (test y) refl (λ more. passing test xs x more t)
  where
    by : (b : Bool) → test y ≡ b → (Contains xs x → Contains (filter test xs) x) → Contains (if b then y ∷ filter test xs else filter test xs) x
    by true e rest = elim (first_or y x xs c) as (λ _. Contains (y ∷ filter test xs) x) [
      | inl same ↦ (zero, omega arith, same)
      | inr more ↦ behind_first y x (filter test xs) (rest more)
    ]
    by false e rest = elim (first_or y x xs c) as (λ _. Contains (filter test xs) x) [
      | inl same ↦ absurd (let yes : test y ≡ true = ap test same ∙ t in cc)
      | inr more ↦ rest more
    ]

-- what one gives is among what all give
among_all : {X A : Type 0} (f : X → List A) (xs : List X) (x : X) (a : A) → Contains xs x → Contains (f x) a → Contains (flat_map f xs) a
among_all f [] x a c own = absurd (let inside = c.1 in omega (arith, inside))
among_all {X} {A} f (y ∷ xs) x a c own = elim (first_or y x xs c) as (λ _. Contains (f y ++ flat_map f xs) a) [
  | inl same ↦ Contains-append_left (f y) (flat_map f xs) a (subst (λ (z : X). Contains (f z) a) (sym same) own)
  | inr more ↦ Contains-append_right (f y) (flat_map f xs) a (among_all f xs x a more own)
]

-- a position that a certificate lists has a leaf
leaf_of : (c : Certificate) (b : Board) → Lists c b → (note : Derivation) × Contains (leaves_of c) note × (position_of note ≡ b)
leaf_of (Mate c) b lists =
    let entry = lists.2.entry in
    let leaf = λ (e : MateEntry). mate_leaf c.version c.problem.side (ranked c.entries) e.at e.rank.number in
    let low = lt-ltb entry.rank.number 2049 (let few = lists.1 in let is = lists.2.has_rank in omega (arith, few, is)) in (
      leaf entry,
      contains_map leaf (low_entries c.entries) entry (passing (λ (e : MateEntry). nat_lt e.rank.number 2049) c.entries entry lists.2.listed low),
      lists.2.same,
    )
leaf_of (Escape c) b lists = (
  escape_leaf c.version c.problem.side (unranked c.entries) b,
  contains_map (escape_leaf c.version c.problem.side (unranked c.entries)) c.entries b lists,
  refl,
)

-- it is one of the notes for a problem with the side to move
own_leaves : (side : Side) (c : Certificate) (note : Derivation) → (problem_of c).side ≡ side → Contains (leaves_of c) note → Contains (leaves_for side c) note
own_leaves side c note turn own =
    let same : same_side (problem_of c).side side ≡ true = subst (λ (s : Side). same_side (problem_of c).side s ≡ true) turn (same_side_itself (problem_of c).side) in
    subst (λ (its : Bool). Contains (if its then leaves_of c else []) note) (sym same) own

reaches_at : (b : Board) (notes : List Derivation) (note : Derivation) → Contains notes note → position_of note ≡ b → (place : ℕ) × ReachesAt b notes place
reaches_at b notes note c is =
    (c.0, subst (λ (o : Option Derivation). IsSomeAnd o (Reaches b)) (sym (at_place notes note c)) (inl is))

-- a problem that the library knows is reached by one of its notes
pub reached : (certificates : List Certificate) (b : Board) → IsKnownBy certificates b → (place : ℕ) × ReachesAt b (notes_of b.side certificates) place
reached certificates b known = elim known as (λ _. (place : ℕ) × ReachesAt b (notes_of b.side certificates) place) [
  | inl listed ↦
      let leaf = leaf_of listed.certificate b listed.lists in
      reaches_at b (notes_of b.side certificates) leaf.0
      (among_all (leaves_for b.side) certificates listed.certificate leaf.0 listed.among (own_leaves b.side listed.certificate leaf.0 listed.turn leaf.1)) leaf.2
  | inr reach ↦ reach
]

-- 3. THE NOTES ARE PUT TOGETHER.

-- a certificate's notes, where its problem has the side to move, and where it has not
pub own_notes : (side : Side) (c : Certificate) → (problem_of c).side ≡ side → leaves_of c ≡ leaves_for side c
own_notes side c turn =
    let same : same_side (problem_of c).side side ≡ true = subst (λ (s : Side). same_side (problem_of c).side s ≡ true) turn (same_side_itself (problem_of c).side) in
    sym (ap (λ (its : Bool). if its then leaves_of c else []) same)

pub no_notes : (side : Side) (c : Certificate) → ((problem_of c).side ≡ side → ⊥) → leaves_for side c ≡ []
no_notes side c turn = by (same_side (problem_of c).side side) refl
  where
    by : (its : Bool) → same_side (problem_of c).side side ≡ its → (if its then leaves_of c else []) ≡ []
    by true e = absurd (turn (same_side_is (problem_of c).side side e))
    by false e = refl
