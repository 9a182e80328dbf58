-- How what is joined changes by one entry more.
use Rattle.std.proofs.Common.{◌≡◌, ◌≢◌, ◌<◌, ◌≤◌, ◌++◌, ◌⊎◌, inl, inr, ℕ, zero, suc, List, [], ◌∷◌, length, get_or, map, set, Contains, arith, refl, sym, ◌∙◌, ap, subst}
use Rattle.std.specs.Prelude.{Some, slice_get}
use Rattle.std.specs.Option.{option_map}
use Rattle.std.proofs.lemmas.Bool.{cases_lt}
use Rattle.std.proofs.lemmas.List.{length-map, length-append, length-set}
use Rattle.std.proofs.lemmas.Option.{same_Some, slice_get_within, slice_get_read, slice_get-map}
use Rattle.std.proofs.lemmas.List.Elements.{Contains-append_left, Contains-push, Contains-push_cases}
use Rattle.list_laws.proofs.Standing.{contained, at_place, contains_map, get_kept, get_last, get_cases, apart_more}
use Rattle.board_core.specs.Board.{Board}
use Rattle.mate_facts.specs.declared.entry.MateEntry.{MateEntry}
use Rattle.mate_facts.specs.Entries.{AreApart, positions_of}
use Rattle.position_places.specs.declared.places.Places.{Places}
use Rattle.position_places.specs.Places.{ArePlacesOf, IsPlaceOrNext, IsWith}
use Rattle.dominance_places.specs.Found.{ComesBefore}
use Rattle.cert_text.specs.Certificate.{IsMateEntry}
use Rattle.cook_report.specs.Joined.{HaveMoreThan, IsFirstLeast}
use Rattle.cook_report.specs.Joining.{AreJoined, HasNoGreater}

-- 1. Lists in which one item is put in another's place

set_cases : {X : Type 0} (xs : List X) (k : ℕ) (y x : X) → Contains (set xs k y) x → Contains xs x ⊎ (y ≡ x)
set_cases [] k y x c = inl c
set_cases (z ∷ xs) zero y x (zero, inside, e) = inr e
set_cases (z ∷ xs) zero y x (suc j, inside, e) = inl (suc j, inside, e)
set_cases (z ∷ xs) (suc k) y x (zero, inside, e) = inl (zero, omega arith, e)
set_cases (z ∷ xs) (suc k) y x (suc j, inside, e) = elim (set_cases xs k y x (j, omega (arith, inside), e)) [
  | inl there ↦ inl (suc there.0, (let within = there.1 in omega (arith, within)), there.2)
  | inr same ↦ inr same
]

set_here : {X : Type 0} (xs : List X) (k : ℕ) (old y : X) → slice_get xs k ≡ Some old → Contains (set xs k y) y
set_here [] k old y at = absurd (cc)
set_here (z ∷ xs) zero old y at = (zero, omega arith, refl)
set_here (z ∷ xs) (suc k) old y at = let more = set_here xs k old y at in (suc more.0, (let inside = more.1 in omega (arith, inside)), more.2)

set_keeps : {X : Type 0} (xs : List X) (k : ℕ) (old y x : X) → slice_get xs k ≡ Some old → Contains xs x → Contains (set xs k y) x ⊎ (old ≡ x)
set_keeps [] k old y x at c = absurd (cc)
set_keeps (z ∷ xs) zero old y x at (zero, inside, e) = inr (sym (same_Some z old at) ∙ e)
set_keeps (z ∷ xs) zero old y x at (suc j, inside, e) = inl (suc j, inside, e)
set_keeps (z ∷ xs) (suc k) old y x at (zero, inside, e) = inl (zero, omega arith, e)
set_keeps (z ∷ xs) (suc k) old y x at (suc j, inside, e) = elim (set_keeps xs k old y x at (j, omega (arith, inside), e)) [
  | inl there ↦ inl (suc there.0, (let within = there.1 in omega (arith, within)), there.2)
  | inr same ↦ inr same
]

map-set : {X Y : Type 0} (f : X → Y) (xs : List X) (k : ℕ) (old y : X) → slice_get xs k ≡ Some old → f y ≡ f old → map f (set xs k y) ≡ map f xs
map-set f [] k old y at e = absurd (cc)
map-set f (z ∷ xs) zero old y at e = let same = e ∙ ap f (sym (same_Some z old at)) in λ i. same i ∷ map f xs
map-set f (z ∷ xs) (suc k) old y at e = let same = map-set f xs k old y at e in λ i. f z ∷ same i

-- 2. Positions of entries

abbrev position_of : MateEntry → Board
position_of entry = entry.at

as_many : (entries : List MateEntry) → length (positions_of entries) ≡ length entries
as_many entries = length-map entries position_of

positions_pushed : (entries : List MateEntry) (x : MateEntry) → positions_of (entries ++ x ∷ []) ≡ positions_of entries ++ x.at ∷ []
positions_pushed [] x = refl
positions_pushed (first ∷ entries) x = let more = positions_pushed entries x in λ i. first.at ∷ more i

stands : (entries : List MateEntry) (e : MateEntry) (c : Contains entries e) → slice_get (positions_of entries) c.0 ≡ Some e.at
stands entries e c = slice_get-map position_of entries c.0 ∙ ap (option_map position_of) (at_place entries e c)

-- entries of one position are one
one_entry : (entries : List MateEntry) → AreApart (positions_of entries) → (a b : MateEntry) → Contains entries a → Contains entries b → a.at ≡ b.at → a ≡ b
one_entry entries apart a b ca cb same =
    let place : ca.0 ≡ cb.0 = apart ca.0 cb.0 b.at (stands entries a ca ∙ ap Some same) (stands entries b cb) in
    same_Some a b (sym (at_place entries a ca) ∙ (ap (slice_get entries) place ∙ at_place entries b cb))

-- the place behind all others is that of a new position
pub new_at : (entries : List MateEntry) (q : Board) (place : ℕ) → IsPlaceOrNext (positions_of entries) q place → place ≡ length entries
    → ¬ Contains (positions_of entries) q
new_at entries q place (inl at) last = let inside = slice_get_within (positions_of entries) place q at in let many = as_many entries in absurd (omega (arith, inside, many, last))
new_at entries q place (inr new) last = new.0

old_there : (entries : List MateEntry) (q : Board) (place : ℕ) → IsPlaceOrNext (positions_of entries) q place → place ≢ length entries
    → slice_get (positions_of entries) place ≡ Some q
old_there entries q place (inl at) differs = at
old_there entries q place (inr new) differs = absurd (differs (new.1 ∙ as_many entries))

pub old_within : (entries : List MateEntry) (q : Board) (place : ℕ) → IsPlaceOrNext (positions_of entries) q place → place ≢ length entries
    → place < length entries
old_within entries q place at differs =
    let inside = slice_get_within (positions_of entries) place q (old_there entries q place at differs) in
    let many = as_many entries in
    omega (arith, inside, many)

-- the entry that is read at the place of a position that isn't new
pub old_entry : (entries : List MateEntry) (q : Board) (place : ℕ) (old : MateEntry) → IsPlaceOrNext (positions_of entries) q place → place ≢ length entries
    → old ≡ get_or entries place old → (slice_get entries place ≡ Some old) × (old.at ≡ q)
old_entry entries q place old at differs is =
    let here = slice_get_read entries (length entries) place old refl (old_within entries q place at differs) is in
    let mapped = slice_get-map position_of entries place ∙ ap (option_map position_of) here in
    (here, same_Some old.at q (sym mapped ∙ old_there entries q place at differs))

-- 3. Places

abbrev pub Adds : Places → Board → Places → Type 0
Adds old q new = (positions longer : List Board) → ArePlacesOf old positions → IsWith positions q longer → ArePlacesOf new longer

pub placed_new : (old new : Places) (entries longer : List MateEntry) (x : MateEntry) (place : ℕ) → ArePlacesOf old (positions_of entries) → Adds old x.at new
    → IsPlaceOrNext (positions_of entries) x.at place → place ≡ length entries → longer ≡ entries ++ x ∷ [] → ArePlacesOf new (positions_of longer)
placed_new old new entries longer x place known adds at last is =
    adds (positions_of entries) (positions_of longer) known (inr (new_at entries x.at place at last, ap positions_of is ∙ positions_pushed entries x))

pub placed_old : (old new : Places) (entries : List MateEntry) (q : Board) (place : ℕ) → ArePlacesOf old (positions_of entries) → Adds old q new
    → IsPlaceOrNext (positions_of entries) q place → place ≢ length entries → ArePlacesOf new (positions_of entries)
placed_old old new entries q place known adds at differs =
    adds (positions_of entries) (positions_of entries) known (inl (contained (positions_of entries) place q (old_there entries q place at differs), refl))

pub positions_set : (entries : List MateEntry) (place : ℕ) (old x : MateEntry) → slice_get entries place ≡ Some old → old.at ≡ x.at
    → positions_of (set entries place x) ≡ positions_of entries
positions_set entries place old x at same = map-set position_of entries place old x at (sym same)

-- 4. What is joined

-- one that comes before all others of its position still does, where it comes before the next
first_kept : (seen : List MateEntry) (e x : MateEntry) (f : IsFirstLeast seen e) → (x.at ≡ e.at → ComesBefore f.place e (length seen) x)
    → IsFirstLeast (seen ++ x ∷ []) e
first_kept seen e x f later = record {
  place = f.place;
  there = get_kept seen x f.place e f.there;
  first = λ j other at same. elim (get_cases seen x j other at) [
    | inl old ↦ f.first j other old same
    | inr last ↦
        subst (λ (o : MateEntry). ComesBefore f.place e j o) last.1
        (subst (λ (n : ℕ). ComesBefore f.place e n x) (sym last.0) (later (ap position_of last.1 ∙ same)))
  ];
}

-- the next comes before all others of its position, where its rank is less than each of theirs
first_last : (seen : List MateEntry) (x : MateEntry) → ((other : MateEntry) → Contains seen other → other.at ≡ x.at → x.rank.number < other.rank.number)
    → IsFirstLeast (seen ++ x ∷ []) x
first_last seen x lower = record {
  place = length seen;
  there = get_last seen x;
  first = λ j other at same. elim (get_cases seen x j other at) [
    | inl old ↦ inl (lower other (contained seen j other old) same)
    | inr last ↦ inr (ap (λ (e : MateEntry). e.rank.number) last.1, (let e = last.0 in omega (arith, e)))
  ];
}

all_fits : (p : Board) (seen : List MateEntry) (x : MateEntry) → ((e : MateEntry) → Contains seen e → IsMateEntry p e) → IsMateEntry p x
    → (e : MateEntry) → Contains (seen ++ x ∷ []) e → IsMateEntry p e
all_fits p seen x fits fit e c = elim (Contains-push_cases seen x e c) [
  | inl before ↦ fits e before
  | inr same ↦ subst (IsMateEntry p) same fit
]

module _ (p : Board) (limit : ℕ) (seen entries : List MateEntry) (x : MateEntry) (joined : AreJoined p limit seen entries) where
  -- the entry's position is new, and it stands behind the others
  module _ (new : ¬ Contains (positions_of entries) x.at) where
    not_seen : (other : MateEntry) → Contains seen other → ¬ (other.at ≡ x.at)
    not_seen other c same =
        let g = joined.all other c in
        new (subst (Contains (positions_of entries)) (g.same ∙ same) (contains_map position_of entries g.other g.listed))

    pushed_right : (e : MateEntry) → Contains (entries ++ x ∷ []) e → IsFirstLeast (seen ++ x ∷ []) e
    pushed_right e c = elim (Contains-push_cases entries x e c) [
      | inl before ↦
          first_kept seen e x (joined.right e before)
          (λ same. absurd (new (subst (Contains (positions_of entries)) (sym same) (contains_map position_of entries e before))))
      | inr same ↦
          subst (IsFirstLeast (seen ++ x ∷ [])) same (first_last seen x (λ other there about. absurd (not_seen other there about)))
    ]

    pushed_all : (e : MateEntry) → Contains (seen ++ x ∷ []) e → HasNoGreater (entries ++ x ∷ []) e
    pushed_all e c = elim (Contains-push_cases seen x e c) [
      | inl before ↦
          let g = joined.all e before in
          record { other = g.other; listed = Contains-append_left entries (x ∷ []) g.other g.listed; same = g.same; no_greater = g.no_greater }
      | inr same ↦
          record {
            other = x;
            listed = Contains-push entries x;
            same = ap position_of same;
            no_greater = (let r = ap (λ (y : MateEntry). y.rank.number) same in omega (arith, r));
          }
    ]

    pub joined_new : (longer : List MateEntry) → longer ≡ entries ++ x ∷ [] → length entries < limit → IsMateEntry p x → AreJoined p limit (seen ++ x ∷ []) longer
    joined_new longer is room fit =
        subst (AreJoined p limit (seen ++ x ∷ [])) (sym is)
        (record {
          few = (let long = length-append entries (x ∷ []) in omega (arith, long, room));
          right = pushed_right;
          all = pushed_all;
          fits = all_fits p seen x joined.fits fit;
        })

    -- there is no room for it
    pub too_many : AreApart (positions_of entries) → limit ≤ length entries → HaveMoreThan limit (seen ++ x ∷ [])
    too_many apart full = record {
      positions = positions_of entries ++ x.at ∷ [];
      apart = apart_more (positions_of entries) x.at apart new;
      more = (let long = length-append (positions_of entries) (x.at ∷ []) in let many = as_many entries in omega (arith, long, many, full));
      listed = λ b c. subst (λ (bs : List Board). Contains bs b) (sym (positions_pushed seen x)) (elim (Contains-push_cases (positions_of entries) x.at b c) [
        | inl before ↦ Contains-append_left (positions_of seen) (x.at ∷ []) b (is_seen b before)
        | inr same ↦ subst (Contains (positions_of seen ++ x.at ∷ [])) same (Contains-push (positions_of seen) x.at)
      ]);
    }
      where
        entry_at : (es : List MateEntry) (k : ℕ) (b : Board) → slice_get (positions_of es) k ≡ Some b → (e : MateEntry) × Contains es e × (e.at ≡ b)
        entry_at [] k b at = absurd (cc)
        entry_at (e ∷ es) zero b at = (e, (zero, omega arith, refl), same_Some e.at b at)
        entry_at (e ∷ es) (suc k) b at =
            let more = entry_at es k b at in
            (more.0, (suc more.1.0, (let inside = more.1.1 in omega (arith, inside)), more.1.2), more.2)

        is_seen : (b : Board) → Contains (positions_of entries) b → Contains (positions_of seen) b
        is_seen b c =
            let found = entry_at entries c.0 b (at_place (positions_of entries) b c) in
            let f = joined.right found.0 found.1 in
            subst (Contains (positions_of seen)) found.2 (contains_map position_of seen found.0 (contained seen f.place found.0 f.there))

  -- an entry of its position stands among the others
  module _ (apart : AreApart (positions_of entries)) (place : ℕ) (old : MateEntry) (at : slice_get entries place ≡ Some old) (about : old.at ≡ x.at) where
    old_is : (e : MateEntry) → Contains entries e → e.at ≡ x.at → e ≡ old
    old_is e c same = one_entry entries apart e old c (contained entries place old at) (same ∙ sym about)

    -- its rank is no greater: the entry changes nothing
    met_right : old.rank.number ≤ x.rank.number → (e : MateEntry) → Contains entries e → IsFirstLeast (seen ++ x ∷ []) e
    met_right low e c =
        let f = joined.right e c in
        first_kept seen e x f
        (λ same.
        let rank = ap (λ (y : MateEntry). y.rank.number) (old_is e c (sym same)) in
        let inside = slice_get_within seen f.place e f.there in
        elim (cases_lt e.rank.number x.rank.number) [
          | inl less ↦ inl less
          | inr more ↦ inr (omega (arith, rank, low, more), omega (arith, inside))
        ])

    met_all : old.rank.number ≤ x.rank.number → (e : MateEntry) → Contains (seen ++ x ∷ []) e → HasNoGreater entries e
    met_all low e c = elim (Contains-push_cases seen x e c) [
      | inl before ↦ joined.all e before
      | inr same ↦
          record {
            other = old;
            listed = contained entries place old at;
            same = about ∙ ap position_of same;
            no_greater = (let r = ap (λ (y : MateEntry). y.rank.number) same in omega (arith, r, low));
          }
    ]

    pub joined_met : old.rank.number ≤ x.rank.number → IsMateEntry p x → AreJoined p limit (seen ++ x ∷ []) entries
    joined_met low fit = record {
      few = joined.few;
      right = met_right low;
      all = met_all low;
      fits = all_fits p seen x joined.fits fit;
    }

    -- its rank is greater: the entry takes its place
    module _ (lower : x.rank.number < old.rank.number) where
      apart_still : AreApart (positions_of (set entries place x))
      apart_still = subst AreApart (sym (positions_set entries place old x at about)) apart

      set_first : IsFirstLeast (seen ++ x ∷ []) x
      set_first =
          first_last seen x
          (λ other c same.
          let g = joined.all other c in
          let rank = ap (λ (y : MateEntry). y.rank.number) (old_is g.other g.listed (g.same ∙ same)) in
          let less = g.no_greater in
          omega (arith, rank, less, lower))

      set_right : (e : MateEntry) → Contains (set entries place x) e → IsFirstLeast (seen ++ x ∷ []) e
      set_right e c = elim (set_cases entries place x e c) [
        | inl there ↦
            let f = joined.right e there in
            first_kept seen e x f
            (λ same.
            let one : x ≡ e = one_entry (set entries place x) apart_still x e (set_here entries place old x at) c same in
            let inside = slice_get_within seen f.place e f.there in
            inr (ap (λ (y : MateEntry). y.rank.number) (sym one), omega (arith, inside)))
        | inr same ↦ subst (IsFirstLeast (seen ++ x ∷ [])) same set_first
      ]

      set_all : (e : MateEntry) → Contains (seen ++ x ∷ []) e → HasNoGreater (set entries place x) e
      set_all e c = elim (Contains-push_cases seen x e c) [
        | inl before ↦
            let g = joined.all e before in
            elim (set_keeps entries place old x g.other at g.listed) [
              | inl there ↦ record { other = g.other; listed = there; same = g.same; no_greater = g.no_greater }
              | inr was ↦
                  record {
                    other = x;
                    listed = set_here entries place old x at;
                    same = sym about ∙ (ap position_of was ∙ g.same);
                    no_greater = (let rank = ap (λ (y : MateEntry). y.rank.number) was in let less = g.no_greater in omega (arith, rank, less, lower));
                  }
            ]
        | inr same ↦
            record {
              other = x;
              listed = set_here entries place old x at;
              same = ap position_of same;
              no_greater = (let r = ap (λ (y : MateEntry). y.rank.number) same in omega (arith, r));
            }
      ]

      pub joined_lower : IsMateEntry p x → AreJoined p limit (seen ++ x ∷ []) (set entries place x)
      joined_lower fit = record {
        few = (let long = length-set entries place x in let few = joined.few in omega (arith, long, few));
        right = set_right;
        all = set_all;
        fits = all_fits p seen x joined.fits fit;
      }
