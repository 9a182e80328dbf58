-- Notes gone through one after the other.
use Rattle.std.proofs.Common.{◌≡◌, ◌≢◌, ◌+◌, ◌⊎◌, inl, inr, ◌↔◌, ℕ, max, List, [], ◌∷◌, ◌++◌, take, Contains, arith, sym, ◌∙◌, ap, subst, refl}
use Rattle.std.specs.Prelude.{Some, slice_get}
use Rattle.std.proofs.lemmas.List.{take_more}
use Rattle.std.proofs.lemmas.Option.{slice_get_within, get_or_from_slice_get}
use Rattle.std.proofs.lemmas.List.Elements.{Contains-append_left, Contains-push, Contains-push_cases}
use Rattle.board_laws.proofs.Keys.{same_key}
use Rattle.board_core.specs.declared.keys.Key.{Key}
use Rattle.board_core.specs.Board.{Board}
use Rattle.board_core.specs.Key.{key_of}
use Rattle.hand_dominance.specs.declared.version.Version.{Version}
use Rattle.hand_dominance.specs.declared.version.Version.TheVariants.{One, Two}
use Rattle.notes.specs.Derivation.{Derivation, derivations, tag_of, height_of, highest, later, version_in, version_under}
use Rattle.notes.specs.Valid.{IsValid, AreValid, JoinsTags}

-- one more of the first ones
pub first_more : (notes : List Derivation) (k : ℕ) (note : Derivation) → slice_get notes k ≡ Some note → take (k + 1) notes ≡ take k notes ++ note ∷ []
first_more notes k note is =
    take_more notes k note (slice_get_within notes k note is) ∙ ap (λ (n : Derivation). take k notes ++ n ∷ []) (get_or_from_slice_get notes k note note is)

pub highest_more : (notes : List Derivation) (note : Derivation) → highest (notes ++ note ∷ []) ≡ max (highest notes) (height_of note)
highest_more [] note = omega arith
highest_more (first ∷ notes) note = let up = highest_more notes note in omega (arith, up)

none_later : (version : Version) → later version One ≡ later One version
none_later One = refl
none_later Two = refl

later_on : (one between two : Version) → later one (later between two) ≡ later (later one between) two
later_on One between two = refl
later_on Two between two = refl

pub version_more : (notes : List Derivation) (note : Derivation)
    → version_under (derivations (notes ++ note ∷ [])) ≡ later (version_under (derivations notes)) (version_in note)
version_more [] note = none_later (version_in note)
version_more (first ∷ notes) note =
    ap (later (version_in first)) (version_more notes note) ∙ later_on (version_in first) (version_under (derivations notes)) (version_in note)

pub valid_more : (notes : List Derivation) (note : Derivation) → AreValid (derivations notes) → IsValid note → AreValid (derivations (notes ++ note ∷ []))
valid_more [] note all one = (one, tt)
valid_more (first ∷ notes) note all one = (all.0, valid_more notes note all.1 one)

pub joins_none : (b : Board) → JoinsTags [] b []
joins_none b key = ((λ c. absurd (let inside = c.1 in omega (arith, inside))), (λ from. absurd (let inside = from.0.1.1 in omega (arith, inside))))

-- the tags joined of one note more
pub joins_more : (own : Key) (b : Board) (old new : List Key) (notes : List Derivation) (note : Derivation) → own.0 ≡ key_of b → JoinsTags old b notes
    → ((key : Key) → Contains new key ↔ ((Contains old key ⊎ Contains (tag_of note) key) × (key ≢ own))) → JoinsTags new b (notes ++ note ∷ [])
joins_more own b old new notes note is joined adds key = (
  (λ c.
      let from = (adds key).0 c in
      let apart : key.0 ≢ key_of b = λ e. from.1 (same_key key own (e ∙ sym is)) in
      elim from.0 [
        | inl before ↦ let was = (joined key).0 before in ((was.0.0, Contains-append_left notes (note ∷ []) was.0.0 was.0.1, was.0.2), apart)
        | inr now ↦ ((note, Contains-push notes note, now), apart)
      ]),
  (λ from. (adds key).1 (
    elim (Contains-push_cases notes note from.0.0 from.0.1) [
      | inl before ↦ inl ((joined key).1 ((from.0.0, before, from.0.2), from.1))
      | inr now ↦ inr (subst (λ (n : Derivation). Contains (tag_of n) key) (sym now) from.0.2)
    ],
    λ e. from.1 (ap (λ (k : Key). k.0) e ∙ is),
  )),
)
