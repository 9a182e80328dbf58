-- How what is listed of a leaf grows, one entry or position after the other.
use Rattle.std.proofs.Common.{◌≡◌, ◌≤◌, ◌+◌, ◌++◌, ◌⊎◌, inl, inr, ℕ, List, [], ◌∷◌, Bool, true, false, length, take, Contains, arith, refl, sym, ◌∙◌, ap, subst}
use Rattle.std.specs.Prelude.{IsTrue, Some, Result, Ok, Err, IsErr, IfOk, IfErr, slice_get}
use Rattle.std.specs.Result.{IsErrAnd}
use Rattle.std.proofs.lemmas.List.{take_more}
use Rattle.std.proofs.lemmas.Option.{slice_get_within, get_or_from_slice_get}
use Rattle.std.proofs.lemmas.List.Elements.{Contains-append_left, Contains-push, Contains-push_cases}
use Rattle.board_core.specs.Board.{Board}
use Rattle.list_laws.proofs.Standing.{contained}
use Rattle.mate_facts.specs.declared.entry.MateEntry.{MateEntry}
use Rattle.mate_facts.specs.Entries.{positions_of}
use Rattle.position_places.specs.declared.places.Places.{Places}
use Rattle.position_places.specs.Places.{ArePlacesOf}
use Rattle.cert_extract.specs.Listing.{AreOfLeaf, AreOfSet, HasListedIf, HasListedLeaf, HasPutAll, HasPutIf, IsEndAt, IsEndInLeaf, IsEndInSet, IsFullInSet, IsLowerThanListed, IsWanted, StandsBelow}
use Rattle.cert_extract.specs.declared.ends.ExtractEnd.{ExtractEnd}
use Rattle.cert_extract.specs.declared.ends.ExtractEnd.TheVariants.{TooMany, NoMemory}

-- what is true of an end is true of the result that has it
pub ended : {X : Type 0} (P : ExtractEnd → Type 0) (result : Result X ExtractEnd) (end : ExtractEnd) → IsErr result × IsErrAnd result (λ found. found ≡ end)
    → P end → IfErr result P
ended P (Ok value) end is h = tt
ended P (Err found) end is h = subst P (sym is.1) h

-- one more of the first ones
pub first_more : {X : Type 0} (xs : List X) (k : ℕ) (x : X) → slice_get xs k ≡ Some x → take (k + 1) xs ≡ take k xs ++ x ∷ []
first_more {X} xs k x at =
    take_more xs k x (slice_get_within xs k x at) ∙ ap (λ (z : X). take k xs ++ z ∷ []) (get_or_from_slice_get xs k x x at)

take_cases : {X : Type 0} (xs : List X) (k : ℕ) (x y : X) → slice_get xs k ≡ Some x → Contains (take (k + 1) xs) y → Contains (take k xs) y ⊎ (x ≡ y)
take_cases {X} xs k x y at c = Contains-push_cases (take k xs) x y (subst (λ (zs : List X). Contains zs y) (first_more xs k x at) c)

-- 1. Mates

-- of the first so many entries of a leaf's set, those that it wants are listed
pub record IsListingLeaf (set : List MateEntry) (position : Board) (rank most : ℕ) (old : List MateEntry) (k : ℕ) (found : Places) (entries : List MateEntry)
    : Type 0 where
  pub places : ArePlacesOf found (positions_of entries)
  pub few : length entries ≤ most
  pub lower : IsLowerThanListed old position rank
  pub grown : AreOfLeaf set position rank old entries
  pub all : (entry : MateEntry) → Contains (take k set) entry → IsWanted set position rank entry → StandsBelow entries entry.at entry.rank.number

module _ (set : List MateEntry) (position : Board) (rank most : ℕ) (old : List MateEntry) where
  pub leaf_begun : (places : Places) → ArePlacesOf places (positions_of old) → length old ≤ most → IsLowerThanListed old position rank
      → IsListingLeaf set position rank most old 0 places old
  leaf_begun places are few lower = record {
    places = are;
    few = few;
    lower = lower;
    grown = record { stay = λ b r below. below; of = λ other c. inl c };
    all = λ entry c wanted. absurd (let inside = c.1 in omega (arith, inside));
  }

  module _ (k : ℕ) (places new_places : Places) (entries new : List MateEntry) (entry : MateEntry) (at : slice_get set k ≡ Some entry)
      (so_far : IsListingLeaf set position rank most old k places entries) where
    -- the next isn't wanted
    pub leaf_skipped : (IsWanted set position rank entry → ⊥) → IsListingLeaf set position rank most old (k + 1) places entries
    leaf_skipped not_wanted = record {
      places = so_far.places;
      few = so_far.few;
      lower = so_far.lower;
      grown = so_far.grown;
      all = λ other c wanted. elim (take_cases set k entry other at c) [
        | inl before ↦ so_far.all other before wanted
        | inr same ↦ absurd (not_wanted (subst (IsWanted set position rank) (sym same) wanted))
      ];
    }

    -- the next is listed
    pub leaf_grown : (is_new : Bool) → IsWanted set position rank entry → ArePlacesOf new_places (positions_of new) → length new ≤ most
        → HasListedIf is_new entries entry new → IsListingLeaf set position rank most old (k + 1) new_places new
    leaf_grown true wanted are few has = record {
      places = are;
      few = few;
      lower = so_far.lower;
      grown = record {
        stay = λ b r below. has.stay b r (so_far.grown.stay b r below);
        of = λ other c. elim (has.of other c) [
          | inl before ↦ so_far.grown.of other before
          | inr same ↦ inr (subst (IsWanted set position rank) same wanted)
        ];
      };
      all = λ other c its. elim (take_cases set k entry other at c) [
        | inl before ↦ has.stay other.at other.rank.number (so_far.all other before its)
        | inr same ↦
            subst (λ (e : MateEntry). StandsBelow new e.at e.rank.number) same
            (record { entry = entry; listed = has.there; same = refl; low = omega arith })
      ];
    }
    leaf_grown false wanted are few has = record {
      places = are;
      few = few;
      lower = so_far.lower;
      grown = subst (AreOfLeaf set position rank old) (sym has.1) so_far.grown;
      all = λ other c its.
          subst (λ (es : List MateEntry). StandsBelow es other.at other.rank.number) (sym has.1) (elim (take_cases set k entry other at c) [
            | inl before ↦ so_far.all other before its
            | inr same ↦ subst (λ (e : MateEntry). StandsBelow entries e.at e.rank.number) same has.0
          ]);
    }

    -- the next is one too many
    pub leaf_end : (end : ExtractEnd) → IsWanted set position rank entry → IsEndAt most (positions_of entries) entry.at end
        → IsEndInLeaf most set position rank old end
    leaf_end TooMany wanted full = record { lower = so_far.lower; new = entries; grown = so_far.grown; entry = entry; wanted = wanted; full = full }
    leaf_end NoMemory wanted full = tt

  pub leaf_listed : (k : ℕ) (places : Places) (entries : List MateEntry) → take k set ≡ set → IsListingLeaf set position rank most old k places entries
      → HasListedLeaf set position rank old entries
  leaf_listed k places entries whole so_far = record {
    lower = so_far.lower;
    grown = so_far.grown;
    all = λ entry wanted. so_far.all entry (subst (λ (es : List MateEntry). Contains es entry) (sym whole) wanted.inside) wanted;
  }

-- 2. Escapes

-- the first so many of these positions are listed
pub record IsListingSet (set : List Board) (most : ℕ) (old : List Board) (k : ℕ) (found : Places) (positions : List Board) : Type 0 where
  pub places : ArePlacesOf found positions
  pub few : length positions ≤ most
  pub grown : AreOfSet set old positions
  pub all : (b : Board) → Contains (take k set) b → Contains positions b

module _ (set : List Board) (most : ℕ) (old : List Board) where
  pub set_begun : (places : Places) → ArePlacesOf places old → length old ≤ most → IsListingSet set most old 0 places old
  set_begun places are few = record {
    places = are;
    few = few;
    grown = record { stay = λ b c. c; of = λ b c. inl c };
    all = λ b c. absurd (let inside = c.1 in omega (arith, inside));
  }

  module _ (k : ℕ) (places new_places : Places) (positions new : List Board) (next : Board) (at : slice_get set k ≡ Some next)
      (so_far : IsListingSet set most old k places positions) where
    pub set_grown : (is_new : Bool) → ArePlacesOf new_places new → length new ≤ most → HasPutIf is_new positions next new
        → IsListingSet set most old (k + 1) new_places new
    set_grown true are few has = record {
      places = are;
      few = few;
      grown = record {
        stay = λ b c. subst (λ (bs : List Board). Contains bs b) (sym has.1) (Contains-append_left positions (next ∷ []) b (so_far.grown.stay b c));
        of = λ b c. elim (Contains-push_cases positions next b (subst (λ (bs : List Board). Contains bs b) has.1 c)) [
          | inl before ↦ so_far.grown.of b before
          | inr same ↦ inr (subst (Contains set) same (contained set k next at))
        ];
      };
      all = λ b c. subst (λ (bs : List Board). Contains bs b) (sym has.1) (elim (take_cases set k next b at c) [
        | inl before ↦ Contains-append_left positions (next ∷ []) b (so_far.all b before)
        | inr same ↦ subst (Contains (positions ++ next ∷ [])) same (Contains-push positions next)
      ]);
    }
    set_grown false are few has = record {
      places = are;
      few = few;
      grown = subst (AreOfSet set old) (sym has.1) so_far.grown;
      all = λ b c. subst (λ (bs : List Board). Contains bs b) (sym has.1) (elim (take_cases set k next b at c) [
        | inl before ↦ so_far.all b before
        | inr same ↦ subst (Contains positions) same has.0
      ]);
    }

    pub set_end : (end : ExtractEnd) → IsEndAt most positions next end → IsEndInSet most set old end
    set_end TooMany full = record { new = positions; grown = so_far.grown; b = next; inside = contained set k next at; full = full }
    set_end NoMemory full = tt

  pub set_put : (k : ℕ) (places : Places) (positions : List Board) → take k set ≡ set → IsListingSet set most old k places positions
      → HasPutAll set old positions
  set_put k places positions whole so_far = record {
    grown = so_far.grown;
    all = λ b c. so_far.all b (subst (λ (bs : List Board). Contains bs b) (sym whole) c);
  }

  grown_behind : (b : Board) (mid new : List Board) → Contains set b → mid ≡ old ++ b ∷ [] → AreOfSet set mid new → AreOfSet set old new
  grown_behind b mid new inside is grown = record {
    stay = λ q c. grown.stay q (subst (λ (bs : List Board). Contains bs q) (sym is) (Contains-append_left old (b ∷ []) q c));
    of = λ q c. elim (grown.of q c) [
      | inl before ↦ elim (Contains-push_cases old b q (subst (λ (bs : List Board). Contains bs q) is before)) [
        | inl first ↦ inl first
        | inr same ↦ inr (subst (Contains set) same inside)
      ]
      | inr there ↦ inr there
    ];
  }

  -- what is listed behind the position is so before it
  pub put_behind : (b : Board) (mid new : List Board) → Contains set b → mid ≡ old ++ b ∷ [] → HasPutAll set mid new → HasPutAll set old new
  put_behind b mid new inside is has = record { grown = grown_behind b mid new inside is has.grown; all = has.all }

  pub full_behind : (b : Board) (mid : List Board) → Contains set b → mid ≡ old ++ b ∷ [] → IsFullInSet most set mid → IsFullInSet most set old
  full_behind b mid inside is full =
      record { new = full.new; grown = grown_behind b mid full.new inside is full.grown; b = full.b; inside = full.inside; full = full.full }

-- 3. Whether one was new

pub put_new : (is_new : Bool) (old new : List Board) (b : Board) → IsTrue is_new → HasPutIf is_new old b new → HasPutIf true old b new
put_new true old new b new_is has = has
put_new false old new b new_is has = absurd (cc)

pub put_old : (is_new : Bool) (old new : List Board) (b : Board) → is_new ≡ false → HasPutIf is_new old b new → HasPutIf false old b new
put_old true old new b isnt has = absurd (cc)
put_old false old new b isnt has = has

pub entry_new : (is_new : Bool) (old new : List MateEntry) (entry : MateEntry) → IsTrue is_new → HasListedIf is_new old entry new → HasListedIf true old entry new
entry_new true old new entry new_is has = has
entry_new false old new entry new_is has = absurd (cc)

pub entry_old : (is_new : Bool) (old new : List MateEntry) (entry : MateEntry) → is_new ≡ false → HasListedIf is_new old entry new
    → HasListedIf false old entry new
entry_old true old new entry isnt has = absurd (cc)
entry_old false old new entry isnt has = has

pub isnt : (b : Bool) → b ≡ false → IsTrue b → ⊥
isnt true is its = absurd (cc)
isnt false is its = absurd (cc)

-- an end is no list
pub none_ok : {X : Type 0} (P : X → Type 0) (result : Result X ExtractEnd) → IsErr result → IfOk result P
none_ok P (Ok value) is = absurd (cc)
none_ok P (Err found) is = tt
