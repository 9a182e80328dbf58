-- What the fields of a text are, by its parts.
use Rattle.std.proofs.Common.{◌≡◌, ◌≢◌, ◌⊎◌, inl, inr, ℕ, ◌+◌, ◌<◌, Bool, true, false, List, [], ◌∷◌, ◌++◌, length, length-append, drop, refl, sym, ap, ◌∙◌, arith}
use Rattle.std.specs.Prelude.{not}
use Rattle.std.specs.List.{filter, slice_split, onto_first, take_while, list_all}
use Rattle.std.proofs.lemmas.Bool.{and_parts}
use Rattle.std.proofs.lemmas.List.{append-nil}
use Rattle.std.proofs.Math.Seq.{drop-length}
use Rattle.std.proofs.lemmas.List.Splits.{slice_split-cons_yes, slice_split-cons_no}
use Rattle.std.proofs.lemmas.List.Elements.{filter-append}
use Rattle.std.proofs.lemmas.List.Sums.{take_while-cons}
use Rattle.sfen_text.specs.Bytes.{is_space}
use Rattle.usi_session.specs.Fields.{has_bytes, fields_of, bare, first_field, behind_field}
use Rattle.usi_session.specs.Reading.{AreSpaces, EndsField, IsCut}

-- Whether a byte is no space.
abbrev pub is_ink : ℕ → Bool
is_ink byte = not (is_space byte)

-- ---- the first part of a text

-- The parts of a text between its spaces: the first is what stands before the first space, and the
-- fields of what stands behind are those of the others.
pub record FirstPart (text : List ℕ) : Type 0 where
  pub parts : List (List ℕ)
  pub split : slice_split is_space text ≡ take_while is_ink text ∷ parts
  pub rest : filter has_bytes parts ≡ fields_of (drop (length (take_while is_ink text)) text)

part-space : (x : ℕ) (xs : List ℕ) → is_space x ≡ true → FirstPart (x ∷ xs)
unfolding fields_of
part-space x xs e =
    let none : take_while is_ink (x ∷ xs) ≡ [] = rw (take_while-cons is_ink x xs, e) refl in
    record {
      parts = slice_split is_space xs;
      split = slice_split-cons_yes is_space x xs e ∙ ap (λ (w : List ℕ). w ∷ slice_split is_space xs) (sym none);
      rest = rw (none, slice_split-cons_yes is_space x xs e) refl;
    }

part-ink : (x : ℕ) (xs : List ℕ) → is_space x ≡ false → FirstPart xs → FirstPart (x ∷ xs)
unfolding fields_of
part-ink x xs e later =
    let more : take_while is_ink (x ∷ xs) ≡ x ∷ take_while is_ink xs = rw (take_while-cons is_ink x xs, e) refl in
    record {
      parts = later.parts;
      split = slice_split-cons_no is_space x xs e ∙ ap (onto_first x) later.split ∙ ap (λ (w : List ℕ). w ∷ later.parts) (sym more);
      rest = rw more later.rest;
    }

pub first_part : (text : List ℕ) → FirstPart text
unfolding fields_of
first_part [] = record { parts = []; split = refl; rest = refl }
first_part (x ∷ xs) = by (first_part xs) (is_space x) refl where
  by : FirstPart xs → (b : Bool) → is_space x ≡ b → FirstPart (x ∷ xs)
  by later true e = part-space x xs e
  by later false e = part-ink x xs e later

-- ---- the fields of a text in parts

pub fields-space : (text : List ℕ) → fields_of (32 ∷ text) ≡ fields_of text
unfolding fields_of
fields-space text = refl

pub fields-spaces : (spaces text : List ℕ) → AreSpaces spaces → fields_of (spaces ++ text) ≡ fields_of text
unfolding fields_of
fields-spaces [] text all = refl
fields-spaces (x ∷ xs) text all =
    let both = and_parts (is_space x) (list_all is_space xs) all in
    rw (slice_split-cons_yes is_space x (xs ++ text) both.0) (fields-spaces xs text both.1)

onto-append : (x : ℕ) (first : List ℕ) (a b : List (List ℕ)) → onto_first x ((first ∷ a) ++ b) ≡ onto_first x (first ∷ a) ++ b
onto-append x first a b = refl

split-append : (a b : List ℕ) → slice_split is_space (a ++ 32 ∷ b) ≡ slice_split is_space a ++ slice_split is_space b
split-append [] b = refl
split-append (x ∷ xs) b = by (split-append xs b) (is_space x) refl where
  by : slice_split is_space (xs ++ 32 ∷ b) ≡ slice_split is_space xs ++ slice_split is_space b
      → (c : Bool) → is_space x ≡ c → slice_split is_space ((x ∷ xs) ++ 32 ∷ b) ≡ slice_split is_space (x ∷ xs) ++ slice_split is_space b
  by later true e = rw (slice_split-cons_yes is_space x (xs ++ 32 ∷ b) e, slice_split-cons_yes is_space x xs e, later) refl
  by later false e =
      let part = first_part xs in
      rw (slice_split-cons_no is_space x (xs ++ 32 ∷ b) e, slice_split-cons_no is_space x xs e, later, part.split) refl

-- A space lies between the fields of what is before and behind it.
pub fields-append_space : (a b : List ℕ) → fields_of (a ++ 32 ∷ b) ≡ fields_of a ++ fields_of b
unfolding fields_of
fields-append_space a b = ap (filter has_bytes) (split-append a b) ∙ filter-append has_bytes (slice_split is_space a) (slice_split is_space b)

-- Where what is behind ends a field, the fields are those of both.
pub fields-append_ended : (a b : List ℕ) → EndsField b → fields_of (a ++ b) ≡ fields_of a ++ fields_of b
unfolding fields_of
fields-append_ended a b (inl e) = rw (e, append-nil a, append-nil (fields_of a)) refl
fields-append_ended a b (inr (more, e)) = rw e (fields-append_space a more)

-- ---- what stands at the front

-- What passes a test at the front of a text, and what stands behind it.
pub record Front (p : ℕ → Bool) (text : List ℕ) : Type 0 where
  pub parts : text ≡ take_while p text ++ drop (length (take_while p text)) text
  pub all : list_all p (take_while p text) ≡ true
  pub stops : (drop (length (take_while p text)) text ≡ []) ⊎ ((x : ℕ) × (xs : List ℕ) × (drop (length (take_while p text)) text ≡ x ∷ xs) × (p x ≡ false))

front-no : (p : ℕ → Bool) (x : ℕ) (xs : List ℕ) → p x ≡ false → Front p (x ∷ xs)
front-no p x xs e =
    let none : take_while p (x ∷ xs) ≡ [] = rw (take_while-cons p x xs, e) refl in
    record { parts = rw none refl; all = rw none refl; stops = inr (x, xs, rw none refl, e) }

front-yes : (p : ℕ → Bool) (x : ℕ) (xs : List ℕ) → p x ≡ true → Front p xs → Front p (x ∷ xs)
front-yes p x xs e later =
    let more : take_while p (x ∷ xs) ≡ x ∷ take_while p xs = rw (take_while-cons p x xs, e) refl in
    record {
      parts = rw more (ap (λ (l : List ℕ). x ∷ l) later.parts);
      all = rw more (rw e later.all);
      stops = rw more later.stops;
    }

pub front : (p : ℕ → Bool) (text : List ℕ) → Front p text
front p [] = record { parts = refl; all = refl; stops = inl refl }
front p (x ∷ xs) = by (front p xs) (p x) refl where
  by : Front p xs → (b : Bool) → p x ≡ b → Front p (x ∷ xs)
  by later true e = front-yes p x xs e later
  by later false e = front-no p x xs e

-- ---- the first field

-- A text is spaces, its first field and what stands behind that.
pub record Firsts (text : List ℕ) : Type 0 where
  pub spaces : List ℕ
  pub are_spaces : AreSpaces spaces
  pub parts : text ≡ spaces ++ (first_field text ++ behind_field text)
  pub ink : list_all is_ink (first_field text) ≡ true
  pub ends : EndsField (behind_field text)
  pub none : first_field text ≡ [] → fields_of text ≡ []
  pub some : first_field text ≢ [] → fields_of text ≡ first_field text ∷ fields_of (behind_field text)

space-is : (x : ℕ) → is_ink x ≡ false → x ≡ 32
space-is x e = grind arith

ends-by : (text : List ℕ) → (text ≡ []) ⊎ ((x : ℕ) × (xs : List ℕ) × (text ≡ x ∷ xs) × (is_ink x ≡ false)) → EndsField text
ends-by text (inl e) = inl e
ends-by text (inr (x, xs, e, f)) = inr (xs, e ∙ ap (λ (y : ℕ). y ∷ xs) (space-is x f))

-- A text that begins with no space has no field only where it is empty.
none-of : (text : List ℕ) → ((text ≡ []) ⊎ ((x : ℕ) × (xs : List ℕ) × (text ≡ x ∷ xs) × (is_space x ≡ false))) → take_while is_ink text ≡ [] → fields_of text ≡ []
unfolding fields_of
none-of text (inl e) none = rw e refl
none-of text (inr (x, xs, e, ink)) none =
    let some : take_while is_ink (x ∷ xs) ≡ x ∷ take_while is_ink xs = rw (take_while-cons is_ink x xs, ink) refl in
    absurd (let h = rw (e, some) at none in cc)

has-bytes : (field : List ℕ) → field ≢ [] → has_bytes field ≡ true
has-bytes [] some = absurd (some refl)
has-bytes (x ∷ xs) some = refl

some-of : (text : List ℕ) → take_while is_ink text ≢ [] → fields_of text ≡ take_while is_ink text ∷ fields_of (drop (length (take_while is_ink text)) text)
unfolding fields_of
some-of text some =
    let part = first_part text in
    rw (part.split, has-bytes (take_while is_ink text) some) (ap (λ (l : List (List ℕ)). take_while is_ink text ∷ l) part.rest)

pub firsts : (text : List ℕ) → Firsts text
unfolding bare first_field behind_field
firsts text =
    let lead = front is_space text in
    let size = front is_ink (drop (length (take_while is_space text)) text) in
    let own : fields_of text ≡ fields_of (drop (length (take_while is_space text)) text) =
    ap fields_of lead.parts ∙ fields-spaces (take_while is_space text) (drop (length (take_while is_space text)) text) lead.all in
    record {
      spaces = take_while is_space text;
      are_spaces = lead.all;
      parts = lead.parts ∙ ap (λ (l : List ℕ). take_while is_space text ++ l) size.parts;
      ink = size.all;
      ends = ends-by (drop (length (first_field text)) (bare text)) size.stops;
      none = λ none. own ∙ none-of (drop (length (take_while is_space text)) text) lead.stops none;
      some = λ some. own ∙ some-of (drop (length (take_while is_space text)) text) some;
    }

ink-whole : (field : List ℕ) → list_all is_ink field ≡ true → take_while is_ink field ≡ field
ink-whole [] all = refl
ink-whole (x ∷ xs) all =
    let both = and_parts (is_ink x) (list_all is_ink xs) all in
    rw (take_while-cons is_ink x xs, both.0) (ap (λ (l : List ℕ). x ∷ l) (ink-whole xs both.1))

behind-whole : (field : List ℕ) → fields_of (drop (length field) field) ≡ []
unfolding fields_of
behind-whole field = rw (drop-length field) refl

-- What is no space alone is one field.
pub fields-ink : (field : List ℕ) → field ≢ [] → list_all is_ink field ≡ true → fields_of field ≡ field ∷ []
fields-ink field some all =
    let whole = ink-whole field all in
    some-of field (λ none. some (sym whole ∙ none)) ∙ rw (whole, behind-whole field) refl

pub first-cut : (text : List ℕ) → first_field text ≢ [] → IsCut text (first_field text) (behind_field text)
first-cut text some =
    let is = firsts text in
    record {
      spaces = is.spaces;
      parts = is.parts;
      are_spaces = is.are_spaces;
      some = some;
      no_space = is.ink;
      ends = is.ends;
    }

some-long : (l : List ℕ) → l ≢ [] → 0 < length l
some-long [] some = absurd (some refl)
some-long (x ∷ xs) some = omega arith

-- What stands behind the first field is shorter than the text.
pub first-shorter : (text : List ℕ) → first_field text ≢ [] → length (behind_field text) < length text
first-shorter text some =
    let is = firsts text in
    let whole : length text ≡ length is.spaces + (length (first_field text) + length (behind_field text)) =
    ap length is.parts ∙ length-append is.spaces (first_field text ++ behind_field text) ∙ ap (λ (n : ℕ). length is.spaces + n) (length-append (first_field text) (behind_field text)) in
    let long : 0 < length (first_field text) = some-long (first_field text) some in
    omega arith
