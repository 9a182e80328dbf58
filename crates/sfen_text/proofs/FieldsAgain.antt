-- The fields of a text that is written.
use Rattle.std.proofs.Common.{◌≡◌, inl, inr, ℕ, suc, ◌+◌, ◌-◌, ◌≤◌, Bool, true, false, cond, eqb, List, [], ◌∷◌, ◌++◌, length, drop, refl, sym, ap, ◌∙◌, arith}
use Rattle.std.specs.Prelude.{reverse, not, ◌&&◌, codes, nat_eq}
use Rattle.std.specs.List.{starts_with}
use Rattle.std.proofs.lemmas.Bool.Decides.{eqb_tells, nat_tests}
use Rattle.std.proofs.lemmas.List.{take_all, take_at, drop_at, reverse-append}
use Rattle.std.proofs.lemmas.List.Sums.{take_while-cons}
use Rattle.sfen_text.specs.Reading.{leading, without_end_blanks, front_len, field_of}
use Rattle.sfen_text.specs.Bytes.{is_space, is_blank}
use Rattle.sfen_text.specs.Fields.{field}
use Rattle.sfen_text.proofs.PiecesAgain.{IsPlain}
use Rattle.sfen_text.proofs.BytesAgain.{ArePlain}

-- ---- bytes in front

pub leading_none : (test : ℕ → Bool) (x : ℕ) (xs : List ℕ) → test x ≡ false → leading test (x ∷ xs) ≡ 0
unfolding leading
leading_none test x xs e = rw (take_while-cons test x xs, e) refl

pub leading_more : (test : ℕ → Bool) (x : ℕ) (xs : List ℕ) → test x ≡ true → leading test (x ∷ xs) ≡ suc (leading test xs)
unfolding leading
leading_more test x xs e = rw (take_while-cons test x xs, e) refl

pub leading_nil : (test : ℕ → Bool) → leading test [] ≡ 0
unfolding leading
leading_nil test = refl

-- What ends a field: the end of the text, or a space.
abbrev pub Ends : List ℕ → Type 0
Ends [] = Unit {0}
Ends (x ∷ xs) = x ≡ 32

-- Bytes above every blank.
abbrev pub AreSolid : List ℕ → Type 0
AreSolid [] = Unit {0}
AreSolid (x ∷ xs) = (43 ≤ x) × AreSolid xs

pub solid_from_plain : (xs : List ℕ) → ArePlain xs → AreSolid xs
solid_from_plain [] h = tt
solid_from_plain (x ∷ xs) h = (h.0.above, solid_from_plain xs h.1)

pub no_space : (x : ℕ) → 43 ≤ x → is_space x ≡ false
no_space x h = elim (eqb_tells x 32) [ inl t ↦ absurd (omega (arith, t.1)) | inr f ↦ f.0 ]

pub no_blank : (x : ℕ) → 43 ≤ x → is_blank x ≡ false
no_blank x h = grind (arith, nat_tests)

abbrev pub in_field : ℕ → Bool
in_field byte = not (is_space byte)

pub field_size : (xs rest : List ℕ) → AreSolid xs → Ends rest → leading in_field (xs ++ rest) ≡ length xs
field_size [] [] solid ends = leading_nil in_field
field_size [] (x ∷ rest) solid ends = leading_none in_field x rest (rw ends refl)
field_size (x ∷ xs) rest solid ends = leading_more in_field x (xs ++ rest) (rw (no_space x solid.0) refl) ∙ ap suc (field_size xs rest solid.1 ends)

-- A field at the front of a text.
pub field_here : (at x : ℕ) (xs rest : List ℕ) → AreSolid (x ∷ xs) → Ends rest → field_of at ((x ∷ xs) ++ rest) ≡ field at (x ∷ xs) rest
unfolding field_of
field_here at x xs rest solid ends =
    let none = leading_none is_space x (xs ++ rest) (no_space x solid.0) in
    let size = field_size (x ∷ xs) rest solid ends in
    let place : at + 0 ≡ at = omega arith in
    let all : drop 0 ((x ∷ xs) ++ rest) ≡ (x ∷ xs) ++ rest = refl in
    rw (none, place, size, take_at (x ∷ xs) rest (length (x ∷ xs)) refl, drop_at (x ∷ xs) rest (length (x ∷ xs)) refl) refl

-- A field behind a space.
pub field_behind : (at x : ℕ) (xs rest : List ℕ) → AreSolid (x ∷ xs) → Ends rest → field_of at (32 ∷ ((x ∷ xs) ++ rest)) ≡ field (at + 1) (x ∷ xs) rest
unfolding field_of
field_behind at x xs rest solid ends =
    let one = leading_more is_space 32 ((x ∷ xs) ++ rest) refl in
    let none = leading_none is_space x (xs ++ rest) (no_space x solid.0) in
    let size = field_size (x ∷ xs) rest solid ends in
    rw (one, none, size, take_at (x ∷ xs) rest (length (x ∷ xs)) refl, drop_at (x ∷ xs) rest (length (x ∷ xs)) refl) refl

-- ---- both ends

pub last_solid : (xs : List ℕ) (x : ℕ) → AreSolid (x ∷ xs) → (front : List ℕ) × (last : ℕ) × (x ∷ xs ≡ front ++ last ∷ []) × (43 ≤ last)
last_solid [] x solid = ([], x, refl, solid.0)
last_solid (y ∷ xs) x solid =
    let more = last_solid xs y solid.1 in
    (x ∷ more.0, more.1, ap (λ (t : List ℕ). x ∷ t) more.2, more.3)

pub no_end_blanks : (front : List ℕ) (x : ℕ) (xs : List ℕ) → AreSolid (x ∷ xs) → without_end_blanks (front ++ x ∷ xs) ≡ front ++ x ∷ xs
unfolding without_end_blanks
no_end_blanks front x xs solid =
    let last = last_solid xs x solid in
    let turned : reverse (front ++ x ∷ xs) ≡ last.1 ∷ (reverse last.0 ++ reverse front) = reverse-append front (x ∷ xs) ∙ ap (λ (t : List ℕ). reverse t ++ reverse front) last.2 ∙ ap (λ (t : List ℕ). t ++ reverse front) (reverse-append last.0 (last.1 ∷ [])) in
    let none : leading is_blank (reverse (front ++ x ∷ xs)) ≡ 0 = rw turned (leading_none is_blank last.1 (reverse last.0 ++ reverse front) (no_blank last.1 last.3)) in
    rw none (take_all (length (front ++ x ∷ xs) - 0) (front ++ x ∷ xs) (omega arith))

no_word : (a b e c d f : Bool) → b ≡ false → d ≡ false → cond {A = ℕ} (a && (b && e)) 14 (cond {A = ℕ} (c && (d && f)) 5 0) ≡ 0
no_word true b e true d f p q = rw (p, q) refl
no_word true b e false d f p q = rw p refl
no_word false b e true d f p q = rw q refl
no_word false b e false d f p q = refl

-- No written text begins with a word.
pub no_front : (x y : ℕ) (text : List ℕ) → IsPlain y → front_len (x ∷ y ∷ text) ≡ 0
unfolding front_len
no_front x y text plain =
    let o : eqb 111 y ≡ false = elim (eqb_tells 111 y) [ inl t ↦ absurd (plain.not_o (sym t.1)) | inr n ↦ n.0 ] in
    let f : eqb 102 y ≡ false = elim (eqb_tells 102 y) [ inl t ↦ absurd (plain.not_f (sym t.1)) | inr n ↦ n.0 ] in
    no_word (eqb 112 x) (eqb 111 y) (starts_with nat_eq text (codes "sition sfen ")) (eqb 115 x) (eqb 102 y) (starts_with nat_eq text (codes "en ")) o f
