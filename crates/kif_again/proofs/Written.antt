-- Bytes that are characters in UTF-8, and end no line.
use Rattle.std.proofs.Common.{◌≡◌, ◌&&◌, ◌==◌, ◌+◌, ℕ, zero, suc, Bool, true, false, not, List, [], ◌∷◌, ◌++◌, refl, sym, ap, ap₂, ◌∙◌, subst, encode_utf8_all, chars, IsUtf8, append_assoc}
use Rattle.std.specs.Str.{all_scalars}
use Rattle.std.proofs.lemmas.Str.{chars-encodes, encodes-append}
use lib.Utf8.{scalar}

-- No byte ends a line, as a line feed does, or a carriage return before one.
abbrev pub is_plain : List ℕ → Bool
is_plain [] = true
is_plain (byte ∷ bytes) = (not (byte == 10) && not (byte == 13)) && is_plain bytes

pub record Written (bytes characters : List ℕ) : Type 0 where
  pub is : bytes ≡ encode_utf8_all characters
  pub scalars : all_scalars characters ≡ true
  pub plain : is_plain bytes ≡ true

both : (a b : Bool) → a ≡ true → b ≡ true → (a && b) ≡ true
both a b ea eb = rw (ea, eb) refl

plain-append : (a b : List ℕ) → is_plain (a ++ b) ≡ (is_plain a && is_plain b)
plain-append [] b = refl
plain-append (byte ∷ a) b = ap (λ (t : Bool). (not (byte == 10) && not (byte == 13)) && t) (plain-append a b) ∙ and_assoc (not (byte == 10) && not (byte == 13)) (is_plain a) (is_plain b)
  where
    and_assoc : (x y z : Bool) → (x && (y && z)) ≡ ((x && y) && z)
    and_assoc true y z = refl
    and_assoc false y z = refl

pub written_chars : (bytes characters : List ℕ) → Written bytes characters → chars bytes ≡ characters
written_chars bytes characters w = ap chars w.is ∙ chars-encodes characters w.scalars

pub written_utf8 : (bytes characters : List ℕ) → Written bytes characters → IsUtf8 bytes
written_utf8 bytes characters w = (characters, (w.scalars, sym w.is))

scalars-append : (x y : List ℕ) → all_scalars x ≡ true → all_scalars y ≡ true → all_scalars (x ++ y) ≡ true
scalars-append [] y a b = b
scalars-append (c ∷ x) y a b =
    let parts = both_true (scalar c) (all_scalars x) a in
    both (scalar c) (all_scalars (x ++ y)) parts.0 (scalars-append x y parts.1 b)
  where
    both_true : (a b : Bool) → (a && b) ≡ true → (a ≡ true) × (b ≡ true)
    both_true true true e = (refl, refl)
    both_true true false e = absurd cc
    both_true false b e = absurd cc

-- One behind the other.
pub written-append : (a b x y : List ℕ) → Written a x → Written b y → Written (a ++ b) (x ++ y)
written-append a b x y u v = record {
  is = ap₂ (λ (s t : List ℕ). s ++ t) u.is v.is ∙ sym (encodes-append x y);
  scalars = scalars-append x y u.scalars v.scalars;
  plain = plain-append a b ∙ both (is_plain a) (is_plain b) u.plain v.plain;
}

pub written-nothing : Written [] []
written-nothing = record { is = refl; scalars = refl; plain = refl }
