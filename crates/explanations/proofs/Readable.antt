-- Readable texts: plain ones, literals, a character, and one behind another.
use Rattle.std.proofs.Common.{◌≡◌, ℕ, true, List, [], ◌∷◌, ◌++◌, refl, arith, ◌∙◌, ap, append-nil}
use Rattle.std.specs.Char.{encode_utf8}
use Rattle.std.specs.List.{list_all}
use Rattle.std.specs.Str.{IsAscii, encode_utf8_all, chars_after, continuation_len, lead_bits}
use Rattle.std.proofs.lemmas.Str.{encodes-append, encodes-IsAscii}
use Rattle.std.proofs.lemmas.Str.Ascii.{IsAscii-nil, IsAscii-cons}
use Rattle.explanations.specs.Shown.{IsPlain, is_readable, IsReadable}

all_append : (front back : List ℕ) → list_all is_readable front ≡ true → list_all is_readable back ≡ true → list_all is_readable (front ++ back) ≡ true
all_append [] back first second = second
all_append (c ∷ cs) back first second = grind (arith, all_append cs back)

pub readable_append : (front back : List ℕ) → IsReadable front → IsReadable back → IsReadable (front ++ back)
readable_append front back first second = record {
  characters = first.characters ++ second.characters;
  spelt = encodes-append first.characters second.characters ∙ ap (λ l. l ++ encode_utf8_all second.characters) first.spelt ∙ ap (λ l. front ++ l) second.spelt;
  each = all_append first.characters second.characters first.each second.each;
}

plain_ascii : (bytes : List ℕ) → IsPlain bytes → IsAscii bytes
plain_ascii [] plain = IsAscii-nil
plain_ascii (byte ∷ bytes) plain = IsAscii-cons byte bytes (grind arith) (plain_ascii bytes (grind arith))

plain_each : (bytes : List ℕ) → IsPlain bytes → list_all is_readable bytes ≡ true
plain_each [] plain = refl
plain_each (byte ∷ bytes) plain = grind (arith, plain_each bytes)

pub readable_plain : (bytes : List ℕ) → IsPlain bytes → IsReadable bytes
readable_plain bytes plain = record { characters = bytes; spelt = encodes-IsAscii bytes (plain_ascii bytes plain); each = plain_each bytes plain }

pub readable_character : (character : ℕ) → is_readable character ≡ true → IsReadable (encode_utf8 character)
readable_character character readable = record { characters = character ∷ []; spelt = append-nil (encode_utf8 character); each = grind arith }

-- The characters of a text that is written out.
abbrev pub characters_of : List ℕ → List ℕ
characters_of [] = []
characters_of (byte ∷ bytes) = chars_after (continuation_len byte) (lead_bits byte) bytes

pub readable_literal : (bytes : List ℕ) → encode_utf8_all (characters_of bytes) ≡ bytes → list_all is_readable (characters_of bytes) ≡ true → IsReadable bytes
readable_literal bytes spelt each = record { characters = characters_of bytes; spelt = spelt; each = each }
