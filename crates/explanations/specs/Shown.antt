-- What a text that is shown to a user holds, whatever the input was.
use Rattle.std.specs.Prelude.{◌≡◌, ℕ, ◌==◌, ◌||◌, Bool, true, List}
use Rattle.std.specs.List.{list_all}
use Rattle.std.specs.Int.{is_in_range}
use Rattle.std.specs.Str.{encode_utf8_all}
use Rattle.explanations.specs.declared.trouble.Trouble.{Trouble}
use Rattle.explanations.specs.declared.trouble.Trouble.TheVariants.{Problem, Diagram, DefenderInCheck, Certificate, TooLong, Write, NoMemory, Words, Asked, Collection}

-- Whether a byte is printable ASCII, or a line feed.
abbrev pub is_plain : ℕ → Bool
is_plain byte = byte == 10 || is_in_range 32 126 byte

-- Each byte is printable ASCII, or a line feed.
abbrev pub IsPlain : List ℕ → Type 0
IsPlain bytes = list_all is_plain bytes ≡ true

-- Whether a character is plain or stands in Japanese texts: in a block of punctuation, of kana, of
-- ideographs or of wide forms.
abbrev pub is_readable : ℕ → Bool
is_readable character = is_plain character || (is_in_range 0x3000 0x30ff character
    || (is_in_range 0x4e00 0x9fff character || is_in_range 0xff01 0xff5e character))

-- The bytes are the UTF-8 of characters that are plain or stand in Japanese texts.
pub record IsReadable (bytes : List ℕ) : Type 0 where
  pub characters : List ℕ
  pub spelt : encode_utf8_all characters ≡ bytes
  pub each : list_all is_readable characters ≡ true

-- What is told of a trouble is plain; but of a diagram it may have Japanese characters.
abbrev pub IsHarmless : Trouble → List ℕ → Type 0
IsHarmless (Problem fault) explanation = IsPlain explanation
IsHarmless (Diagram fault) explanation = IsReadable explanation
IsHarmless DefenderInCheck explanation = IsPlain explanation
IsHarmless (Certificate fault) explanation = IsPlain explanation
IsHarmless TooLong explanation = IsPlain explanation
IsHarmless Write explanation = IsPlain explanation
IsHarmless NoMemory explanation = IsPlain explanation
IsHarmless Words explanation = IsPlain explanation
IsHarmless (Asked fault) explanation = IsPlain explanation
IsHarmless Collection explanation = IsPlain explanation
