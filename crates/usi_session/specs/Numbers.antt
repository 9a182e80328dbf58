-- Numbers in a line.
use Rattle.std.specs.Prelude.{◌≡◌, ◌<◌, ◌^◌, ℕ, List}
use Rattle.std.specs.Str.Parse.{IsNumeral, digits_value, without_leading_plus}

-- The text writes the number, as one of an option on a command line: decimal digits, perhaps behind
-- a plus, of a number that 64 bits hold.
pub record Writes (text : List ℕ) (number : ℕ) : Type 0 where
  pub numeral : IsNumeral 10 (without_leading_plus text)
  pub value : digits_value 10 (without_leading_plus text) ≡ number
  pub fits : number < 2 ^ 64
