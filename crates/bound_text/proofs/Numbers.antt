-- Numbers by their digits.
use Rattle.std.proofs.Common.{◌≡◌, ◌<◌, ◌^◌, ℕ, zero, suc, List, length, get_or, ap, arith}
use Rattle.std.specs.Int.{IsInRange}
use Rattle.std.specs.Fmt.{decimal}
use Rattle.std.specs.Str.Parse.{AllDigits, digits_value}
use Rattle.std.proofs.lemmas.Fmt.{decimal_is_IsNumeral, decimal_digit, first_decimal, decimal-digits_value}
use Rattle.std.proofs.lemmas.Str.Parse.{IsNumeralModel, numerals_by_value, tells_digits, tells_by_index}
use Rattle.bound_text.specs.Reading.{IsNumber, number_of}

-- each byte at a place of its own is a digit
abbrev pub AreDigitsAt : List ℕ → Type 0
AreDigitsAt text = (k : ℕ) → k < length text → IsInRange 48 57 (get_or text k 0)

by_place : IsNumeralModel AreDigitsAt (digits_value 10)
by_place = numerals_by_value AreDigitsAt tells_by_index

pub digits_from_places : (text : List ℕ) → AreDigitsAt text → AllDigits 10 text
digits_from_places text at = by_place.to text at

pub places_from_digits : (text : List ℕ) → AllDigits 10 text → AreDigitsAt text
places_from_digits text all = by_place.from text all

zero_leads : (n : ℕ) → n < 2 ^ 64 → get_or (decimal n) 0 0 ≡ 48 → length (decimal n) ≡ 1
zero_leads zero small e = ap length (decimal_digit 0 (omega arith))
zero_leads (suc n) small e = let first = first_decimal (suc n) (omega arith) small in absurd (omega arith)

pub decimal_number : (n : ℕ) → n < 2 ^ 64 → IsNumber (decimal n)
decimal_number n small = record { numeral = (decimal_is_IsNumeral n small).0; no_zero_leads = zero_leads n small }

pub number_of-decimal : (n : ℕ) → n < 2 ^ 64 → number_of (decimal n) ≡ n
number_of-decimal n small = (decimal_is_IsNumeral n small).1

pub decimal-number_of : (digits : List ℕ) → IsNumber digits → number_of digits < 2 ^ 64 → decimal (number_of digits) ≡ digits
decimal-number_of digits is small =
    decimal-digits_value (numerals_by_value (AllDigits 10) tells_digits) digits is.numeral.1 is.numeral.0 is.no_zero_leads small
