-- What clap's getters read of the rows that they find.
use Rattle.std.proofs.Common.{◌≡◌, ◌∙◌, ◌<◌, ◌⊎◌, ◌^◌, ℕ, Bool, true, false, List, Option, Some, None, Result, Ok, Err, refl, sym, ap, subst, codes, inl, inr}
use Rattle.std.specs.Prelude.{IsSomeAnd, IfSome, option_map}
use Rattle.std.specs.Option.{option_map_or, ForSome}
use Rattle.std.specs.Str.{bytes_eq}
use Rattle.std.specs.Str.Parse.{IsNumeral, ParsesUnsigned, digits_value, without_leading_plus}
use Rattle.clap.specs.Matches.{ReadsOne}
use Rattle.clap.specs.Values.{IsUnsignedIn}
use Rattle.clap.specs.Walk.{Row, Text, one_of}
use Rattle.tsume_words.specs.Given.{HasNumber, HasNumberIfAny, IsNumberGiven, IsNumberIfAny, number_if_given, number_of}
use Rattle.search_limits.specs.Sizes.{IsFromTo}

-- a number that reads is the one that its text writes
pub number_read : {E : Type 0} (G : List ℕ → Result ℕ E → Type 0) (o : Option Text) (r : Option ℕ) → ((t : Text) → o ≡ Some t → ReadsOne G t r)
    → ((u : Text) (x : Result ℕ E) → G u x → ParsesUnsigned 64 10 u x)
    → IsSomeAnd o (λ t. IsNumeral 10 (without_leading_plus t) × (digits_value 10 (without_leading_plus t) < 2 ^ 64))
    → r ≡ Some (option_map_or (λ t. digits_value 10 (without_leading_plus t)) o 0)
number_read G None r reads only has = absurd has
number_read {E} G (Some t) r reads only has = go r (reads t refl)
  where
    go : (r : Option ℕ) → ReadsOne G t r → r ≡ Some (digits_value 10 (without_leading_plus t))
    go (Some v) h = ap Some (only t (Ok v) h).1
    go None h = absurd (only t (Err h.0) h.1 has)

readable_by : (low high : ℕ) (o : Option Text) → IsSomeAnd o (IsUnsignedIn low high)
    → IsSomeAnd o (λ t. IsNumeral 10 (without_leading_plus t) × (digits_value 10 (without_leading_plus t) < 2 ^ 64))
readable_by low high None has = has
readable_by low high (Some t) has = (has.0, has.1)

-- an option's number can be read
pub readable : (name : Text) (low high : ℕ) (found : List Row) → HasNumber name low high found → IsNumberGiven name found
readable name low high found has = readable_by low high (one_of name found) has

within_by : (low high : ℕ) (o : Option Text) → IsSomeAnd o (IsUnsignedIn low high)
    → IsFromTo low high (option_map_or (λ t. digits_value 10 (without_leading_plus t)) o 0)
within_by low high None has = absurd has
within_by low high (Some t) has = (has.2, has.3)

-- the same of an option that may have none
pub number_read_if : {E : Type 0} (G : List ℕ → Result ℕ E → Type 0) (o : Option Text) (r : Option ℕ) → (o ≡ None → r ≡ None)
    → ((t : Text) → o ≡ Some t → ReadsOne G t r) → ((u : Text) (x : Result ℕ E) → G u x → ParsesUnsigned 64 10 u x)
    → IfSome o (λ t. IsNumeral 10 (without_leading_plus t) × (digits_value 10 (without_leading_plus t) < 2 ^ 64))
    → r ≡ option_map (λ t. digits_value 10 (without_leading_plus t)) o
number_read_if G None r none reads only has = none refl
number_read_if G (Some t) r none reads only has = number_read G (Some t) r reads only has

readable_if_by : (low high : ℕ) (o : Option Text) → IfSome o (IsUnsignedIn low high)
    → IfSome o (λ t. IsNumeral 10 (without_leading_plus t) × (digits_value 10 (without_leading_plus t) < 2 ^ 64))
readable_if_by low high None has = has
readable_if_by low high (Some t) has = (has.0, has.1)

-- if there is a number, it can be read
pub readable_if : (name : Text) (low high : ℕ) (found : List Row) → HasNumberIfAny name low high found → IsNumberIfAny name found
readable_if name low high found has = readable_if_by low high (one_of name found) has

within_if_by : (low high : ℕ) (o : Option Text) → IfSome o (IsUnsignedIn low high)
    → ForSome (option_map (λ t. digits_value 10 (without_leading_plus t)) o) (IsFromTo low high)
within_if_by low high None has = λ n e. absurd cc
within_if_by low high (Some t) has = λ n e.
    let is : digits_value 10 (without_leading_plus t) ≡ n = cc in
    subst (IsFromTo low high) is (has.2, has.3)

-- and lies in its range
pub within_if : (name : Text) (low high : ℕ) (found : List Row) → HasNumberIfAny name low high found → ForSome (number_if_given name found) (IsFromTo low high)
within_if name low high found has = within_if_by low high (one_of name found) has

-- and lies in its range
pub within : (name : Text) (low high : ℕ) (found : List Row) → HasNumber name low high found → IsFromTo low high (number_of name found)
within name low high found has = within_by low high (one_of name found) has

-- the same of a number that equals it
pub within_is : (name : Text) (low high n : ℕ) (found : List Row) → n ≡ number_of name found → HasNumber name low high found → IsFromTo low high n
within_is name low high n found is has = let w = within name low high found has in (rw is w.0, rw is w.1)

-- a flag reads as it was found
pub flag_read : (o : Option Text) (r : Bool) → (o ≡ Some (codes "true") → r ≡ true) → (o ≡ Some (codes "false") → r ≡ false)
    → (o ≡ Some (codes "true")) ⊎ (o ≡ Some (codes "false"))
    → r ≡ option_map_or (λ t. bytes_eq t (codes "true")) o false
flag_read o r yes_read no_read (inl e) = yes_read e ∙ sym (ap (λ p. option_map_or (λ t. bytes_eq t (codes "true")) p false) e)
flag_read o r yes_read no_read (inr e) = no_read e ∙ sym (ap (λ p. option_map_or (λ t. bytes_eq t (codes "true")) p false) e)
