-- The number in front of a move, and what stands behind it.
use Rattle.std.proofs.Common.{◌≡◌, ◌==◌, ◌⊎◌, inl, inr, ◌&&◌, ◌<◌, ◌≤◌, ◌^◌, ◌++◌, ℕ, zero, suc, Bool, true, false, not, List, [], ◌∷◌, length, Some, refl, sym, subst, ap, ap₂, ◌∙◌, arith, append_assoc, decimal, nat_le, nat_lt, if◌then◌else◌, encode_utf8_all}
use Rattle.std.specs.Char.{is_ascii_digit, digit_value}
use Rattle.std.specs.List.{AllByRecursion}
use Rattle.std.specs.Str.{IsAscii, all_scalars}
use Rattle.std.proofs.lemmas.Bool.{cases_Bool, ne_eqb, le-leb}
use Rattle.std.proofs.lemmas.Fmt.{decimal_is_IsNumeral, IsAscii-decimal}
use Rattle.std.proofs.lemmas.Str.{IsUtf8-from_ascii, encodes-IsAscii, encodes_same, IsAscii-append}
use Rattle.std.proofs.lemmas.Str.Parse.{digit_from_value}
use Rattle.kif_text.specs.Lines.{utf8}
use Rattle.kif_moves.specs.Characters.{is_space, past}
use Rattle.kif_moves.specs.Words.{behind_digits, behind_gap, behind_number}
use Rattle.kif_record.specs.Moves.{blanks_before, numbered}
use Rattle.kif_again.proofs.Written.{Written, is_plain, written-append, written-nothing}

-- Digits in ASCII.
abbrev pub AreDigits : List ℕ → Type 0
AreDigits ds = AllByRecursion (λ c. (48 ≤ c) × (c ≤ 57)) ds

digits_of : (ds : List ℕ) → AllByRecursion (λ c. digit_value c < 10) ds → AreDigits ds
digits_of [] all = tt
digits_of (c ∷ ds) all = (digit_from_value c all.0, digits_of ds all.1)

decimal_digits : (n : ℕ) → n < 2 ^ 64 → AreDigits (decimal n) × (0 < length (decimal n))
decimal_digits n small = let is = (decimal_is_IsNumeral n small).0 in (digits_of (decimal n) is.1, is.0)

digits_plain : (ds : List ℕ) → AreDigits ds → is_plain ds ≡ true
digits_plain [] all = refl
digits_plain (c ∷ ds) all =
    let low = all.0.0 in
    rw (ne_eqb c 10 (λ e. absurd (omega (arith, low, e))), ne_eqb c 13 (λ e. absurd (omega (arith, low, e))), digits_plain ds all.1) refl

pub ascii_written : (bytes : List ℕ) → IsAscii bytes → is_plain bytes ≡ true → Written bytes bytes
ascii_written bytes ascii plain =
    let utf8 = IsUtf8-from_ascii bytes ascii in
    let same = encodes-IsAscii bytes ascii in
    record {
      is = sym same;
      scalars = subst (λ (cs : List ℕ). all_scalars cs ≡ true) (encodes_same utf8.0 bytes (utf8.1.1 ∙ sym same)) utf8.1.0;
      plain = plain;
    }

-- Spaces alone.
abbrev pub AreSpaces : List ℕ → Type 0
AreSpaces cs = AllByRecursion (λ c. c ≡ 32) cs

blanks_again : (n : ℕ) → (cs : List ℕ) × Written (blanks_before n) cs × AreSpaces cs × (blanks_before n ≡ cs)
unfolding lib.Utf8.encode
blanks_again n = by_size (nat_lt n 10) (nat_lt n 100) (nat_lt n 1000)
  where
    by_size : (a b c : Bool) → (cs : List ℕ) × Written (if a then utf8 "   " else (if b then utf8 "  " else (if c then utf8 " " else []))) cs × AreSpaces cs × ((if a then utf8 "   " else (if b then utf8 "  " else (if c then utf8 " " else []))) ≡ cs)
    by_size true b c = (32 ∷ 32 ∷ 32 ∷ [], record { is = refl; scalars = refl; plain = refl }, (refl, (refl, (refl, tt))), refl)
    by_size false true c = (32 ∷ 32 ∷ [], record { is = refl; scalars = refl; plain = refl }, (refl, (refl, tt)), refl)
    by_size false false true = (32 ∷ [], record { is = refl; scalars = refl; plain = refl }, (refl, tt), refl)
    by_size false false false = ([], written-nothing, tt, refl)

past_spaces : (cs : List ℕ) (c : ℕ) (rest : List ℕ) → AreSpaces cs → is_space c ≡ false → past is_space (cs ++ c ∷ rest) ≡ c ∷ rest
past_spaces [] c rest all not_space = rw not_space refl
past_spaces (x ∷ cs) c rest all not_space = rw (all.0) (past_spaces cs c rest all.1 not_space)

is_digit : (c : ℕ) → 48 ≤ c → c ≤ 57 → is_ascii_digit c ≡ true
is_digit c low high = rw (le-leb 48 c low, le-leb c 57 high) refl

past_digits : (ds rest : List ℕ) → AreDigits ds → past is_ascii_digit (ds ++ 32 ∷ rest) ≡ 32 ∷ rest
past_digits [] rest all = refl
past_digits (d ∷ ds) rest all = rw (is_digit d all.0.0 all.0.1) (past_digits ds rest all.1)

-- What stands behind a number, in front of something that is no space.
number_left : (blanks ds : List ℕ) (c : ℕ) (word : List ℕ) → AreSpaces blanks → AreDigits ds → 0 < length ds → is_space c ≡ false
    → behind_number (((blanks ++ ds) ++ 32 ∷ []) ++ c ∷ word) ≡ Some (c ∷ word)
number_left blanks [] c word spaces digits some not_space = absurd (omega (arith, some))
number_left blanks (d ∷ ds) c word spaces digits some not_space =
    let low = digits.0.0 in
    let no_space : is_space d ≡ false = ne_eqb d 32 (λ e. absurd (omega (arith, low, e))) in
    let grouped : ((blanks ++ d ∷ ds) ++ 32 ∷ []) ++ c ∷ word ≡ blanks ++ d ∷ (ds ++ 32 ∷ c ∷ word) =
    append_assoc (blanks ++ d ∷ ds) (32 ∷ []) (c ∷ word) ∙ append_assoc blanks (d ∷ ds) (32 ∷ c ∷ word) in
    ap behind_number grouped ∙ ap behind_digits (past_spaces blanks d (ds ++ 32 ∷ c ∷ word) spaces no_space)
    ∙ digits_behind
  where
    digits_behind : behind_digits (d ∷ (ds ++ 32 ∷ c ∷ word)) ≡ Some (c ∷ word)
    digits_behind = rw (is_digit d digits.0.0 digits.0.1, past_digits ds (c ∷ word) digits.1, not_space) refl

one_space : Written (32 ∷ []) (32 ∷ [])
unfolding lib.Utf8.encode
one_space = record { is = refl; scalars = refl; plain = refl }

-- The first byte of a number in its place: a space or a digit.
pub record StartsLow (bytes : List ℕ) : Type 0 where
  pub first : ℕ
  pub others : List ℕ
  pub is : bytes ≡ first ∷ others
  pub low : first ≤ 57
  pub apart : (c : ℕ) → (c ≡ 35) ⊎ ((c ≡ 38) ⊎ ((c ≡ 42) ⊎ (58 ≤ c))) → (c == first) ≡ false

space_or_digit : (h : ℕ) → ((h ≡ 32) ⊎ ((48 ≤ h) × (h ≤ 57))) → (c : ℕ) → (c ≡ 35) ⊎ ((c ≡ 38) ⊎ ((c ≡ 42) ⊎ (58 ≤ c))) → (c == h) ≡ false
space_or_digit h (inl e) c (inl f) = ne_eqb c h (λ g. absurd (omega (arith, e, f, g)))
space_or_digit h (inl e) c (inr (inl f)) = ne_eqb c h (λ g. absurd (omega (arith, e, f, g)))
space_or_digit h (inl e) c (inr (inr (inl f))) = ne_eqb c h (λ g. absurd (omega (arith, e, f, g)))
space_or_digit h (inl e) c (inr (inr (inr f))) = ne_eqb c h (λ g. absurd (omega (arith, e, f, g)))
space_or_digit h (inr (a, b)) c (inl f) = ne_eqb c h (λ g. absurd (omega (arith, a, b, f, g)))
space_or_digit h (inr (a, b)) c (inr (inl f)) = ne_eqb c h (λ g. absurd (omega (arith, a, b, f, g)))
space_or_digit h (inr (a, b)) c (inr (inr (inl f))) = ne_eqb c h (λ g. absurd (omega (arith, a, b, f, g)))
space_or_digit h (inr (a, b)) c (inr (inr (inr f))) = ne_eqb c h (λ g. absurd (omega (arith, a, b, f, g)))

low_of : (h : ℕ) → ((h ≡ 32) ⊎ ((48 ≤ h) × (h ≤ 57))) → h ≤ 57
low_of h (inl e) = omega (arith, e)
low_of h (inr (a, b)) = b

starts : (bytes others : List ℕ) (h : ℕ) → bytes ≡ h ∷ others → ((h ≡ 32) ⊎ ((48 ≤ h) × (h ≤ 57))) → StartsLow bytes
starts bytes others h is kind_of = record { first = h; others = others; is = is; low = low_of h kind_of; apart = space_or_digit h kind_of }

starts_parts : (blanks ds rest : List ℕ) → AreSpaces blanks → AreDigits ds → 0 < length ds → StartsLow (((blanks ++ ds) ++ 32 ∷ []) ++ rest)
starts_parts [] [] rest spaces digits some = absurd (omega (arith, some))
starts_parts [] (d ∷ ds) rest spaces digits some = starts _ ((ds ++ 32 ∷ []) ++ rest) d refl (inr (digits.0.0, digits.0.1))
starts_parts (b ∷ blanks) ds rest spaces digits some = starts _ (((blanks ++ ds) ++ 32 ∷ []) ++ rest) b refl (inl spaces.0)

-- A number is characters in front of which nothing stands but spaces.
pub record NumberAgain (n : ℕ) : Type 0 where
  pub characters : List ℕ
  pub written : Written (numbered n) characters
  pub low : (rest : List ℕ) → StartsLow (numbered n ++ rest)
  pub left : (c : ℕ) (word : List ℕ) → is_space c ≡ false → behind_number (characters ++ c ∷ word) ≡ Some (c ∷ word)

pub numbered_again : (n : ℕ) → n < 2 ^ 64 → NumberAgain n
numbered_again n small =
    let blanks = blanks_again n in
    let digits = decimal_digits n small in
    let d = ascii_written (decimal n) (IsAscii-decimal n small) (digits_plain (decimal n) digits.0) in
    record {
      characters = (blanks.0 ++ decimal n) ++ 32 ∷ [];
      written = written-append _ _ _ _ (written-append _ _ _ _ blanks.1 d) one_space;
      low = λ rest. subst (λ (t : List ℕ). StartsLow (((t ++ decimal n) ++ 32 ∷ []) ++ rest)) (sym blanks.3) (starts_parts blanks.0 (decimal n) rest blanks.2 digits.0 digits.1);
      left = λ c word not_space. number_left blanks.0 (decimal n) c word blanks.2 digits.0 digits.1 not_space;
    }
