-- A text in lines is read in those lines.
use Rattle.std.proofs.Common.{◌≡◌, ◌&&◌, ◌==◌, ◌-◌, ◌<◌, ◌++◌, ⊎_elim, ℕ, zero, suc, Bool, true, false, not, List, [], ◌∷◌, length, refl, sym, ap, ◌∙◌, arith, append_assoc, slice_index}
use Rattle.std.specs.List.{All, AllByRecursion, slice_split}
use Rattle.std.specs.Str.Lines.{lines, lines_of_parts, strip_carriage_return}
use Rattle.std.proofs.lemmas.Bool.{cond-false}
use Rattle.std.proofs.lemmas.List.Splits.{slice_split_at, length-slice_split}
use Rattle.kif_record.specs.Diagram.{line}
use Rattle.kif_again.proofs.Written.{is_plain}

-- The text of some lines.
abbrev pub text_of : List (List ℕ) → List ℕ
text_of [] = []
text_of (text ∷ texts) = line text ++ text_of texts

both_true : (a b : Bool) → (a && b) ≡ true → (a ≡ true) × (b ≡ true)
both_true true true e = (refl, refl)
both_true true false e = absurd cc
both_true false b e = absurd cc

not_true : (a : Bool) → not a ≡ true → a ≡ false
not_true true e = absurd cc
not_true false e = refl

fed_nowhere : (bytes : List ℕ) → is_plain bytes ≡ true → All (λ b. (b == 10) ≡ false) bytes
fed_nowhere [] plain k d low = absurd (omega (arith, low))
fed_nowhere (byte ∷ bytes) plain zero d low = not_true (byte == 10) (both_true _ _ (both_true _ _ plain).0).0
fed_nowhere (byte ∷ bytes) plain (suc k) d low = fed_nowhere bytes (both_true _ _ plain).1 k d (omega (arith, low))

no_return : (bytes : List ℕ) (k : ℕ) → is_plain bytes ≡ true → (slice_index bytes k == 13) ≡ false
no_return [] k plain = refl
no_return (byte ∷ bytes) zero plain = not_true (byte == 13) (both_true _ _ (both_true _ _ plain).0).1
no_return (byte ∷ bytes) (suc k) plain = no_return bytes k (both_true _ _ plain).1

parts-cons : (x : List ℕ) (parts : List (List ℕ)) → 0 < length parts → lines_of_parts (x ∷ parts) ≡ strip_carriage_return x ∷ lines_of_parts parts
parts-cons x [] some = absurd (omega (arith, some))
parts-cons x (y ∷ more) some = refl

line_first : (text rest : List ℕ) → is_plain text ≡ true → lines (line text ++ rest) ≡ text ∷ lines rest
line_first text rest plain =
    let p : ℕ → Bool = λ b. b == 10 in
    ap lines (append_assoc text (10 ∷ []) rest) ∙ ap lines_of_parts (slice_split_at p text 10 rest (fed_nowhere text plain) refl)
    ∙ parts-cons text (slice_split p rest) (omega (arith, length-slice_split p rest))
    ∙ ap (λ (l : List ℕ). l ∷ lines rest) (cond-false _ _ _ (no_return text (length text - 1) plain))

pub lines_again : (texts : List (List ℕ)) → AllByRecursion (λ text. is_plain text ≡ true) texts → lines (text_of texts) ≡ texts
lines_again [] plain = refl
lines_again (text ∷ texts) plain = line_first text (text_of texts) plain.0 ∙ ap (λ (ts : List (List ℕ)). text ∷ ts) (lines_again texts plain.1)

pub text-append : (xs ys : List (List ℕ)) → text_of (xs ++ ys) ≡ text_of xs ++ text_of ys
text-append [] ys = refl
text-append (x ∷ xs) ys = ap (λ (t : List ℕ). line x ++ t) (text-append xs ys) ∙ sym (append_assoc (line x) (text_of xs) (text_of ys))
