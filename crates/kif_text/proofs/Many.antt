-- The lines of a header, as many as were read so far.
use Rattle.std.proofs.Common.{◌≡◌, ℕ, zero, suc, ◌+◌, ◌<◌, ◌≤◌, Bool, true, false, cond, List, [], ◌∷◌, ◌++◌, length, take, drop, get_or, refl, sym, ap, ◌∙◌, arith, drop-cons}
use Rattle.std.specs.List.{prefix_len, slice_split}
use Rattle.std.specs.Str.Lines.{lines, lines_of_parts}
use Rattle.std.proofs.lemmas.List.{take-take, take-append-drop, get_or-take}
use Rattle.std.proofs.lemmas.List.Sums.{count_by-le-length, prefix_len-le-length}
use Rattle.std.proofs.lemmas.List.Folds.{length-prefix_len}
use Rattle.std.proofs.lemmas.List.Splits.{length-slice_split}
use Rattle.kif_text.specs.First.{HasNone, HasFirst}

module _ (p : List ℕ → Bool) where
  pub prefix_more : (xs : List (List ℕ)) (n : ℕ) (d : List ℕ) → n ≤ prefix_len p xs → n < length xs → p (get_or xs n d) ≡ true → n + 1 ≤ prefix_len p xs
  prefix_more [] n d le lt t = absurd (omega arith)
  prefix_more (x ∷ xs) zero d le lt t = rw t (omega arith)
  prefix_more (x ∷ xs) (suc n) d le lt t = by (p x) refl (λ few. prefix_more xs n d few (omega arith) t)
    where
      by : (b : Bool) → p x ≡ b → (n ≤ prefix_len p xs → n + 1 ≤ prefix_len p xs) → suc n + 1 ≤ cond (p x) (1 + prefix_len p xs) 0
      by true e more = let few : suc n ≤ 1 + prefix_len p xs = rw e at le in rw e (let m = more (omega arith) in omega arith)
      by false e more = let few : suc n ≤ 0 = rw e at le in absurd (omega arith)

  pub prefix_stop : (xs : List (List ℕ)) (n : ℕ) (d : List ℕ) → n ≤ prefix_len p xs → n < length xs → p (get_or xs n d) ≡ false → prefix_len p xs ≡ n
  prefix_stop [] n d le lt t = absurd (omega arith)
  prefix_stop (x ∷ xs) zero d le lt t = rw t refl
  prefix_stop (x ∷ xs) (suc n) d le lt t = by (p x) refl (λ few. prefix_stop xs n d few (omega arith) t)
    where
      by : (b : Bool) → p x ≡ b → (n ≤ prefix_len p xs → prefix_len p xs ≡ n) → cond (p x) (1 + prefix_len p xs) 0 ≡ suc n
      by true e more = let few : suc n ≤ 1 + prefix_len p xs = rw e at le in rw e (let m = more (omega arith) in omega arith)
      by false e more = let few : suc n ≤ 0 = rw e at le in absurd (omega arith)

  -- All lines were read, and each passes.
  pub prefix_all : (xs : List (List ℕ)) (n : ℕ) → n ≤ prefix_len p xs → n ≡ length xs → take (prefix_len p xs) xs ≡ take n xs
  prefix_all xs n le is = let few = prefix_len-le-length p xs in let same : prefix_len p xs ≡ n = omega arith in ap (λ k. take k xs) same

  -- The fault of a line is the first where no line in front of it has one.
  pub fault_first : {F : Type 0} (Has : List (List ℕ) → List ℕ → F → Type 0) (xs : List (List ℕ)) (n : ℕ) (line : List ℕ) (fault : F) → n ≤ prefix_len p xs → n < length xs → line ≡ get_or xs n line → p line ≡ true
      → HasNone Has (take n xs) → Has (take n xs) line fault → HasFirst Has (take (prefix_len p xs) xs) fault
  fault_first Has xs n line fault le lt is passes none there =
      let ys = take (prefix_len p xs) xs in
      let long : length ys ≡ prefix_len p xs = length-prefix_len p xs in
      let below : n + 1 ≤ prefix_len p xs = prefix_more xs n line le lt (ap p (sym is) ∙ passes) in
      let front : take n ys ≡ take n xs = take-take n (prefix_len p xs) xs (omega arith) in
      let here : get_or ys n line ≡ line = get_or-take (prefix_len p xs) xs n line (omega arith) ∙ sym is in
      record {
        before = take n xs;
        here = line;
        behind = drop (suc n) ys;
        parts = sym (take-append-drop n ys) ∙ (λ i. front i ++ drop-cons ys n line (omega arith) i) ∙ ap (λ (l : List ℕ). take n xs ++ l ∷ drop (suc n) ys) here;
        there = there;
        none = none;
      }

-- There are at most as many lines as bytes, and one.
parts_few : (parts : List (List ℕ)) → length (lines_of_parts parts) ≤ length parts
parts_few [] = omega arith
parts_few (x ∷ []) = by (lib.Dec.eqb (length x) 0)
  where
    by : (b : Bool) → length (cond b [] (x ∷ [])) ≤ length (x ∷ [])
    by true = omega arith
    by false = omega arith
parts_few (x ∷ y ∷ more) = let m = parts_few (y ∷ more) in omega arith

pub lines_few : (text : List ℕ) → length (lines text) ≤ length text + 1
lines_few text =
    let p = λ (b : ℕ). lib.Dec.eqb b 10 in
    omega (arith, parts_few (slice_split p text), length-slice_split p text, count_by-le-length p text)
