-- A text has no more lines than bytes.
use Rattle.std.proofs.Common.{ℕ, suc, ◌+◌, ◌≤◌, ◌==◌, List, [], ◌∷◌, length, sym, subst, arith, ⊎_elim}
use Rattle.std.specs.List.{slice_split, onto_first}
use Rattle.std.specs.Str.Lines.{lines, lines_of_parts}
use Rattle.std.proofs.lemmas.Bool.{cases_Bool, cond-false, ne_eqb}
use Rattle.std.proofs.lemmas.List.Splits.{slice_split-cons_yes, slice_split-cons_no, length-slice_split}
use Rattle.problem_lines.specs.Lines.{NumberedLine, without_remark, is_skipped, problems_among}
use Rattle.problem_lines.proofs.Among.{problems_among-none, problems_among-skipped, problems_among-kept}
use Rattle.problem_lines.proofs.Cutting.{lines_of_parts-cons}

of_part-few : (part : List ℕ) → length (lines_of_parts (part ∷ [])) ≤ 1
of_part-few [] = omega arith
of_part-few (byte ∷ bytes) =
    subst (λ l. length l ≤ 1) (sym (cond-false _ _ _ (ne_eqb (length (byte ∷ bytes)) 0 (λ zero. omega arith)))) (omega arith)

-- One more byte at the front makes one more line at most.
onto_first-few : (byte : ℕ) (parts : List (List ℕ)) → length (lines_of_parts (onto_first byte parts)) ≤ length (lines_of_parts parts) + 1
onto_first-few byte [] = omega (arith, of_part-few (byte ∷ []))
onto_first-few byte (part ∷ []) = omega (arith, of_part-few (byte ∷ part))
onto_first-few byte (part ∷ next ∷ parts) = omega arith

pub lines-few : (text : List ℕ) → length (lines text) ≤ length text
lines-few [] = omega arith
lines-few (byte ∷ bytes) =
    let p = λ (b : ℕ). b == 10 in
    let P : List (List ℕ) → Type 0 = λ parts. length (lines_of_parts parts) ≤ suc (length bytes) in
    let later = lines-few bytes in
    let Q : List (List ℕ) → Type 0 = λ all. length all ≤ suc (length bytes) in
    ⊎_elim
    (λ yes. subst P (sym (slice_split-cons_yes p byte bytes yes))
    (subst Q (sym (lines_of_parts-cons [] (slice_split p bytes) (omega (arith, length-slice_split p bytes)))) (omega (arith, later))))
    (λ fails. subst P (sym (slice_split-cons_no p byte bytes fails)) (omega (arith, later, onto_first-few byte (slice_split p bytes))))
    (cases_Bool (byte == 10))

-- No more lines hold a problem than there are.
pub problems_among-few : (first : ℕ) (all : List (List ℕ)) → length (problems_among first all) ≤ length all
problems_among-few first [] = subst (λ (l : List NumberedLine). length l ≤ 0) (sym (problems_among-none first)) (omega arith)
problems_among-few first (line ∷ others) =
    let P : List NumberedLine → Type 0 = λ listed. length listed ≤ suc (length others) in
    let later = problems_among-few (first + 1) others in
    ⊎_elim
    (λ yes. subst P (sym (problems_among-skipped first line others yes)) (omega (arith, later)))
    (λ fails. subst P (sym (problems_among-kept first line others fails)) (omega (arith, later)))
    (cases_Bool (is_skipped (without_remark line)))
