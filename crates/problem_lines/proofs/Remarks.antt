-- The remark of a line: it begins with the first tab, and ends with the line.
use Rattle.std.proofs.Common.{◌≡◌, ℕ, ◌==◌, List, [], ◌∷◌, ◌++◌, length, drop, not, refl, sym, subst, ap, ◌∙◌, ⊎_elim}
use Rattle.std.proofs.lemmas.Bool.{cases_Bool, cond-true, cond-false, eqb-true}
use Rattle.std.proofs.lemmas.List.Sums.{take_while-cons}
use Rattle.problem_lines.specs.Lines.{remark_of, without_remark}
use Rattle.problem_lines.specs.Written.{IsRemark}

pub remark-tabbed : (line : List ℕ) → IsRemark (remark_of line)
remark-tabbed [] = tt
remark-tabbed (byte ∷ bytes) =
    let step = take_while-cons (λ b. not (b == 9)) byte bytes in
    let P : List ℕ → Type 0 = λ front. IsRemark (drop (length front) (byte ∷ bytes)) in
    ⊎_elim
    (λ yes. subst P (sym (step ∙ cond-false _ _ _ (ap not yes))) (eqb-true byte 9 yes))
    (λ fails. subst P (sym (step ∙ cond-true _ _ _ (ap not fails))) (remark-tabbed bytes))
    (cases_Bool (byte == 9))

-- What is before it and the remark are the line.
pub remark-rest : (line : List ℕ) → without_remark line ++ remark_of line ≡ line
remark-rest [] = refl
remark-rest (byte ∷ bytes) =
    let step = take_while-cons (λ b. not (b == 9)) byte bytes in
    let P : List ℕ → Type 0 = λ front. front ++ drop (length front) (byte ∷ bytes) ≡ byte ∷ bytes in
    ⊎_elim
    (λ yes. subst P (sym (step ∙ cond-false _ _ _ (ap not yes))) refl)
    (λ fails. subst P (sym (step ∙ cond-true _ _ _ (ap not fails))) (ap (λ (l : List ℕ). byte ∷ l) (remark-rest bytes)))
    (cases_Bool (byte == 9))
