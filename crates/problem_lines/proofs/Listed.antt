-- What is listed: numbers rise, and none is skipped.
use Rattle.std.proofs.Common.{◌≡◌, ◌≢◌, ℕ, zero, suc, ◌+◌, ◌<◌, ◌≤◌, false, List, [], ◌∷◌, ◌++◌, filter, map, not, get_or, sym, subst, ap, ap₂, ◌∙◌, arith, ⊎_elim}
use Rattle.std.specs.List.{AllByRecursion}
use Rattle.std.specs.List.Sorted.{IsStrictlyIncreasing}
use Rattle.std.proofs.lemmas.Bool.{cases_Bool, cond-true, cond-false}
use Rattle.problem_lines.specs.Lines.{NumberedLine, without_remark, is_problem, is_skipped, numbered_line, problems_among}
use Rattle.problem_lines.specs.Written.{HasNoFeed, HoldsProblem}
use Rattle.problem_lines.proofs.Lacking.{take-all, drop-all, before_first-lacks}
use Rattle.problem_lines.proofs.Remarks.{remark-tabbed, remark-rest}
use Rattle.problem_lines.proofs.Among.{problems_among-none, problems_among-skipped, problems_among-kept}

-- The numbers rise, from this one on.
abbrev pub RisesFrom : ℕ → List NumberedLine → Type 0
RisesFrom from [] = Unit {0}
RisesFrom from (line ∷ others) = (from ≤ line.number) × RisesFrom (line.number + 1) others

RisesFrom-lower : (from : ℕ) (listed : List NumberedLine) → RisesFrom (from + 1) listed → RisesFrom from listed
RisesFrom-lower from [] rises = tt
RisesFrom-lower from (line ∷ others) rises = (omega (arith, rises.0), rises.1)

pub problems_among-rise : (first : ℕ) (all : List (List ℕ)) → RisesFrom first (problems_among first all)
problems_among-rise first [] = subst (RisesFrom first) (sym (problems_among-none first)) tt
problems_among-rise first (line ∷ others) =
    let later = problems_among-rise (first + 1) others in
    ⊎_elim
    (λ yes. subst (RisesFrom first) (sym (problems_among-skipped first line others yes)) (RisesFrom-lower first _ later))
    (λ fails. subst (RisesFrom first) (sym (problems_among-kept first line others fails)) (omega arith, later))
    (cases_Bool (is_skipped (without_remark line)))

pub increasing : (from : ℕ) (listed : List NumberedLine) → RisesFrom from listed → IsStrictlyIncreasing (map (λ line. line.number) listed)
increasing from [] rises k low = absurd (omega arith)
increasing from (line ∷ []) rises k low = absurd (omega arith)
increasing from (line ∷ next ∷ others) rises zero low = omega (arith, rises.1.0)
increasing from (line ∷ next ∷ others) rises (suc k) low =
    let numbers : List ℕ = map (λ l. l.number) (line ∷ next ∷ others) in
    let P : ℕ → Type 0 = λ n. get_or numbers (suc k) 0 < get_or numbers n 0 in
    let same : suc (k + 1) ≡ suc k + 1 = omega arith in
    subst P same (increasing (line.number + 1) (next ∷ others) rises.1 k (omega arith))

-- What is listed holds a problem, where no line has a line feed.
pub problems_among-hold : (first : ℕ) (all : List (List ℕ)) → AllByRecursion HasNoFeed all → AllByRecursion HoldsProblem (problems_among first all)
problems_among-hold first [] none = subst (AllByRecursion HoldsProblem) (sym (problems_among-none first)) tt
problems_among-hold first (line ∷ others) none =
    let later = problems_among-hold (first + 1) others none.1 in
    let holds : is_skipped (without_remark line) ≡ false → HoldsProblem (numbered_line (first, line)) =
    λ kept. record {
      kept = kept;
      feedless = take-all (λ b. b ≢ 10) _ line none.0;
      tabless = before_first-lacks 9 line;
      feedless_remark = drop-all (λ b. b ≢ 10) _ line none.0;
      tabbed = remark-tabbed line;
    } in
    ⊎_elim
    (λ yes. subst (AllByRecursion HoldsProblem) (sym (problems_among-skipped first line others yes)) later)
    (λ fails. subst (AllByRecursion HoldsProblem) (sym (problems_among-kept first line others fails)) (holds fails, later))
    (cases_Bool (is_skipped (without_remark line)))

-- The problem and the remark of what is listed are the whole line.
pub problems_among-whole : (first : ℕ) (all : List (List ℕ)) → map (λ line. line.content ++ line.remark) (problems_among first all) ≡ filter is_problem all
problems_among-whole first [] = ap (map (λ line. line.content ++ line.remark)) (problems_among-none first)
problems_among-whole first (line ∷ others) =
    let whole : List NumberedLine → List (List ℕ) = map (λ l. l.content ++ l.remark) in
    let later = problems_among-whole (first + 1) others in
    ⊎_elim
    (λ yes. ap whole (problems_among-skipped first line others yes) ∙ later ∙ sym (cond-false _ _ _ (ap not yes)))
    (λ fails. ap whole (problems_among-kept first line others fails)
    ∙ ap₂ (λ (l : List ℕ) (ls : List (List ℕ)). l ∷ ls) (remark-rest line) later ∙ sym (cond-true _ _ _ (ap not fails)))
    (cases_Bool (is_skipped (without_remark line)))
