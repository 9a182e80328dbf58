-- Which lines hold a problem, a line at a time.
use Rattle.std.proofs.Common.{◌≡◌, ℕ, ◌+◌, true, false, List, [], ◌∷◌, not, map, refl, ap}
use Rattle.std.proofs.lemmas.Bool.{cond-true, cond-false}
use Rattle.problem_lines.specs.Lines.{without_remark, is_skipped, numbered_line, problems_among}

-- None of no lines.
pub problems_among-none : (first : ℕ) → problems_among first [] ≡ []
unfolding problems_among
problems_among-none first = refl

-- A line that is skipped only counts.
pub problems_among-skipped : (first : ℕ) (line : List ℕ) (others : List (List ℕ)) → is_skipped (without_remark line) ≡ true
    → problems_among first (line ∷ others) ≡ problems_among (first + 1) others
unfolding problems_among
problems_among-skipped first line others skipped = ap (map numbered_line) (cond-false _ _ _ (ap not skipped))

-- Any other is the first that is listed.
pub problems_among-kept : (first : ℕ) (line : List ℕ) (others : List (List ℕ)) → is_skipped (without_remark line) ≡ false
    → problems_among first (line ∷ others) ≡ numbered_line (first, line) ∷ problems_among (first + 1) others
unfolding problems_among
problems_among-kept first line others kept = ap (map numbered_line) (cond-true _ _ _ (ap not kept))
