-- Where a byte doesn't stand: a tab before the first, and a line feed in a line.
use Rattle.std.proofs.Common.{◌≡◌, ◌≢◌, ℕ, zero, suc, ◌-◌, ◌==◌, false, List, [], ◌∷◌, length, take, drop, not, get_or, sym, subst, ap, ◌∙◌, arith, ⊎_elim}
use Rattle.std.specs.List.{AllByRecursion, before_first, slice_split, onto_first}
use Rattle.std.specs.Str.Lines.{lines, lines_of_parts, strip_carriage_return}
use Rattle.std.proofs.lemmas.Bool.{cases_Bool, cond-true, cond-false, eq-eqb, ne_eqb, both_ways}
use Rattle.std.proofs.lemmas.List.Sums.{take_while-cons}
use Rattle.std.proofs.lemmas.List.Splits.{slice_split-cons_yes, slice_split-cons_no}
use Rattle.problem_lines.specs.Written.{HasNoFeed}

-- What holds of each element holds of each of the first, and of each of the last.
pub take-all : (P : ℕ → Type 0) (n : ℕ) (bytes : List ℕ) → AllByRecursion P bytes → AllByRecursion P (take n bytes)
take-all P zero bytes all = tt
take-all P (suc n) [] all = tt
take-all P (suc n) (byte ∷ bytes) all = (all.0, take-all P n bytes all.1)

pub drop-all : (P : ℕ → Type 0) (n : ℕ) (bytes : List ℕ) → AllByRecursion P bytes → AllByRecursion P (drop n bytes)
drop-all P zero bytes all = all
drop-all P (suc n) [] all = tt
drop-all P (suc n) (byte ∷ bytes) all = drop-all P n bytes all.1

differ : (byte other : ℕ) → (byte == other) ≡ false → byte ≢ other
differ byte other fails same = both_ways _ fails (eq-eqb byte other same)

-- A byte doesn't stand before the first of its kind.
pub before_first-lacks : (byte : ℕ) (bytes : List ℕ) → AllByRecursion (λ b. b ≢ byte) (before_first (λ b. b == byte) bytes)
before_first-lacks byte [] = tt
before_first-lacks byte (first ∷ others) =
    let P : List ℕ → Type 0 = AllByRecursion (λ b. b ≢ byte) in
    let step = take_while-cons (λ b. not (b == byte)) first others in
    ⊎_elim
    (λ yes. subst P (sym (step ∙ cond-false _ _ _ (ap not yes))) tt)
    (λ fails. subst P (sym (step ∙ cond-true _ _ _ (ap not fails))) (differ first byte fails, before_first-lacks byte others))
    (cases_Bool (first == byte))

onto_first-feedless : (byte : ℕ) (parts : List (List ℕ)) → byte ≢ 10 → AllByRecursion HasNoFeed parts → AllByRecursion HasNoFeed (onto_first byte parts)
onto_first-feedless byte [] other none = ((other, tt), tt)
onto_first-feedless byte (part ∷ parts) other none = ((other, none.0), none.1)

-- Parts between line feeds have none.
parts-feedless : (text : List ℕ) → AllByRecursion HasNoFeed (slice_split (λ b. b == 10) text)
parts-feedless [] = (tt, tt)
parts-feedless (byte ∷ bytes) =
    let p = λ (b : ℕ). b == 10 in
    let later = parts-feedless bytes in
    ⊎_elim
    (λ yes. subst (AllByRecursion HasNoFeed) (sym (slice_split-cons_yes p byte bytes yes)) (tt, later))
    (λ fails. subst (AllByRecursion HasNoFeed) (sym (slice_split-cons_no p byte bytes fails)) (onto_first-feedless byte _ (differ byte 10 fails) later))
    (cases_Bool (byte == 10))

strip-feedless : (line : List ℕ) → HasNoFeed line → HasNoFeed (strip_carriage_return line)
strip-feedless line none =
    ⊎_elim
    (λ yes. subst HasNoFeed (sym (cond-true _ _ _ yes)) (take-all (λ b. b ≢ 10) (length line - 1) line none))
    (λ fails. subst HasNoFeed (sym (cond-false _ _ _ fails)) none)
    (cases_Bool (get_or line (length line - 1) 0 == 13))

of_parts-feedless : (parts : List (List ℕ)) → AllByRecursion HasNoFeed parts → AllByRecursion HasNoFeed (lines_of_parts parts)
of_parts-feedless [] none = tt
of_parts-feedless ([] ∷ []) none = tt
of_parts-feedless ((byte ∷ bytes) ∷ []) none =
    subst (AllByRecursion HasNoFeed) (sym (cond-false _ _ _ (ne_eqb (length (byte ∷ bytes)) 0 (λ zero. omega arith)))) none
of_parts-feedless (part ∷ next ∷ parts) none = (strip-feedless part none.0, of_parts-feedless (next ∷ parts) none.1)

-- Lines have no line feed.
pub lines-feedless : (text : List ℕ) → AllByRecursion HasNoFeed (lines text)
lines-feedless text = of_parts-feedless _ (parts-feedless text)
