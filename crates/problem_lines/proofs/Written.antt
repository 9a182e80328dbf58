-- A text is read in the lines that it is written in.
use Rattle.std.proofs.Common.{◌≡◌, ◌≢◌, ℕ, zero, suc, ◌-◌, ◌==◌, Bool, true, false, List, [], ◌∷◌, ◌++◌, length, take, map, get_or, refl, sym, ap, ◌∙◌, arith, append_assoc}
use Rattle.std.specs.List.{All, AllByRecursion, slice_split}
use Rattle.std.specs.Str.Lines.{lines, lines_of_parts, strip_carriage_return}
use Rattle.std.proofs.lemmas.Grind.{common_steps}
use Rattle.std.proofs.lemmas.Bool.{cond-true, cond-false, eq-eqb, ne_eqb}
use Rattle.std.proofs.lemmas.List.Splits.{slice_split_at, slice_split_none, length-slice_split}
use Rattle.problem_lines.specs.Written.{Ended, IsEnded, HasNoFeed, text_of, line_end, last_line}
use Rattle.problem_lines.proofs.Cutting.{lines_of_parts-cons}

-- Bytes without a line feed all fail the test for one.
fed_nowhere : (bytes : List ℕ) → HasNoFeed bytes → All (λ b. (b == 10) ≡ false) bytes
fed_nowhere [] none k d low = absurd (omega arith)
fed_nowhere (byte ∷ bytes) none zero d low = ne_eqb byte 10 none.0
fed_nowhere (byte ∷ bytes) none (suc k) d low = fed_nowhere bytes none.1 k d (omega arith)

-- A line before a line feed is what is left of it without a carriage return at its end.
lines-front : (front rest : List ℕ) → HasNoFeed front → lines (front ++ 10 ∷ rest) ≡ strip_carriage_return front ∷ lines rest
lines-front front rest none =
    let p : ℕ → Bool = λ b. b == 10 in
    ap lines_of_parts (slice_split_at p front 10 rest (fed_nowhere front none) refl)
    ∙ lines_of_parts-cons front (slice_split p rest) (omega (arith, length-slice_split p rest))

HasNoFeed-push : (bytes : List ℕ) → HasNoFeed bytes → HasNoFeed (bytes ++ 13 ∷ [])
HasNoFeed-push [] none = (λ e. absurd (omega arith), tt)
HasNoFeed-push (byte ∷ bytes) none = (none.0, HasNoFeed-push bytes none.1)

strip-push : (line : List ℕ) → strip_carriage_return (line ++ 13 ∷ []) ≡ line
strip-push line =
    let whole : List ℕ = line ++ 13 ∷ [] in
    let last : get_or whole (length whole - 1) 0 ≡ 13 = grind (arith, common_steps) in
    let front : take (length whole - 1) whole ≡ line = grind (arith, common_steps) in
    cond-true _ _ _ (eq-eqb _ 13 last) ∙ front

-- The first line, by its end.
lines-ended : (line : List ℕ) (has_return : Bool) (rest : List ℕ) → HasNoFeed line → (has_return ≡ false → get_or line (length line - 1) 0 ≢ 13)
    → lines (line ++ (line_end has_return ++ rest)) ≡ line ∷ lines rest
lines-ended line true rest none own =
    ap lines (sym (append_assoc line (13 ∷ []) (10 ∷ rest))) ∙ lines-front (line ++ 13 ∷ []) rest (HasNoFeed-push line none) ∙ ap (λ l. l ∷ lines rest) (strip-push line)
lines-ended line false rest none own =
    lines-front line rest none ∙ ap (λ l. l ∷ lines rest) (cond-false _ _ _ (ne_eqb _ 13 (own refl)))

-- What stands behind the last end.
lines-last : (last : List ℕ) → HasNoFeed last → lines last ≡ last_line last
lines-last [] none = refl
lines-last (byte ∷ bytes) none =
    ap lines_of_parts (slice_split_none (λ b. b == 10) (byte ∷ bytes) (fed_nowhere (byte ∷ bytes) none))
    ∙ cond-false _ _ _ (ne_eqb (length (byte ∷ bytes)) 0 (λ none. omega arith))

-- The lines of a text are those in which it is written.
pub lines-text_of : (ended : List Ended) (last : List ℕ) → AllByRecursion IsEnded ended → HasNoFeed last
    → lines (text_of ended last) ≡ map (λ one. one.line) ended ++ last_line last
lines-text_of [] last are none = lines-last last none
lines-text_of (one ∷ others) last are none =
    lines-ended one.line one.has_return (text_of others last) are.0.feedless are.0.own ∙ ap (λ l. one.line ∷ l) (lines-text_of others last are.1 none)
