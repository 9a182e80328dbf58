-- A line is cut at its first tab, or at its end where there is none.
use Rattle.std.proofs.Common.{◌≡◌, ◌-◌, ℕ, List, length, take, drop, sym, ap, ◌∙◌, arith, take_all, length-drop, length-take}
use Rattle.problem_lines.proofs.Cutting.{position-found, position-none}
use Rattle.problem_lines.proofs.cut.split_remark.Goals as goal

pub returns-in-Some-clause-content : goal.returns-in-Some-clause-content
returns-in-Some-clause-content c =
    ap (λ (n : ℕ). take n c.args.line.now)
    (sym (position-found 9 c.args.line.now c.in-Some.tab c.in-Some.ensures))

pub returns-in-None-clause-content : goal.returns-in-None-clause-content
returns-in-None-clause-content c =
    let whole = position-none 9 c.args.line.now c.in-None.ensures in
    sym (take_all _ c.args.line.now (omega arith))

-- The remark is all that stands behind: from the tab on,
pub returns-in-Some-clause-remark : goal.returns-in-Some-clause-remark
returns-in-Some-clause-remark c =
    let line : List ℕ = c.args.line.now in
    let at : ℕ = c.in-Some.tab in
    let found = position-found 9 line at c.in-Some.ensures in
    let rest : take (length line - at) (drop at line) ≡ drop at line = take_all _ _ (omega (arith, length-drop at line)) in
    let whole : length (take at line) ≡ at = omega (arith, length-take at line, c.in-Some.ensures.0.high) in
    rest ∙ ap (λ (n : ℕ). drop n line) (sym (ap (λ (n : ℕ). length (take n line)) found ∙ whole))

-- or nothing.
pub returns-in-None-clause-remark : goal.returns-in-None-clause-remark
returns-in-None-clause-remark c =
    let line : List ℕ = c.args.line.now in
    let none = position-none 9 line c.in-None.ensures in
    let rest : take (length line - length line) (drop (length line) line) ≡ drop (length line) line = take_all _ _ (omega (arith, length-drop (length line) line)) in
    rest ∙ ap (λ (n : ℕ). drop n line) (sym (ap (λ (n : ℕ). length (take n line)) none ∙ ap length (take_all (length line) line (omega arith))))
