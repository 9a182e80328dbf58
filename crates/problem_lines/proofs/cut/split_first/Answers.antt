-- The first line ends at the first line feed, or with the text where there is none.
use Rattle.std.proofs.Common.{◌≡◌, ◌∷◌, ◌-◌, ◌+◌, ℕ, List, [], length, take, drop, sym, ap, ◌∙◌, arith, length-drop, take_all}
use Rattle.std.specs.Str.Lines.{lines}
use Rattle.problem_lines.proofs.Cutting.{position-found, position-none, lines-fed, lines-alone}
use Rattle.problem_lines.proofs.cut.split_first.Goals as goal

pub returns-in-Some-clause-lines : goal.returns-in-Some-clause-lines
returns-in-Some-clause-lines c =
    let text : List ℕ = c.args.text.now in
    let at : ℕ = c.in-Some.end in
    let cut = lines-fed text at (position-found 10 text at c.in-Some.ensures) c.in-Some.ensures.0.high in
    let rest : take (length text - (at + 1)) (drop (at + 1) text) ≡ drop (at + 1) text = take_all _ _ (omega (arith, length-drop (at + 1) text)) in
    cut ∙ (λ i. sym c.without_return.ensures i ∷ lines (sym rest i))

pub returns-in-None-clause-lines : goal.returns-in-None-clause-lines
returns-in-None-clause-lines c =
    let text : List ℕ = c.args.text.now in
    let none : take (length text - length text) (drop (length text) text) ≡ [] = grind arith in
    lines-alone text c.requires (position-none 10 text c.in-None.ensures) ∙ ap (λ (rest : List ℕ). text ∷ lines rest) (sym none)
