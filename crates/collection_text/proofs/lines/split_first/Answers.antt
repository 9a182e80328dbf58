-- The first line ends with the first line feed, or with the text where there is none.
use Rattle.std.proofs.Common.{◌≡◌, ◌∷◌, ◌-◌, ◌+◌, ℕ, List, [], length, take, drop, sym, ap, ◌∙◌, arith, length-drop, take_all}
use Rattle.collection_text.specs.Lines.{whole_lines}
use Rattle.collection_text.proofs.Cutting.{position-found, position-none, whole_lines-fed, whole_lines-alone}
use Rattle.collection_text.proofs.lines.split_first.Goals as goal

pub returns-in-Some-clause-lines : goal.returns-in-Some-clause-lines
returns-in-Some-clause-lines c =
    let text : List ℕ = c.args.text.now in
    let at : ℕ = c.in-Some.end in
    let rest : take (length text - (at + 1)) (drop (at + 1) text) ≡ drop (at + 1) text = take_all _ _ (omega (arith, length-drop (at + 1) text)) in
    whole_lines-fed text at (position-found 10 text at c.in-Some.ensures) c.in-Some.ensures.0.high
    ∙ ap (λ (l : List ℕ). take (at + 1) text ∷ whole_lines l) (sym rest)

pub returns-in-None-clause-lines : goal.returns-in-None-clause-lines
returns-in-None-clause-lines c =
    let text : List ℕ = c.args.text.now in
    let none : take (length text - length text) (drop (length text) text) ≡ [] = grind arith in
    whole_lines-alone text c.requires (position-none 10 text c.in-None.ensures) ∙ ap (λ (l : List ℕ). text ∷ whole_lines l) (sym none)
