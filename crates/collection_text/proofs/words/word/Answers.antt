-- The first word is what stands before its end, or all where it has none.
use Rattle.std.proofs.Common.{ℕ, List, take, sym, ap, ◌∙◌, arith, take_all}
use Rattle.collection_text.specs.Words.{ends_word}
use Rattle.collection_text.proofs.Cutting.{position-at, position-past}
use Rattle.collection_text.proofs.words.word.Goals as goal

pub returns-in-Some : goal.returns-in-Some
returns-in-Some c =
    let text : List ℕ = c.args.text.now in
    ap (λ (n : ℕ). take n text) (sym (position-at ends_word text c.in-Some.end (sym c.word_end.ensures ∙ c.in-Some.is)))

pub returns-in-None : goal.returns-in-None
returns-in-None c =
    let text : List ℕ = c.args.text.now in
    sym (take_all _ text (omega (arith, position-past ends_word text (sym c.word_end.ensures ∙ c.in-None.is))))
