-- A line that tells no verdict is passed by; the first other one is given; and a text that is read
-- whole has none.
use Rattle.std.proofs.Common.{◌≡◌, ◌∷◌, [], ℕ, List, length, ap, ap₂, sym, ◌∙◌}
use Rattle.std.proofs.lemmas.Bool.{eqb-true}
use Rattle.collection_text.specs.Lines.{whole_lines}
use Rattle.collection_text.specs.Told.{ToldView, told_among}
use Rattle.collection_text.proofs.Cutting.{whole_lines-empty}
use Rattle.collection_text.proofs.Telling.{told_among-none, told_among-passed, told_among-told}
use Rattle.collection_text.proofs.told.ToldLines.next.Goals as goal

pub returns-in-Some : goal.returns-in-Some
returns-in-Some c =
    let line : List ℕ = c.split_first.result.0.now in
    let behind : List ℕ = c.split_first.result.1.now in
    let given : List ℕ → List ℕ → List ToldView = λ number certificate.
    record { number = number; claim = c.in-Some.claim; certificate = certificate } ∷ told_among (whole_lines behind) in
    sym c.self.view_is ∙ sym c.loop-self.invariant ∙ ap told_among c.split_first.ensures.lines
    ∙ told_among-told line (whole_lines behind) c.in-Some.claim (sym c.claim_told.ensures ∙ c.in-Some.is)
    ∙ ap₂ given (sym c.word.ensures) (sym c.certificate_behind.ensures)

pub loop-self-preserved : goal.loop-self-preserved
loop-self-preserved c =
    let line : List ℕ = c.split_first.result.0.now in
    let behind : List ℕ = c.split_first.result.1.now in
    sym (told_among-passed line (whole_lines behind) (sym c.claim_told.ensures ∙ c.in_default.is))
    ∙ ap told_among (sym c.split_first.ensures.lines) ∙ c.loop-self.invariant

pub returns : goal.returns
returns c =
    let rest : List ℕ = c.loop-self.self-inside.rest.now in
    let none : told_among (whole_lines rest) ≡ [] =
    ap told_among (whole_lines-empty rest (eqb-true (length rest) 0 (sym c.is_empty.ensures ∙ c.loop-self-test.false))) ∙ told_among-none in
    (sym c.self.view_is ∙ sym c.loop-self.invariant ∙ none, none)
