use Rattle.std.proofs.Common.{◌≡◌, sym, ap, ◌∙◌}
use Rattle.std.proofs.lemmas.Bool.{false≢true}
use Rattle.board_core.specs.Board.{Board}
use Rattle.cert_text.proofs.parts.position_of_text.Goals as goal

pub returns-then-not-is_same-clause-none : goal.returns-then-not-is_same-clause-none
returns-then-not-is_same-clause-none c = λ p kept problem side e.
    let text = rw c.in-Some.is at c.in_ok-problem.ensures.found in
    let own = rw c.in-Some.is at c.in_ok-problem.ensures.kept in
    let same : c.in-Some.problem.position ≡ p = c.sfen_laws.ensures.apart c.in-Some.problem.position p own kept (sym text ∙ e) in
    false≢true (sym c.if-not-is_same.true ∙ c.is_same.ensures.1 (c.attacker.ensures ∙ (ap (λ (b : Board). b.side) same ∙ side)))
