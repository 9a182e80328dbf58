use Rattle.std.proofs.Common.{◌≡◌, ◌∙◌, ℕ, is_some, sym, ap, subst, arith}
use Rattle.bit_boards.specs.Mask.{count}
use Rattle.board_core.specs.Board.{Board, piece_at}
use Rattle.board_core.specs.Order.{Lists}
use Rattle.shogi_rules.specs.Tsume.{IsEvasion}
use Rattle.start_def.specs.Answers.{answers_of}
use Rattle.start_numbers.proofs.Answering.{empty_where_none, none_where_empty, no_answer_where_one, one_where_no_answer, started}
use Rattle.start_numbers.proofs.starting.start_of_check.Goals as goal

pub returns-clause-start : goal.returns-clause-start
returns-clause-start c = λ evasions attacking defending lists reach_a reach_d.
    let answers : c.count_answers-answers.result ≡ answers_of evasions =
    c.count_answers-answers.ensures.count evasions
    (subst (λ (b : Board). Lists (IsEvasion c.args.problem.now.position.side b) evasions) (sym c.apply.ensures.position) lists) in
    let attackers : c.reaching.result ≡ count attacking =
    c.reaching.ensures.count attacking (rw (c.attacker-attacker.ensures, c.destination-to.ensures) reach_a) in
    let defenders : c.reaching-defending.result ≡ count defending =
    c.reaching-defending.ensures.count defending (rw (c.other.ensures, c.attacker-attacker.ensures, c.destination-to.ensures) reach_d) in
    started _ _ _ _ _ _ _ _ _ _ c.proof_after_check.ensures.proof c.disproof_after_check.ensures.disproof answers
    (omega (arith, attackers, c.drops_of.ensures)) defenders
    (c.is_some-captures.ensures ∙ ap is_some (c.piece_at.ensures ∙ ap (λ (n : ℕ). piece_at c.args.position.now.cells n) c.destination-to.ensures))

pub returns-clause-mate : goal.returns-clause-mate
returns-clause-mate c = λ evasions lists.
    let answers : c.count_answers-answers.result ≡ answers_of evasions =
    c.count_answers-answers.ensures.count evasions
    (subst (λ (b : Board). Lists (IsEvasion c.args.problem.now.position.side b) evasions) (sym c.apply.ensures.position) lists) in (
      (λ one. empty_where_none evasions (sym answers ∙ no_answer_where_one _ _ _ (sym c.proof_after_check.ensures.proof ∙ one))),
      (λ none. c.proof_after_check.ensures.proof ∙ one_where_no_answer _ _ _ (answers ∙ none_where_empty evasions none)),
    )
