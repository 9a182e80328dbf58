use Rattle.std.proofs.Common.{Option, subst, sym}
use Rattle.std.proofs.lemmas.Result.{IfOk-weaker}
use Rattle.board_core.specs.Board.{Board}
use Rattle.shortest_text.specs.declared.text.ShortestText.{ShortestText}
use Rattle.cmd_bound.specs.declared.judgement.BoundJudgement.{BoundJudgement}
use Rattle.cmd_bound.specs.Answer.{IsJudgedFor, IsJudgementOn}
use Rattle.cmd_bound.specs.Told.{SaysOfMate}
use Rattle.cmd_bound.proofs.Judged.{told_of_mate}
use Rattle.cmd_bound.proofs.judging.judgement_of.Goals as goal

pub returns-in-Some : goal.returns-in-Some
returns-in-Some g c = λ words posed.
    let p : Board = c.problem_for-problem.result.position in
    let says = subst (λ (o : Option BoundJudgement). SaysOfMate p c.in-Found.rank.number c.in-Found.certificate o) c.in-Some.is c.in_ok-refused-in-Found.ensures in
    subst (λ (t : ShortestText). IsJudgementOn words t c.in-Some.refused) (sym c.in-Found.is) (record {
      board = p;
      judged_for = subst (λ (own : Board). IsJudgedFor words own p) c.problem.ensures.problem (c.problem_for-problem.ensures words posed);
      true_of = says c.in-Found.bound;
    })

pub returns-in_default : goal.returns-in_default
returns-in_default g c = λ words posed.
    let p : Board = c.problem_for-problem.result.position in
    let says = subst (λ (o : Option BoundJudgement). SaysOfMate p c.in-Found.rank.number c.in-Found.certificate o) c.in_default.is c.in_ok-refused-in-Found.ensures in
    IfOk-weaker c.bounded.result _ _ (λ judgement tells. subst (λ (t : ShortestText). IsJudgementOn words t judgement) (sym c.in-Found.is) (record {
      board = p;
      judged_for = subst (λ (own : Board). IsJudgedFor words own p) c.problem.ensures.problem (c.problem_for-problem.ensures words posed);
      true_of = told_of_mate c.valid_bound_is_accepted.ensures.shows p c.in-Found.rank.number c.in-Found.certificate c.in-Found.bound judgement says tells;
    })) c.bounded.ensures

pub returns-in-NoneWithin : goal.returns-in-NoneWithin
returns-in-NoneWithin g c = λ words posed.
    let p : Board = c.problem_for-problem-in-NoneWithin.result.position in
    IfOk-weaker c.bound_judged.result _ _ (λ judgement true_of. subst (λ (t : ShortestText). IsJudgementOn words t judgement) (sym c.in-NoneWithin.is) (record {
      board = p;
      judged_for = subst (λ (own : Board). IsJudgedFor words own p) c.problem-in-NoneWithin.ensures.problem (c.problem_for-problem-in-NoneWithin.ensures words posed);
      true_of = true_of;
    })) c.bound_judged.ensures
