-- Each fault is told as it is seen.
use Rattle.std.proofs.Common.{Err}
use Rattle.usi_session.specs.Fields.{fields_of}
use Rattle.usi_session.specs.Reading.{sfen_refusal, moves_refusal}
use Rattle.usi_session.proofs.Refused.{sfen-refused, moves-refused}
use Rattle.usi_session.proofs.Somes.{on-err}
use Rattle.usi_session.proofs.session.position_of.Goals as goal

pub returns-in-Err-clause-told : goal.returns-in-Err-clause-told
returns-in-Err-clause-told c =
    (sfen_refusal c.in-Err.fault, sfen-refused c.args.sfen.now (fields_of c.args.moves.now) c.in-Err.fault c.in-Err.ensures, c.in_ok-sfen_refusal-in-Err.ensures)

pub returns-in_ok-moves_refusal-in-Err-problem_after-clause-told :
    goal.returns-in_ok-moves_refusal-in-Err-problem_after-clause-told
returns-in_ok-moves_refusal-in-Err-problem_after-clause-told c = (
  moves_refusal c.in-Err-problem_after.fault,
  moves-refused c.args.sfen.now (fields_of c.args.moves.now) c.in-Ok.first.position c.in-Err-problem_after.fault c.in-Ok.ensures c.in-Err-problem_after.ensures,
  c.in_ok-moves_refusal-in-Err-problem_after.ensures,
)

pub returns-in_err-sfen_refusal-in-Err-clause-some :
    goal.returns-in_err-sfen_refusal-in-Err-clause-some
returns-in_err-sfen_refusal-in-Err-clause-some c =
    on-err c.from_residual.result (Err (sfen_refusal c.in-Err.fault), sfen-refused c.args.sfen.now (fields_of c.args.moves.now) c.in-Err.fault c.in-Err.ensures)

pub returns-in_err-moves_refusal-in-Err-problem_after-clause-some :
    goal.returns-in_err-moves_refusal-in-Err-problem_after-clause-some
returns-in_err-moves_refusal-in-Err-problem_after-clause-some c =
    on-err c.from_residual-in_err-moves_refusal-in-Err-problem_after.result (
      Err (moves_refusal c.in-Err-problem_after.fault),
      moves-refused c.args.sfen.now (fields_of c.args.moves.now) c.in-Ok.first.position c.in-Err-problem_after.fault c.in-Ok.ensures c.in-Err-problem_after.ensures,
    )
