use Rattle.std.proofs.Common.{List, sym, subst}
use Rattle.board_core.specs.declared.moves.Move.{Move}
use Rattle.kif_moves.specs.Playing.{AreInTurn, after_all}
use Rattle.kif_record.specs.Mated.{IsMated}
use Rattle.cmd_record.proofs.Line.{line_in_turn}
use Rattle.cmd_record.proofs.judging.recorded.Goals as goal

pub returns-in_ok-moves-in-Accepted-clause-text : goal.returns-in_ok-moves-in-Accepted-clause-text
returns-in_ok-moves-in-Accepted-clause-text c =
    let p = c.problem-problem.result.now.position in
    subst (λ (moves : List Move). AreInTurn p.side p moves × IsMated p.side (after_all p moves)) (sym c.new.ensures)
    (line_in_turn p.side p c.in_ok-moves-in-Accepted.moves.items c.in_ok-moves-in-Accepted.ensures.mates)
