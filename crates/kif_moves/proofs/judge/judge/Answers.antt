use Rattle.std.proofs.Common.{sym, ◌∙◌}
use Rattle.kif_moves.specs.Steps.{last_number}
use Rattle.kif_moves.proofs.Naming.{judged}
use Rattle.kif_moves.proofs.judge.judge.Goals as goal

pub returns-in-Some : goal.returns-in-Some
returns-in-Some c =
    let word = c.in-Some.ensures in
    judged c.args.place.attacker c.args.position.now (last_number c.args.place.last) (record { number = c.args.place.number; text = c.args.line.now }) c.judge_move.result
    (sym c.is_skipped.ensures ∙ c.if-is_skipped.false) (sym c.is_end.ensures ∙ c.if-is_end.false)
    (c.judge_move.ensures c.args.line.now (record { spoken = word.0; is_spoken = word.1; is_named = word.2; is_move = word.3 }))
