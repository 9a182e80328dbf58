use Rattle.std.proofs.Common.{true, false}
use Rattle.std.proofs.lemmas.Bool.{both_ways}
use Rattle.legal_moves.proofs.Stepping.{no_legal}
use Rattle.legal_moves.proofs.guard.Guard.board_moves.Goals as goal

pub returns-in-None-clause-plain : goal.returns-in-None-clause-plain
returns-in-None-clause-plain c = λ to. (
  (λ has. absurd (both_ways _ (c.empty.ensures to) has)),
  (λ both. absurd (no_legal c.legal_laws.ensures.board c.args.position.now c.args.from.number to false c.in-None.ensures.none both.1)),
)

pub returns-in-None-clause-promoted : goal.returns-in-None-clause-promoted
returns-in-None-clause-promoted c = λ to. (
  (λ has. absurd (both_ways _ (c.empty-in-None.ensures to) has)),
  (λ both. absurd (no_legal c.legal_laws.ensures.board c.args.position.now c.args.from.number to true c.in-None.ensures.none both.1)),
)
