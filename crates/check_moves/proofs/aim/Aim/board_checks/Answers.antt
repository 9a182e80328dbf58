use Rattle.std.proofs.Common.{true, false, sym, ◌∙◌}
use Rattle.std.proofs.lemmas.Bool.{true≢false}
use Rattle.check_moves.proofs.Meaning.{none_checks}
use Rattle.check_moves.proofs.aim.Aim.board_checks.Goals as goal

pub returns-in-None-clause-plain : goal.returns-in-None-clause-plain
returns-in-None-clause-plain c = λ to. (
  λ has. absurd (true≢false (sym has ∙ c.empty.ensures to.number)),
  λ check. absurd (none_checks c.args.position.now c.args.from to false (sym c.piece_at.ensures ∙ c.in-None.is) check),
)

pub returns-in-None-clause-promoted : goal.returns-in-None-clause-promoted
returns-in-None-clause-promoted c = λ to. (
  λ has. absurd (true≢false (sym has ∙ c.empty-in-None.ensures to.number)),
  λ check. absurd (none_checks c.args.position.now c.args.from to true (sym c.piece_at.ensures ∙ c.in-None.is) check),
)
