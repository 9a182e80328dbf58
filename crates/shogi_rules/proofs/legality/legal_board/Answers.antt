use Rattle.std.proofs.Common.{arith}
use Rattle.shogi_rules.proofs.Firsts.{board_sooner}
use Rattle.shogi_rules.proofs.legality.legal_board.Goals as goal

pub returns-then-in_check-clause-first : goal.returns-then-in_check-clause-first
returns-then-in_check-clause-first c = (
  rw (c.move_piece-next.ensures.position, c.side.ensures) at (c.in_check.ensures.check.0 c.if-in_check.true),
  board_sooner c.args.position.now c.args.from.number c.args.to.number c.args.promote 9
      (λ _. c.owns.ensures.0 c.if-not-owns.false)
      (λ _. λ o. let t = c.owns-2.ensures.1 o in cc)
      (λ _. c.fits_there.ensures.0 c.if-not-fits_there.false)
      (λ _. c.is_clear.ensures.0 c.if-not-is_clear.false)
      (λ _. c.may_promote.ensures.0 c.if-not-may_promote.false)
      (λ below. absurd (omega arith)),
)
