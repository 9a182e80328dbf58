use Rattle.std.proofs.Common.{refl}
use Rattle.std.proofs.lemmas.Bool.{both_ways}
use Rattle.legal_moves.proofs.guard.Guard.has_board_move.Goals as goal

pub loop-from-init : goal.loop-from-init
loop-from-init c = λ from low none m. absurd (both_ways _ none (c.movers-left.ensures.all from m.to m.promote low m.on_board m.legal))

pub returns-then-has_move_from : goal.returns-then-has_move_from
returns-then-has_move_from c = (
  (λ _.
      let m = c.has_move_from.ensures.0 c.if-has_move_from.true in
      record { from = c.in-Some.from.number; to = m.to; promote = m.promote; from_on_board = c.in-Some.from.on_board; to_on_board = m.on_board; stands = m.legal }),
  (λ _. refl),
)

pub returns : goal.returns
returns c = (
  (λ h. absurd (cc)),
  (λ m. absurd (c.loop-from.invariant m.from m.from_on_board (c.in_default.ensures.none m.from)
      (record { to = m.to; promote = m.promote; on_board = m.to_on_board; legal = m.stands }))),
)
