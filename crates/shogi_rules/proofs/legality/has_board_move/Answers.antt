use Rattle.std.proofs.Common.{arith, inl, inr, ℕ, Bool, true, false}
use Rattle.board_core.specs.Board.{Board}
use Rattle.shogi_rules.specs.declared.illegal.Illegal.{Illegal}
use Rattle.shogi_rules.specs.Rules.{RefusesBoard}
use Rattle.shogi_rules.specs.Scan.{GoesTo}
use Rattle.shogi_rules.proofs.legality.has_board_move.Goals as goal

goes_by : (b : Board) (from to : ℕ) (promote : Bool) → ((why : Illegal) → ¬ RefusesBoard b from to promote why) → GoesTo b from to
goes_by b from to false stands = record { either = inl stands }
goes_by b from to true stands = record { either = inr stands }

pub returns : goal.returns
returns c = (
  (λ f. absurd (cc)),
  (λ m. absurd (c.loop-number.invariant m.from (omega (arith, m.from_on_board))
      (record { to = m.to; on_board = m.to_on_board; goes = goes_by _ m.from m.to m.promote m.stands }))),
)
