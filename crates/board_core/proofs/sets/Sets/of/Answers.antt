use Rattle.std.proofs.Common.{None, if◌then◌else◌, ap, arith}
use Rattle.std.proofs.lemmas.Bool.{le-ltb}
use Rattle.board_core.specs.Board.{piece_at}
use Rattle.board_core.proofs.Squares.{same_squares, one_more, all_looked}
use Rattle.board_core.proofs.sets.Sets.of.Goals as goal

pub loop-number-preserved : goal.loop-number-preserved
loop-number-preserved c = same_squares c.filled-sets.result _ _ (one_more c.args.cells.now c.loop-number.number c.at.result c.at.ensures)
    (c.filled-sets.ensures _ c.loop-number.invariant
    (ap (λ t. if t then piece_at c.args.cells.now c.loop-number.number else None) (le-ltb c.loop-number.number c.loop-number.number (omega arith))))

pub returns : goal.returns
returns c = same_squares c.loop-number.sets _ _ (all_looked c.args.cells.now c.loop-number.number (omega (arith, c.told-cells))) c.loop-number.invariant
