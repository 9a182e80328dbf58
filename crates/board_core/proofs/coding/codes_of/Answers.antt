use Rattle.std.proofs.Common.{arith, refl, length-set, ◌∙◌, sym}
use Rattle.board_core.specs.Code.{cells_of}
use Rattle.board_core.proofs.Packed.{as_many_cells, read_cell, same_cells}
use Rattle.board_core.proofs.Changed.{codes_more}
use Rattle.board_core.proofs.coding.codes_of.Goals as goal

pub loop-square-preserved : goal.loop-square-preserved
loop-square-preserved c = (
  length-set _ _ _ ∙ c.loop-square.invariant.0,
  codes_more c.loop-square.codes c.args.cells.now c.loop-square.square c.of.result _ c.of.ensures (omega (arith, c.loop-square.invariant.0))
      (read_cell c.args.cells.now c.loop-square.square _ c.index-cells-square.result (omega (arith, c.told-cells)) refl) c.loop-square.invariant.1,
)

pub returns : goal.returns
returns c = same_cells (cells_of c.loop-square.codes) c.args.cells.now (as_many_cells c.loop-square.codes ∙ (c.loop-square.invariant.0 ∙ sym c.told-cells))
    (λ s h. c.loop-square.invariant.1 s (omega (arith, as_many_cells c.loop-square.codes, c.loop-square.invariant.0)))
