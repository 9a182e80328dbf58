use Rattle.std.proofs.Common.{arith, ◌∙◌}
use Rattle.board_core.specs.Code.{cells_of}
use Rattle.board_core.proofs.Packing.{word_step}
use Rattle.board_core.proofs.Packed.{as_many_cells}
use Rattle.board_core.proofs.pack.word.Goals as goal

pub loop-step-preserved : goal.loop-step-preserved
loop-step-preserved c = word_step (cells_of c.args.codes.now) c.args.to c.loop-step.step c.loop-step.word c.code_at.result (as_many_cells c.args.codes.now ∙ c.told-codes) c.requires.to
    (omega arith) (omega arith) c.loop-step.invariant c.code_at.ensures.code
