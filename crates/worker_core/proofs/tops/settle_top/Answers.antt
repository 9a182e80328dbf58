use Rattle.std.proofs.Common.{arith}
use Rattle.worker_core.proofs.Last.{on_top, settles_place, path_on_top}
use Rattle.worker_core.proofs.tops.settle_top.Goals as goal

pub returns-clause-settles : goal.returns-clause-settles
returns-clause-settles c = on_top _ c.args.frames.now _ c.index-frames-last.result _ (omega (arith, c.requires.some)) c.settle.ensures

pub returns-clause-path : goal.returns-clause-path
returns-clause-path c = path_on_top c.args.frames.now _ c.index-frames-last.result _ (omega (arith, c.requires.some)) (settles_place _ _ _ _ c.settle.ensures)
