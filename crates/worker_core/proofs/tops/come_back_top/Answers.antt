use Rattle.std.proofs.Common.{arith, ap}
use Rattle.visit_log.specs.Frame.{FrameView}
use Rattle.worker_core.proofs.Last.{on_top, path_on_top}
use Rattle.worker_core.proofs.tops.come_back_top.Goals as goal

pub returns-clause-back : goal.returns-clause-back
returns-clause-back c = on_top _ c.args.frames.now _ c.index-frames-last.result _ (omega (arith, c.requires.some)) c.come_back.ensures

pub returns-clause-path : goal.returns-clause-path
returns-clause-path c = path_on_top c.args.frames.now _ c.index-frames-last.result _ (omega (arith, c.requires.some)) (ap (λ (z : FrameView). z.place) c.come_back.ensures.2)
