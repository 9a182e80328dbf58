use Rattle.std.proofs.Common.{arith, ap}
use Rattle.visit_log.specs.Frame.{FrameView}
use Rattle.worker_core.proofs.Last.{on_top_ok, place_kept, path_on_top}
use Rattle.worker_core.proofs.tops.look_top.Goals as goal

pub returns-clause-looked : goal.returns-clause-looked
returns-clause-looked c = on_top_ok c.look.result _ c.args.frames.now _ c.index-frames-last.result _ (omega (arith, c.requires.some)) c.look.ensures.looked

pub returns-clause-path : goal.returns-clause-path
returns-clause-path c = path_on_top c.args.frames.now _ c.index-frames-last.result _ (omega (arith, c.requires.some))
    (place_kept c.look.result _ _ _ (λ told. ap (λ (z : FrameView). z.place) told.5) c.look.ensures.looked c.look.ensures.unchanged)
