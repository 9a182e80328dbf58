use Rattle.std.proofs.Common.{◌≡◌, List, arith, take, map, sym, ap, ◌∙◌, add-one}
use Rattle.std.proofs.lemmas.List.{take_all}
use Rattle.visit_log.specs.Frame.{FrameView}
use Rattle.visit_log.specs.Machine.{bare}
use Rattle.worker_core.proofs.Last.{one_more_bare}
use Rattle.worker_core.proofs.tops.bare_all.Goals as goal

pub loop-frame-preserved : goal.loop-frame-preserved
loop-frame-preserved c =
    let i = c.loop-frame.frame-index in
    let xs : List FrameView = c.loop-frame.frames in
    let r = one_more_bare xs c.args.frames.now i c.frame-item.result (omega (arith, c.loop-frame-test.true, c.loop-frame.auto.frames)) c.loop-frame.invariant.bared c.loop-frame.invariant.others in
    let e = c.bare.ensures in
    record {
      bared = rw (e, add-one) r.0;
      others = rw (e, add-one) r.1;
    }

pub returns : goal.returns
returns c =
    let n = c.loop-frame.frame-index in
    let a : take n c.loop-frame.frames ≡ c.loop-frame.frames = take_all n c.loop-frame.frames (omega (arith, c.loop-frame-test.false, c.loop-frame.auto.frames)) in
    let b : take n c.args.frames.now ≡ c.args.frames.now = take_all n c.args.frames.now (omega (arith, c.loop-frame-test.false)) in
    sym a ∙ (c.loop-frame.invariant.bared ∙ ap (map bare) b)
