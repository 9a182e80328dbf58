use Rattle.std.proofs.Common.{◌-◌, ◌∙◌, length, drop, arith, length-drop, length-take-le}
use Rattle.tsume_io.proofs.Pieces.{GrewBy-next}
use Rattle.tsume_io.proofs.sink.write_all.Goals as goal

pub loop-done-preserved : goal.loop-done-preserved
loop-done-preserved g c =
    let done = c.loop-done.done in
    let bytes = c.args.bytes.now in
    let wrote = c.in_ok-done.ensures in
    record {
      within = omega (arith, wrote.count.within, length-take-le (length bytes - done) (drop done bytes) (omega (arith, length-drop done bytes)), length-drop done bytes);
      grew = GrewBy-next _ _ _ bytes done c.in_ok-done.field-0 c.loop-done.invariant.grew wrote.grew;
      counted = wrote.counted ∙ c.loop-done.invariant.counted;
    }
