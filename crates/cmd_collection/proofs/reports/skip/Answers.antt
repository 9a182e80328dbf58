use Rattle.cmd_collection.proofs.Places.{skipped_one}
use Rattle.cmd_collection.proofs.reports.skip.Goals as goal

pub loop-preserved : goal.loop-preserved
loop-preserved c = skipped_one c.args.lines.now c.loop.counter c.loop.lines c.next.new.self c.next.result c.loop.invariant c.next.ensures
