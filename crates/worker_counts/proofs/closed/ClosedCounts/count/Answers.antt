use Rattle.core.specs.Mem.Slots.{slots_items}
use Rattle.worker_counts.proofs.Views.{slice_get-at}
use Rattle.worker_counts.proofs.closed.ClosedCounts.count.Goals as goal

pub returns : goal.returns
returns c = rw (← c.self.view_is) (slice_get-at (slots_items c.self.inside.closed.words) c.args.word c.word.result c.word.ensures)
