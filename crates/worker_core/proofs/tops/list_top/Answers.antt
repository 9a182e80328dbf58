use Rattle.std.proofs.Common.{arith}
use Rattle.worker_core.proofs.Last.{on_top_ok, both_ok, listed_place, path_on_top}
use Rattle.worker_core.proofs.tops.list_top.Goals as goal

pub returns-clause-listed : goal.returns-clause-listed
returns-clause-listed c = on_top_ok c.list.result _ c.args.frames.now _ c.index-frames-last.result _ (omega (arith, c.requires.some)) (both_ok c.list.result _ _ c.list.ensures.children c.list.ensures.listed)

pub returns-clause-path : goal.returns-clause-path
returns-clause-path c = path_on_top c.args.frames.now _ c.index-frames-last.result _ (omega (arith, c.requires.some)) (listed_place c.list.result _ _ c.list.ensures.listed c.list.ensures.unchanged)
