use Rattle.std.proofs.Common.{◌≡◌, length}
use Rattle.problem_lines.specs.Lines.{problem_lines}
use Rattle.one_run.specs.Outside.{shown}
use Rattle.one_run.specs.Serial.{AreSoFar}
use Rattle.cmd_collection.specs.Asked.{collect_in}
use Rattle.cmd_collection.specs.Meaning.{collection_meaning}
use Rattle.cmd_collection.proofs.running.collected.Given as goal

-- the lines so far are decided and told
abbrev pub invariant-loop-next : goal.invariant-loop-next
invariant-loop-next g l = AreSoFar (collection_meaning (collect_in l.asked)) (problem_lines (collect_in l.asked).form.first l.input) l.reports.lines
    (shown g.K.Sink.kept g.K.Sink.faults l.fn.sink l.sink) l.counts × (l.reports.settings ≡ (collect_in l.asked).settings) × (l.reports.form ≡ (collect_in l.asked).form)

abbrev pub decreases-loop-next : goal.decreases-loop-next
decreases-loop-next g l = length l.reports.lines
