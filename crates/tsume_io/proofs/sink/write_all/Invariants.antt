use Rattle.std.proofs.Common.{◌≡◌, ◌≤◌, ◌-◌, length, take}
use Rattle.tsume_io.specs.Sink.{GrewBy}
use Rattle.tsume_io.proofs.sink.write_all.Given as goal

-- The sink has kept what is done so far, and no write failed.
abbrev pub invariant-loop-done : goal.invariant-loop-done
invariant-loop-done g l = record {
  within : l.done ≤ length l.bytes;
  grew : GrewBy (g.K.Sink.kept l.initial.sink) (g.K.Sink.kept l.sink) (take l.done l.bytes);
  counted : g.K.Sink.faults l.sink ≡ g.K.Sink.faults l.initial.sink;
}

abbrev pub decreases-loop-done : goal.decreases-loop-done
decreases-loop-done g l = length l.bytes - l.done
