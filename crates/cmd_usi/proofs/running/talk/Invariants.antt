use Rattle.std.proofs.Common.{◌≡◌, ◌-◌, length}
use Rattle.input_lines.specs.Lines.{place_of}
use Rattle.input_lines.specs.declared.lines.TheConstants.{MOST_INPUT_BYTES}
use Rattle.one_run.specs.Stops.{signals}
use Rattle.cmd_usi.specs.Inside.{talk_view}
use Rattle.cmd_usi.specs.Talk.{HasCome}
use Rattle.cmd_usi.proofs.running.talk.Given as goal

-- How far the session has come, and that no call failed.
abbrev pub invariant-loop-end : goal.invariant-loop-end
invariant-loop-end g l = record {
  come : HasCome (record {
    told = g.S.Source.left l.initial.source;
    place = place_of (talk_view l.talk).lines (g.S.Source.left l.source);
    kept = g.K.Sink.kept l.initial.sink;
    kept_after = g.K.Sink.kept l.sink;
    stops = signals g.T.Stop.signal l.initial.stops.items l.stops.items;
  }) (talk_view l.talk).session (talk_view l.talk).replies;
  read : g.S.Source.faults l.source ≡ g.S.Source.faults l.initial.source;
  written : g.K.Sink.faults l.sink ≡ g.K.Sink.faults l.initial.sink;
  as_many : length l.stops.items ≡ length l.initial.stops.items;
}

abbrev pub decreases-loop-end : goal.decreases-loop-end
decreases-loop-end g l = MOST_INPUT_BYTES - (talk_view l.talk).lines.given
