use Rattle.std.proofs.Common.{◌≡◌, ◌+◌, ◌≤◌, ◌-◌, vec_len}
use Rattle.input_lines.specs.Lines.{Gave, HasNoFeed, place_of}
use Rattle.input_lines.specs.declared.lines.TheConstants.{MOST_LINE_BYTES}
use Rattle.input_lines.proofs.lines.InputLines.next.Given as goal

-- What has come of the line so far was given, it has no line feed and isn't too
-- long, and no read failed.
abbrev pub invariant-loop-line : goal.invariant-loop-line
invariant-loop-line g l = record {
  gave : Gave (place_of l.initial.self (g.S.Source.left l.initial.source)) (place_of l.self (g.S.Source.left l.source)) l.line.items;
  no_feed : HasNoFeed l.line.items;
  within : vec_len l.line ≤ MOST_LINE_BYTES;
  counted : g.S.Source.faults l.source ≡ g.S.Source.faults l.initial.source;
}

abbrev pub decreases-loop-line : goal.decreases-loop-line
decreases-loop-line g l = MOST_LINE_BYTES + 1 - vec_len l.line
