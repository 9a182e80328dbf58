-- What is left to come stays the same from line to line, till one is given; each line takes a byte
-- at least.
use Rattle.std.proofs.Common.{◌≡◌, ◌+◌, ◌<◌, ◌^◌, length}
use Rattle.std.specs.Str.Lines.{lines}
use Rattle.problem_lines.specs.Lines.{problems_among}
use Rattle.problem_lines.proofs.lines.Lines.next.Given as goal

abbrev pub invariant-loop-self : goal.invariant-loop-self
invariant-loop-self l = record {
  same : problems_among l.self-inside.number (lines l.self-inside.rest.now) ≡ problems_among l.initial.self-inside.number (lines l.initial.self-inside.rest.now);
  few : l.self-inside.number + length l.self-inside.rest.now < 2 ^ 64;
}

abbrev pub decreases-loop-self : goal.decreases-loop-self
decreases-loop-self l = length l.self-inside.rest.now
