-- What is left to come stays the same from line to line, till one is given; each line takes a byte
-- at least.
use Rattle.std.proofs.Common.{◌≡◌, length}
use Rattle.collection_text.specs.Lines.{whole_lines}
use Rattle.collection_text.specs.Told.{told_among}
use Rattle.collection_text.proofs.told.ToldLines.next.Given as goal

abbrev pub invariant-loop-self : goal.invariant-loop-self
invariant-loop-self l = told_among (whole_lines l.self-inside.rest.now) ≡ told_among (whole_lines l.initial.self-inside.rest.now)

abbrev pub decreases-loop-self : goal.decreases-loop-self
decreases-loop-self l = length l.self-inside.rest.now
