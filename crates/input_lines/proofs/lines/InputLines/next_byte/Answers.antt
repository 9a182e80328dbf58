use Rattle.input_lines.specs.Lines.{place_of}
use Rattle.input_lines.proofs.Taken.{came, more_by_same}
use Rattle.input_lines.proofs.lines.InputLines.next_byte.Goals as goal

-- The byte that was one too many was to come.
pub returns-then-self-eq-MOST_INPUT_BYTES-clause-too_long : goal.returns-then-self-eq-MOST_INPUT_BYTES-clause-too_long
returns-then-self-eq-MOST_INPUT_BYTES-clause-too_long g c =
    let read = c.refill.new.self in
    let left = g.S.Source.left c.refill.new.source in
    λ _. more_by_same (place_of c.args.self.now (g.S.Source.left c.args.source.now)) (place_of read left) c.in_ok-refill.ensures.same
    (came read.given read.ahead c.pop_front.new.self.items c.in-Some.byte left cc)
