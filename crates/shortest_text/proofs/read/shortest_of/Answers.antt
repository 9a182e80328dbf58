use Rattle.shortest_text.proofs.Outcomes.{lone_line, no_rank, front_no_limit}
use Rattle.shortest_text.proofs.read.shortest_of.Goals as goal

pub returns-in_default-cut : goal.returns-in_default-cut
returns-in_default-cut c = lone_line c.args.bytes.now c.in_default.ensures.none c.in_default-cut.ensures.none

pub returns-in_default-numbered_line : goal.returns-in_default-numbered_line
returns-in_default-numbered_line c =
    no_rank c.args.bytes.now c.in-Some-cut.front.now c.in-Some-cut.rest.now c.in_default.ensures.none c.in-Some-cut.ensures.parts c.in-Some-cut.ensures.front
    c.in_default-numbered_line.ensures.none

pub found_of-requires-clause-not_none : goal.found_of-requires-clause-not_none
found_of-requires-clause-not_none c = front_no_limit c.args.bytes.now c.in-Some-cut.front.now c.in-Some-cut.rest.now c.in_default.ensures.none c.in-Some-cut.ensures.parts
