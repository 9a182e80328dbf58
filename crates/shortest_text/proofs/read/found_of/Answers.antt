use Rattle.std.proofs.Common.{◌++◌, subst, sym, Err}
use Rattle.cert_text.specs.Entries.{line}
use Rattle.shortest_text.specs.declared.fault.ShortestEnd.{ShortestEnd}
use Rattle.shortest_text.specs.Text.{shortest_line}
use Rattle.shortest_text.specs.Reading.{IsShortestOutcome}
use Rattle.shortest_text.proofs.Outcomes.{certificate_ends, bound_ends_found, found_read}
use Rattle.shortest_text.proofs.read.found_of.Goals as goal

pub returns-in-Err : goal.returns-in-Err
returns-in-Err c =
    subst (λ (e : ShortestEnd). IsShortestOutcome (line c.args.front.now ++ (shortest_line c.args.rank ++ c.args.text.now)) (Err e)) (sym c.from.ensures)
    (certificate_ends c.args.front.now c.args.rank c.up_to_end.result.0.now c.up_to_end.result.1.now c.args.text.now c.requires.is_line c.requires.not_none
    c.up_to_end.ensures.parts c.up_to_end.ensures.ends c.in-Err.end c.in-Err.ensures)

pub returns-in-Err-read_bound : goal.returns-in-Err-read_bound
returns-in-Err-read_bound c =
    subst (λ (e : ShortestEnd). IsShortestOutcome (line c.args.front.now ++ (shortest_line c.args.rank ++ c.args.text.now)) (Err e)) (sym c.from-in-Err-read_bound.ensures)
    (bound_ends_found c.args.front.now c.args.rank c.up_to_end.result.0.now c.up_to_end.result.1.now c.args.text.now c.requires.is_line c.requires.not_none
    c.up_to_end.ensures.parts c.up_to_end.ensures.ends c.in-Ok.certificate c.problem.result.now.position c.in-Err-read_bound.end c.in-Ok.ensures c.problem.ensures.problem
    c.in-Err-read_bound.ensures.exact)

pub returns : goal.returns
returns c =
    found_read c.args.front.now c.args.rank c.up_to_end.result.0.now c.up_to_end.result.1.now c.args.text.now c.requires.is_line c.requires.not_none
    c.up_to_end.ensures.parts c.up_to_end.ensures.ends c.in-Ok.certificate c.problem.result.now.position c.in-Ok-read_bound.bound c.in-Ok.ensures c.problem.ensures.problem
    c.in-Ok-read_bound.ensures.exact
