use Rattle.side_by_side.specs.Inside.{AreMade}
use Rattle.side_by_side.proofs.member.do_jobs.Given as goal

-- what was made so far are answers of their jobs
abbrev pub invariant-loop : goal.invariant-loop
invariant-loop g l = AreMade (g.J.Jobs.is_answer l.fn.jobs) l.all.items
