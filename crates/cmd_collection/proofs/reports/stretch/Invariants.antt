use Rattle.std.proofs.Common.{◌≡◌, ◌++◌, map, vec_len}
use Rattle.problem_lines.specs.Lines.{seen}
use Rattle.cmd_collection.proofs.reports.stretch.Given as goal

-- the lines so far are taken
abbrev pub invariant-loop : goal.invariant-loop
invariant-loop l = (vec_len l.stretch ≡ l.counter) × (l.fn.lines ≡ map seen l.stretch.items ++ l.lines)
