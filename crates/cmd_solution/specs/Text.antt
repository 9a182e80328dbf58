-- How a verdict on a solution is told.
use Rattle.std.specs.Prelude.{◌++◌, ℕ, List, Bool, true, false, codes}
use Rattle.std.specs.Fmt.{decimal}
use Rattle.cert_text.specs.Entries.{line}
use Rattle.cmd_solution.specs.declared.verdict.SolutionVerdict.{SolutionVerdict}

-- Behind the number of moves: whether they end in mate.
abbrev pub ending_text : Bool → List ℕ
ending_text true = codes " mate"
ending_text false = codes " open"

-- The line of a verdict: the number of moves, and whether they end in mate.
abbrev pub verdict_text : SolutionVerdict → List ℕ
verdict_text verdict = line (codes "solution " ++ (decimal verdict.moves ++ ending_text verdict.mate))

-- The status: 0, whether they end in mate or not.
abbrev pub verdict_status : SolutionVerdict → ℕ
verdict_status verdict = 0
